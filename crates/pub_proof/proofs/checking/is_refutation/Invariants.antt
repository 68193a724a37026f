use Rattle.std.proofs.Common.{◌≡◌, drop}
use Rattle.pub_proof.specs.Root.{is_refutation}
use Rattle.pub_proof.proofs.checking.is_refutation.Given as goal

abbrev pub invariant-loop-term : goal.invariant-loop-term
invariant-loop-term l = is_refutation l.root (drop l.term-index l.term-items) ≡ is_refutation l.root l.incompat.terms
