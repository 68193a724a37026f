use Rattle.std.proofs.Common.{◌≡◌, drop}
use Rattle.pub_trail.specs.Turn.{is_refutation}
use Rattle.pub_trail.proofs.walk.is_refutation.Given as goal

abbrev pub invariant-loop-term : goal.invariant-loop-term
invariant-loop-term l = is_refutation (drop l.term-index l.term-items) ≡ is_refutation l.incompat.terms
