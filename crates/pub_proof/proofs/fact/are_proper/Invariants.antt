use Rattle.std.proofs.Common.{◌≡◌, drop}
use Rattle.std.specs.List.{list_all}
use Rattle.pub_proof.specs.Checked.{is_proper}
use Rattle.pub_proof.proofs.fact.are_proper.Given as goal

abbrev pub invariant-loop-term : goal.invariant-loop-term
invariant-loop-term l = list_all (is_proper l.sizes) (drop l.term-index l.terms) ≡ list_all (is_proper l.sizes) l.terms
