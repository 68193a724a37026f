use Rattle.std.proofs.Common.{◌≡◌, None, drop}
use Rattle.pub_proof.specs.Checked.{do_ascend}
use Rattle.pub_proof.proofs.fact.do_ascend.Given as goal

abbrev pub invariant-loop-term : goal.invariant-loop-term
invariant-loop-term l = do_ascend l.before (drop l.term-index l.terms) ≡ do_ascend None l.terms
