use Rattle.std.proofs.Common.{drop}
use Rattle.solver_tests.specs.Agreed.{Agree}
use Rattle.solver_tests.proofs.terms.agree.Given as goal

-- where the terms that are left agree, all do
abbrev pub invariant-loop-term : goal.invariant-loop-term
invariant-loop-term l = Agree (drop l.term-index l.first) l.second.terms l.on → Agree l.first l.second.terms l.on
