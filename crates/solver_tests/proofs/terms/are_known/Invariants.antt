use Rattle.std.proofs.Common.{drop}
use Rattle.pub_term.specs.Known.{AreKnown}
use Rattle.solver_tests.proofs.terms.are_known.Given as goal

-- where there is a set for each term that is left, there is one for all
abbrev pub invariant-loop-term : goal.invariant-loop-term
invariant-loop-term l = AreKnown l.known (drop l.term-index l.term-items) → AreKnown l.known l.incompat.terms
