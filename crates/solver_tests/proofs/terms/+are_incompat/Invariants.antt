use Rattle.std.proofs.Common.{length}
use Rattle.solver_tests.proofs.terms.+are_incompat.Given as goal

abbrev pub decreases-are_incompat : goal.decreases-are_incompat
decreases-are_incompat l = length l.terms.now
