use Rattle.pub_trail.proofs.OpeningLemmas.{opening_chosen, opening_history, opening_is}
use Rattle.pub_plain.proofs.OpeningLemmas.{opening_solver}
use Rattle.pub_plain.proofs.laws.a_solver_opens_right.Goals as goal

pub returns-clause-state : goal.returns-clause-state
returns-clause-state c = opening_is

pub returns-clause-history : goal.returns-clause-history
returns-clause-history c = opening_history

pub returns-clause-chosen : goal.returns-clause-chosen
returns-clause-chosen c = opening_chosen

pub returns-clause-solver : goal.returns-clause-solver
returns-clause-solver c = opening_solver
