use Rattle.pub_plain.proofs.MoreLemmas.{same_turn, still_solver}
use Rattle.pub_plain.proofs.laws.more_answers_change_nothing.Goals as goal

pub returns-clause-solver : goal.returns-clause-solver
returns-clause-solver c = λ answers more state is carries short. still_solver answers more carries state is short

pub returns-clause-turn : goal.returns-clause-turn
returns-clause-turn c = λ job pins answers more state is carries. same_turn job pins answers more carries state is
