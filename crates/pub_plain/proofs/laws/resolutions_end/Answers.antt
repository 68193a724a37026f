use Rattle.pub_plain.proofs.EndingLemmas.{solver_ends}
use Rattle.pub_plain.proofs.StepLemmas.{given_falls, given_few, turned_falls}
use Rattle.pub_plain.proofs.laws.resolutions_end.Goals as goal

pub returns-clause-turned : goal.returns-clause-turned
returns-clause-turned c = turned_falls

pub returns-clause-given : goal.returns-clause-given
returns-clause-given c = given_falls

pub returns-clause-few : goal.returns-clause-few
returns-clause-few c = given_few

pub returns-clause-ends : goal.returns-clause-ends
returns-clause-ends c = solver_ends
