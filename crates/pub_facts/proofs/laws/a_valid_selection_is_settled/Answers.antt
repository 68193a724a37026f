use Rattle.pub_facts.proofs.FirstOne.{settled}
use Rattle.pub_facts.proofs.laws.a_valid_selection_is_settled.Goals as goal

pub returns : goal.returns
returns c prefers job catalogue selection preferred valid = settled prefers (λ said wider. Unit {0}) job catalogue selection preferred valid
