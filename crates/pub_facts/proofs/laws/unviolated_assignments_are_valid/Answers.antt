use Rattle.pub_facts.proofs.SecondLaw.{second_law}
use Rattle.pub_facts.proofs.laws.unviolated_assignments_are_valid.Goals as goal

pub returns : goal.returns
returns c job catalogue at part agrees reached = second_law job catalogue at agrees part reached
