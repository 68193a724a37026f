use Rattle.pub_trail.proofs.SelectionLemmas.{turn_chosen}
use Rattle.pub_trail.proofs.laws.selections_are_first.Goals as goal

pub returns : goal.returns
returns c = λ prefers limits rules facts state are firsts is history was. turn_chosen prefers facts limits rules state is history was are firsts
