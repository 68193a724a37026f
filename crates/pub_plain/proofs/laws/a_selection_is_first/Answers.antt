use Rattle.pub_plain.proofs.FirstSelection.{selection_first}
use Rattle.pub_plain.proofs.laws.a_selection_is_first.Goals as goal

pub returns : goal.returns
returns c = selection_first
