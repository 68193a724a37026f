use Rattle.pub_trail.proofs.HistoryLemmas.{turn_history}
use Rattle.pub_trail.proofs.laws.refutations_are_checked.Goals as goal

pub returns : goal.returns
returns c = λ limits rules facts state are is was same. turn_history same facts limits rules state is was are
