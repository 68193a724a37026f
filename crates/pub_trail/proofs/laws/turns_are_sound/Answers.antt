use Rattle.pub_trail.proofs.TurnLemmas.{turn_keeps}
use Rattle.pub_trail.proofs.laws.turns_are_sound.Goals as goal

pub returns : goal.returns
returns c = λ limits rules facts state are is. turn_keeps facts limits rules state is are
