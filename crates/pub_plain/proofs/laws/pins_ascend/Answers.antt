use Rattle.pub_plain.proofs.PinLemmas.{solver_pins_ascend}
use Rattle.pub_plain.proofs.laws.pins_ascend.Goals as goal

pub returns : goal.returns
returns c = solver_pins_ascend
