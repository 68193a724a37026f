use Rattle.pub_plain.proofs.StopLemmas.{turn_stops}
use Rattle.pub_plain.proofs.laws.a_turn_needs_what_is_not_given.Goals as goal

pub returns : goal.returns
returns c = turn_stops
