use Rattle.spm_turn.proofs.Places.{one_more_place}
use Rattle.spm_turn.proofs.laws.turns_add_the_last_place.Goals as goal

pub returns-clause-places : goal.returns-clause-places
returns-clause-places g c = λ by numbers log e own. one_more_place by numbers log e own
