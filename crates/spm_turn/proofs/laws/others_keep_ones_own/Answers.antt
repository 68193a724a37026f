use Rattle.spm_turn.proofs.Places.{others_keep, others_keep_places}
use Rattle.spm_turn.proofs.laws.others_keep_ones_own.Goals as goal

pub returns-clause-places : goal.returns-clause-places
returns-clause-places g c = λ by numbers seen log o. others_keep_places by numbers seen log o

pub returns-clause-entries : goal.returns-clause-entries
returns-clause-entries g c = λ by numbers seen log o. others_keep by numbers seen log o
