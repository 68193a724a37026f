use Rattle.spm_flight.proofs.WorkLemmas.{does_nothing, does_then}
use Rattle.spm_flight.proofs.laws.work_goes_on.Goals as goal

pub returns : goal.returns
returns c = record { rests = does_nothing; goes_on = does_then }
