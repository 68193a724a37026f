use Rattle.spm_session.proofs.StayLemmas.{outcome_stays}
use Rattle.spm_session.proofs.laws.outcomes_stay.Goals as goal

pub returns : goal.returns
returns c = λ same job fingerprints pins catalogue more it wider is. outcome_stays same job fingerprints pins catalogue more wider it is
