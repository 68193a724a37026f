use Rattle.spm_cache_core.proofs.LawLemmas.{canceller_stays, landed_stays}
use Rattle.spm_cache_core.proofs.laws.landed_stays.Goals as goal

pub returns : goal.returns
returns c = record { landed = landed_stays; canceller = canceller_stays }
