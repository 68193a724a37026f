use Rattle.spm_cache_core.proofs.LawLemmas.{balance, lands_once}
use Rattle.spm_cache_core.proofs.laws.flights_balance.Goals as goal

pub returns : goal.returns
returns c = record { balance = balance; once = lands_once }
