use Rattle.spm_cache_core.proofs.LawLemmas.{cancelled_follows, flight_follows, session_follows}
use Rattle.spm_cache_core.proofs.laws.flights_follow.Goals as goal

pub returns : goal.returns
returns c = record { flight = flight_follows; session = session_follows; cancelled = cancelled_follows }
