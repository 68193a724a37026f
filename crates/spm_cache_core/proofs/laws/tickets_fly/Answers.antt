use Rattle.spm_cache_core.proofs.TicketLemmas.{asked_flies, claimed_flies}
use Rattle.spm_cache_core.proofs.laws.tickets_fly.Goals as goal

pub returns : goal.returns
returns c = record { asked = asked_flies; claimed = claimed_flies }
