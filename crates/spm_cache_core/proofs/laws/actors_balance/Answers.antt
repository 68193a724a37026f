use Rattle.spm_cache_core.proofs.LawLemmas.{begun_by_most, begun_by_reasons}
use Rattle.spm_cache_core.proofs.laws.actors_balance.Goals as goal

pub returns : goal.returns
returns c = record { failed = begun_by_most; reasons = begun_by_reasons }
