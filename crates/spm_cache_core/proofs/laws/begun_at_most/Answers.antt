use Rattle.spm_cache_core.proofs.LawLemmas.{begun_most}
use Rattle.spm_cache_core.proofs.laws.begun_at_most.Goals as goal

pub returns : goal.returns
returns c = begun_most
