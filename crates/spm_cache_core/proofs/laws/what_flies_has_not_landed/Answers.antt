use Rattle.spm_cache_core.proofs.LawLemmas.{flying_is_new}
use Rattle.spm_cache_core.proofs.laws.what_flies_has_not_landed.Goals as goal

pub returns : goal.returns
returns c = flying_is_new
