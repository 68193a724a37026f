use Rattle.spm_cache_core.proofs.LawLemmas.{legal_before}
use Rattle.spm_cache_core.proofs.laws.legal_before.Goals as goal

pub returns : goal.returns
returns c = legal_before
