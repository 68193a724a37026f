use Rattle.spm_cache_core.proofs.LawLemmas.{one_asked, one_claimed}
use Rattle.spm_cache_core.proofs.laws.answers_are_determined.Goals as goal

pub returns : goal.returns
returns c = record { asked = one_asked; claimed = one_claimed }
