use Rattle.spm_api.proofs.LeastLemmas.{least_unique}
use Rattle.spm_api.proofs.laws.a_lookup_is_one_identity.Goals as goal

pub returns : goal.returns
returns c = least_unique
