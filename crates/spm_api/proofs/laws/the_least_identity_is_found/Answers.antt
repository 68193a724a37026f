use Rattle.spm_api.proofs.LeastIdentity.{least_identity_is}
use Rattle.spm_api.proofs.laws.the_least_identity_is_found.Goals as goal

pub returns : goal.returns
returns c = least_identity_is
