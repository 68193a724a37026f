use Rattle.spm_api.proofs.RequestLaws.{same_request}
use Rattle.spm_api.proofs.laws.different_keys_have_different_requests.Goals as goal

pub returns : goal.returns
returns c = same_request
