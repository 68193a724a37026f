use Rattle.spm_http.proofs.OneAnswer.{heard_unique}
use Rattle.spm_http.proofs.laws.a_response_is_heard_one_way.Goals as goal

pub returns : goal.returns
returns c = heard_unique
