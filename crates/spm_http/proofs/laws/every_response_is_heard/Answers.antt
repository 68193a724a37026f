use Rattle.spm_http.proofs.SomeAnswer.{heard_somehow}
use Rattle.spm_http.proofs.laws.every_response_is_heard.Goals as goal

pub returns : goal.returns
returns c = heard_somehow
