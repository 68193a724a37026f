use Rattle.spm_api.proofs.ReplyLaws.{some_reply}
use Rattle.spm_api.proofs.laws.every_response_is_a_reply.Goals as goal

pub returns : goal.returns
returns c = some_reply
