use Rattle.spm_api.proofs.ReplyLaws.{reply_unique}
use Rattle.spm_api.proofs.laws.a_response_is_one_reply.Goals as goal

pub returns : goal.returns
returns c = reply_unique
