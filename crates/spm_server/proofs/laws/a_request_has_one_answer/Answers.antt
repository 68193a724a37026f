use Rattle.spm_server.proofs.AnswerLaws.{one_answer}
use Rattle.spm_server.proofs.laws.a_request_has_one_answer.Goals as goal

pub returns : goal.returns
returns c = one_answer
