use Rattle.spm_http.proofs.OneAnswer.{one_head, one_answer}
use Rattle.spm_http.proofs.laws.a_request_is_one_head.Goals as goal

pub returns : goal.returns
returns c = record { head = one_head; answer = one_answer }
