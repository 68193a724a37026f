use Rattle.spm_http.proofs.Found.{few_unless_error}
use Rattle.spm_http.proofs.request_head.has_too_many.Goals as goal

pub returns-in-Ok-clause-few : goal.returns-in-Ok-clause-few
returns-in-Ok-clause-few c _ =
    few_unless_error c.args.text.now c.parse_request.new.headers c.parse_request.result c.in-Ok.field-0 c.in-Ok.is c.parse_request.auto.headers
    c.parse_request.ensures.within c.parse_request.ensures.complete c.parse_request.ensures.partial c.parse_request.ensures.invalid
