use Rattle.std.proofs.Common.{subst, ℕ, List, take, arith}
use Rattle.std.proofs.lemmas.List.{take_all}
use Rattle.httparse.specs.Spans.{RequestOverflows, IsRequestWithin}
use Rattle.spm_http.proofs.Found.{completed}
use Rattle.spm_http.proofs.Fronts.{is_read, overflows_no_head, overflows_no_prefix}
use Rattle.spm_http.proofs.request_head.read_request.Goals as goal

pub returns-in_ok-head_of-in-Ok-Complete : goal.returns-in_ok-head_of-in-Ok-Complete
returns-in_ok-head_of-in-Ok-Complete c =
    is_read c.args.bytes.now c.front_of-front.result.now c.parse_request.new.headers c.in-Ok-Complete.spans c.in_ok-head_of-in-Ok-Complete.ensures.0
    c.in_ok-head_of-in-Ok-Complete.field-0 c.front_of-front.ensures c.parse_request.auto.headers (completed (IsRequestWithin c.front_of-front.result.now c.parse_request.new.headers) c.in-Ok-Complete.field-0-is c.in-Ok-Complete.ensures.within)
    c.in_ok-head_of-in-Ok-Complete.ensures.1 c.in_ok-head_of-in-Ok-Complete.ensures.2

pub returns-in-Err : goal.returns-in-Err
returns-in-Err c =
    let over : RequestOverflows 64 (take 65536 c.args.bytes.now) =
    subst (λ (t : List ℕ). RequestOverflows 64 t) c.front_of-front.ensures c.in-Err.ensures.no_room in (
      overflows_no_head c.args.bytes.now over,
      λ short. overflows_no_prefix c.args.bytes.now over (take_all 65536 c.args.bytes.now (omega (arith, short))),
    )
