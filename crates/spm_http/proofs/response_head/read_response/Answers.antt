use Rattle.std.proofs.Common.{arith, sym, length-take}
use Rattle.spm_http.proofs.ResponseHeads.{hears_behind, hears_garbled, no_head, no_room}
use Rattle.spm_http.proofs.response_head.read_response.Goals as goal

pub split_at-requires-in-Ok-Complete : goal.split_at-requires-in-Ok-Complete
split_at-requires-in-Ok-Complete c =
    let within = rw (c.in-Ok-Complete.field-0-is, c.front_of-head.ensures) at c.in-Ok-Complete.ensures.within in
    omega (arith, within.section.len_fits, length-take 65536 c.args.bytes.now)

pub returns-in-Ok-Complete : goal.returns-in-Ok-Complete
returns-in-Ok-Complete c =
    let head = rw (c.in-Ok-Complete.field-0-is, c.front_of-head.ensures) at c.in-Ok-Complete.ensures.complete in
    hears_behind c.read_behind.result c.args.limit c.args.bytes.now c.parse_response.new.headers c.in-Ok-Complete.spans head.0
    (sym c.if-is_too_long.ensures) head.1 c.parse_response.auto.headers
    (rw (c.split_at.ensures.front, c.split_at-in-Ok-Complete.ensures.back, c.front_of-head.ensures) at c.read_behind.ensures)

pub returns-in-Ok-Partial : goal.returns-in-Ok-Partial
returns-in-Ok-Partial c =
    hears_garbled c.args.limit c.args.bytes.now (sym c.if-is_too_long.ensures)
    (no_head c.args.bytes.now (rw (c.in-Ok-Partial.field-0-is, c.front_of-head.ensures) at c.in-Ok-Partial.ensures.partial))

pub returns-in-Err : goal.returns-in-Err
returns-in-Err c =
    hears_garbled c.args.limit c.args.bytes.now (sym c.if-is_too_long.ensures)
    (no_room c.args.bytes.now (rw c.front_of-head.ensures at c.in-Err.ensures.no_room))
