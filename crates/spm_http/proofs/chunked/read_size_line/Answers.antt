use Rattle.std.proofs.Common.{◌≡◌, ◌≤◌, ◌∙◌, length, drop, sym, ap, Some}
use Rattle.spm_http.specs.Chunked.{size_line}
use Rattle.spm_http.proofs.SizeLines.{line_read, never_line, no_line}
use Rattle.spm_http.proofs.chunked.read_size_line.Goals as goal
use Rattle.spm_http.proofs.chunked.read_size_line.Goals.{In-Ok-Complete}

-- the line that is read is one of the definition
read : (c : In-Ok-Complete) → (c.in-Ok-Complete.len ≤ length c.args.bytes.now)
    × (size_line c.args.bytes.now ≡ Some (c.in-Ok-Complete.size, drop c.in-Ok-Complete.len c.args.bytes.now))
read c =
    let line = rw (c.in-Ok-Complete.field-0-is, c.front_of.ensures) at c.in-Ok-Complete.ensures.complete in
    line_read c.args.bytes.now c.in-Ok-Complete.len c.in-Ok-Complete.size line.0 line.1

pub split_at-requires : goal.split_at-requires
split_at-requires c = (read c).0

pub returns-in-Ok-Complete : goal.returns-in-Ok-Complete
returns-in-Ok-Complete c =
    ap (λ rest. Some (c.in-Ok-Complete.size, rest)) c.split_at.ensures.back ∙ sym (read (goal.at.returns-in-Ok-Complete c).In-Ok-Complete).1

pub returns-in-Ok-Partial : goal.returns-in-Ok-Partial
returns-in-Ok-Partial c =
    sym (no_line c.args.bytes.now (rw (c.in-Ok-Partial.field-0-is, c.front_of.ensures) at c.in-Ok-Partial.ensures.partial))

pub returns-in-Err : goal.returns-in-Err
returns-in-Err c = sym (never_line c.args.bytes.now (rw c.front_of.ensures at c.in-Err.ensures.invalid))
