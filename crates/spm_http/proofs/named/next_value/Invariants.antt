use Rattle.std.proofs.Common.{◌≡◌, drop, map}
use Rattle.httparse.specs.Spans.{header_bytes}
use Rattle.spm_http.specs.Named.{values_in}
use Rattle.spm_http.proofs.named.next_value.Given as goal

-- All values with the name are in what is left.
abbrev pub invariant-loop-place : goal.invariant-loop-place
invariant-loop-place l =
    values_in l.name (map (header_bytes l.head) (drop l.place l.fields)) ≡ values_in l.name (map (header_bytes l.head) l.fields)
