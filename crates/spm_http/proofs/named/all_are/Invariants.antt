use Rattle.std.specs.Str.{bytes_eq}
use Rattle.std.proofs.Common.{◌≡◌, drop, map}
use Rattle.std.specs.List.{list_all}
use Rattle.httparse.specs.Spans.{header_bytes}
use Rattle.spm_http.specs.Named.{values_in}
use Rattle.spm_http.proofs.named.all_are.Given as goal

-- What is left has to be equal.
abbrev pub invariant-loop-field : goal.invariant-loop-field
invariant-loop-field l =
    list_all (bytes_eq l.value) (values_in l.name (map (header_bytes l.head) (drop l.field-index l.fields)))
    ≡ list_all (bytes_eq l.value) (values_in l.name (map (header_bytes l.head) l.fields))
