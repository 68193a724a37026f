-- The fields of a head as pairs of a name and a value, which is what the spans of its parser cover.
use Rattle.std.specs.Prelude.{ℕ, ◌==◌, ◌||◌, List, [], ◌∷◌, Option, Some, None, codes, nat_lt, if◌then◌else◌}
use Rattle.std.specs.Str.{str_eq_ignore_ascii_case}
use Rattle.spm_http.specs.Response.{by_encodings}
use Rattle.spm_http.specs.declared.response_head.Heard.{Heard}
use Rattle.spm_http.specs.declared.response_head.Heard.TheVariants.{Whole, Garbled}

-- the values with this name, in any case, in their order
abbrev pub values_in : List ℕ → List (List ℕ × List ℕ) → List (List ℕ)
values_in name [] = []
values_in name (pair ∷ pairs) =
    if str_eq_ignore_ascii_case pair.0 name then pair.1 ∷ values_in name pairs else values_in name pairs

-- the values where the first is known, with the pairs behind it
abbrev pub from_next : List ℕ → Option (List ℕ × List (List ℕ × List ℕ)) → List (List ℕ)
from_next name None = []
from_next name (Some next) = next.0 ∷ values_in name next.1

-- what is heard behind a head with this status and these fields
abbrev pub heard_by : ℕ → ℕ → List (List ℕ × List ℕ) → List ℕ → Heard
heard_by limit status pairs rest =
    if nat_lt status 200 then Garbled
    else if status == 204 || status == 304 then Whole status []
    else by_encodings status limit (values_in (codes "transfer-encoding") pairs) (values_in (codes "content-length") pairs) rest
