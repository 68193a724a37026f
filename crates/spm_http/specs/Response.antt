-- Reading a response (HTTP/1.1, RFC 9112) with a limit on its body: what is heard is a function of its head and of what follows.
use Rattle.std.specs.Str.{bytes_eq}
use Rattle.std.specs.Prelude.{◌≡◌, ℕ, ◌+◌, ◌*◌, ◌≤◌, ◌⊎◌, ◌==◌, ◌&&◌, ◌||◌, List, [], ◌∷◌, length, take, codes, Bool, true, false, nat_le, nat_lt, Result, Ok, Err, if◌then◌else◌}
use Rattle.std.specs.Char.{is_ascii_digit}
use Rattle.std.specs.List.{list_all}
use Rattle.std.specs.Str.{str_eq_ignore_ascii_case}
use Rattle.std.specs.Str.Parse.{digits_value}
use Rattle.httparse.specs.Grammar.{Field, ReadsResponse, ResponseHead, field_value, print_response, status_code}
use Rattle.spm_http.specs.Chunked.{chunked_body}
use Rattle.spm_http.specs.declared.response_head.Heard.{Heard}
use Rattle.spm_http.specs.declared.response_head.Heard.TheVariants.{Whole, Garbled, TooLong}
use Rattle.std.specs.declared.alloc.AllocError.{AllocError}

-- a head, with what follows it, stands at the front of the bytes: at most 64 fields, within the first 65,536 bytes
pub record HasResponse (bytes : List ℕ) (head : ResponseHead) (rest : List ℕ) : Type 0 where
  pub reads : ReadsResponse bytes head rest
  pub fields : length head.fields ≤ 64
  pub fits : length (print_response head) ≤ 65536

-- the values of the fields with this name, in any case, in their order
abbrev pub values_of : List ℕ → List Field → List (List ℕ)
values_of name [] = []
values_of name (field ∷ fields) =
    if str_eq_ignore_ascii_case field.name name then field_value field ∷ values_of name fields else values_of name fields

-- ---- a body whose length is said

-- 1 to 19 digits
abbrev pub is_length : List ℕ → Bool
is_length text = nat_lt 0 (length text) && nat_le (length text) 19 && list_all is_ascii_digit text

abbrev pub body_of_length : ℕ → ℕ → ℕ → List ℕ → Heard
body_of_length status limit said rest =
    if nat_lt limit said then TooLong
    else if nat_lt (length rest) said then Garbled
    else Whole status (take said rest)

-- ---- a body up to the end

abbrev pub body_to_end : ℕ → ℕ → List ℕ → Heard
body_to_end status limit rest = if nat_lt limit (length rest) then TooLong else Whole status rest

-- ---- which of these

abbrev pub by_lengths : ℕ → ℕ → List (List ℕ) → List ℕ → Heard
by_lengths status limit [] rest = body_to_end status limit rest
by_lengths status limit (said ∷ others) rest =
    if is_length said && list_all (bytes_eq said) others then body_of_length status limit (digits_value 10 said) rest else Garbled

abbrev pub by_encodings : ℕ → ℕ → List (List ℕ) → List (List ℕ) → List ℕ → Heard
by_encodings status limit [] lengths rest = by_lengths status limit lengths rest
by_encodings status limit (encoding ∷ []) lengths rest =
    if str_eq_ignore_ascii_case encoding (codes "chunked") then chunked_body status limit rest else Garbled
by_encodings status limit (encoding ∷ next ∷ others) lengths rest = Garbled

-- an interim response isn't read; a response without content has no body, whatever its fields say
abbrev pub heard_of : ℕ → ResponseHead → List ℕ → Heard
heard_of limit head rest =
    if nat_lt (status_code head) 200 then Garbled
    else if status_code head == 204 || status_code head == 304 then Whole (status_code head) []
    else by_encodings (status_code head) limit (values_of (codes "transfer-encoding") head.fields) (values_of (codes "content-length") head.fields) rest

-- what is heard where the bytes have a head
pub record IsHeardOf (limit : ℕ) (bytes : List ℕ) (heard : Heard) : Type 0 where
  pub head : ResponseHead
  pub rest : List ℕ
  pub has : HasResponse bytes head rest
  pub is : heard ≡ heard_of limit head rest

-- bytes without a head are garbled
abbrev pub HasNoResponse : List ℕ → Type 0
HasNoResponse bytes = (head : ResponseHead) (rest : List ℕ) → ¬ (HasResponse bytes head rest)

abbrev pub IsHeardIn : Bool → ℕ → List ℕ → Heard → Type 0
IsHeardIn true limit bytes heard = heard ≡ TooLong
IsHeardIn false limit bytes heard = IsHeardOf limit bytes heard ⊎ (HasNoResponse bytes × (heard ≡ Garbled))

-- more than twice the limit and 65,536 bytes are too long, whatever they are
abbrev pub Hears : Result Heard AllocError → ℕ → List ℕ → Type 0
Hears (Ok heard) limit bytes = IsHeardIn (nat_lt (2 * limit + 65536) (length bytes)) limit bytes heard
Hears (Err no_memory) limit bytes = Unit {0}
