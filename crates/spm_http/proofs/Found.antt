-- What the spans of a parsed head say.
use Rattle.std.proofs.Common.{◌≡◌, ◌≢◌, ℕ, ◌<◌, ◌≤◌, true, cond, is_ok, IsUtf8, List, [], ◌∷◌, length, take, map, refl, sym, ap, ◌∙◌, subst, arith, append-nil, length-take, Option, Some, Result, Ok, Err, codes}
use Rattle.std.proofs.lemmas.Bool.{true≢false}
use Rattle.std.proofs.lemmas.Bool.Decides.{nat_tests}
use Rattle.std.proofs.lemmas.List.{length-map}
use Rattle.std.proofs.lemmas.List.Elements.{All-weaker}
use Rattle.std.proofs.lemmas.Str.{IsUtf8-from_ascii}
use Rattle.std.proofs.lemmas.Str.Ascii.{IsAscii-from_all}
use Rattle.std.specs.Str.{str_eq_ignore_ascii_case}
use Rattle.httparse.specs.declared.Error.{Error}
use Rattle.httparse.specs.declared.Error.TheVariants.{TooManyHeaders}
use Rattle.httparse.specs.declared.Status.{Status}
use Rattle.httparse.specs.declared.Status.TheVariants.{Complete, Partial}
use Rattle.httparse.specs.declared.spans.HeaderSpan.{HeaderSpan}
use Rattle.httparse.specs.declared.spans.RequestSpans.{RequestSpans}
use Rattle.httparse.specs.Grammar.{is_token_byte, IsToken, Field, field_value, RequestHead, ReadsRequest, HasNoRequest, NeverHasRequest}
use Rattle.httparse.specs.Outcome.{IfComplete, OnPartial, OnInvalid}
use Rattle.httparse.specs.Spans.{header_bytes, name_and_value, IsRequestWithin, IsRequestOf, IsRequestAt}
use Rattle.httparse.proofs.GrammarLemmas.{request_unique}
use Rattle.spm_http.specs.Request.{accept_in}
use Rattle.spm_http.specs.Parts.{accept_at, HasFewFields}

-- what is accepted is told by the spans of the fields
pub accept_is : (buf : List ℕ) (spans : List HeaderSpan) (fields : List Field)
    → map (header_bytes buf) spans ≡ map name_and_value fields → accept_at buf spans ≡ accept_in fields
accept_is buf [] [] e = refl
accept_is buf (span ∷ spans) [] e = absurd (omega (arith, ap length e))
accept_is buf [] (field ∷ fields) e = absurd (omega (arith, ap length e))
accept_is buf (span ∷ spans) (field ∷ fields) e =
    let head : header_bytes buf span ≡ name_and_value field = cc e in
    let tail : map (header_bytes buf) spans ≡ map name_and_value fields = cc e in
    ap (λ (p : List ℕ × List ℕ). cond (str_eq_ignore_ascii_case p.0 (codes "accept")) (Some p.1) (accept_at buf spans)) head
    ∙ ap (λ (o : Option (List ℕ)). cond (str_eq_ignore_ascii_case field.name (codes "accept")) (Some (field_value field)) o)
    (accept_is buf spans fields tail)

-- as many spans as fields
pub fields_fit : (text : List ℕ) (headers : List HeaderSpan) (spans : RequestSpans) (h : RequestHead)
    → IsRequestWithin text headers spans → IsRequestAt text headers spans h → length h.fields ≤ length headers
fields_fit text headers spans h within at =
    omega (
      arith,
      ap length at.fields,
      length-map (take spans.headers headers) (header_bytes text),
      length-map h.fields name_and_value,
      length-take spans.headers headers,
      within.section.count_fits,
    )

-- a head that has room for its fields has at most 64
pub few_fields : (text : List ℕ) (headers : List HeaderSpan) (r : Result (Status RequestSpans) Error) → length headers ≡ 64
    → IfComplete r (IsRequestWithin text headers) → IfComplete r (IsRequestOf text headers)
    → OnPartial r (HasNoRequest text) → OnInvalid r (NeverHasRequest text) → r ≢ Err TooManyHeaders → HasFewFields text
few_fields text headers (Ok (Complete spans)) room within of none never other head rest reads =
    let same = request_unique text of.0 head _ rest of.1.reads reads in
    omega (arith, ap (λ (h : RequestHead). length h.fields) same.0, fields_fit text headers spans of.0 within of.1, room)
few_fields text headers (Ok Partial) room within of none never other head rest reads = absurd (none head rest reads)
few_fields text headers (Err e) room within of none never other head rest reads =
    absurd (never (λ q. other (ap Err q)) [] head rest
    (subst (λ (t : List ℕ). ReadsRequest t head rest) (sym (append-nil text)) reads))

-- the same of a parse that is no error
pub few_unless_error : (text : List ℕ) (headers : List HeaderSpan) (r : Result (Status RequestSpans) Error) (s : Status RequestSpans)
    → r ≡ Ok s → length headers ≡ 64
    → IfComplete r (IsRequestWithin text headers) → IfComplete r (IsRequestOf text headers)
    → OnPartial r (HasNoRequest text) → OnInvalid r (NeverHasRequest text) → HasFewFields text
few_unless_error text headers r s is room within of none never =
    few_fields text headers r room within of none never (λ e. true≢false (ap is_ok (sym is ∙ e)))

-- what holds of the spans of a complete parse
pub completed : {s : Status RequestSpans} {spans : RequestSpans} (P : RequestSpans → Type 0) → s ≡ Complete spans
    → IfComplete {E = Error} (Ok s) P → P spans
completed P e holds = subst (λ (s : Status RequestSpans). IfComplete {E = Error} (Ok s) P) e holds

-- a token is text
token_is_ascii : (b : ℕ) → is_token_byte b ≡ true → b < 128
unfolding is_token_byte
token_is_ascii b token = grind (arith, nat_tests)

-- a token is UTF-8
pub IsUtf8-token : (bytes : List ℕ) → IsToken bytes → IsUtf8 bytes
IsUtf8-token bytes is =
    IsUtf8-from_ascii bytes (IsAscii-from_all bytes
    (All-weaker (λ b. is_token_byte b ≡ true) (λ b. b < 128) token_is_ascii bytes is.1))
