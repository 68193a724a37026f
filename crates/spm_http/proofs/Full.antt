-- A head of more than 64 fields at the front of the bytes and an end: more bytes make them no head of 64 fields.
use Rattle.std.proofs.Common.{◌≡◌, ℕ, ◌<◌, true, false, List, [], ◌∷◌, ◌++◌, length, take, drop, refl, sym, ap, ◌∙◌, subst, arith, append_assoc, append-nil, length-append, length-take, take-append-drop, inl, inr, flat_map}
use Rattle.std.specs.Prelude.{All, get_or, codes}
use Rattle.std.proofs.lemmas.Bool.{both_ways, true≢false}
use Rattle.std.proofs.lemmas.List.{drop_at, drop_more, same_from_push}
use Rattle.std.proofs.lemmas.List.Elements.{All-cons, All-nil, All-head, All-drop, All-take, All-get_or}
use Rattle.std.proofs.lemmas.Grind.{flat_map-append}
use Rattle.httparse.specs.Grammar.{is_token_byte, IsToken, LineEnd, crlf, lf, print_end, print_blank, print_version, Field, IsField, print_field, print_section, RequestHead, IsRequestHead, ReadsRequest}
use Rattle.httparse.specs.Pieces.{RequestStart, Section}
use Rattle.httparse.specs.Spans.{RequestExceeds}
use Rattle.httparse.proofs.GrammarLemmas.{request_tree, request_pieces}
use Rattle.httparse.proofs.PieceLemmas.{print_field-append, token_is_no_newline, colon_ends_token, RequestStart_deterministic, Section_skip, Stops_token}
use Rattle.spm_http.specs.Request.{IsProperPrefix}
use Rattle.spm_http.proofs.Meet.{Meets, meets}
use Rattle.spm_http.proofs.Heads.{start_bytes, print_head}

-- the start line of a head, whatever follows it
starts : (h : RequestHead) (rest : List ℕ) → IsRequestHead h → RequestStart (request_tree h).0 (start_bytes h ++ rest) rest
starts h rest is = (
  _,
  (
    regroup (print_blank h.blank) h.method h.target (print_version h.minor) (print_end h.line_end) rest,
    Stops_token h.method _ is.method.0 is.method.1,
  ),
  (
    _,
    (is.method.0, is.method.1, refl),
    (_, ((is.target.0, is.target.1, refl), is.target_text), (_, (is.minor, refl), refl)),
  ),
)
  where
    regroup : (a b c d e r : List ℕ)
        → (a ++ (b ++ 32 ∷ (c ++ 32 ∷ (d ++ e)))) ++ r ≡ a ++ (b ++ 32 ∷ (c ++ 32 ∷ (d ++ (e ++ r))))
    regroup a b c d e r = simp append_assoc

-- no byte of a token
abbrev pub IsPlain : List ℕ → Type 0
IsPlain text = All (λ b. is_token_byte b ≡ false) text

-- a name has a byte that stands in names
no_token : (name rest : List ℕ) → IsToken name → IsPlain (name ++ rest) → ⊥
no_token [] rest is plain = absurd (omega (arith, is.0))
no_token (b ∷ name) rest is plain =
    both_ways (is_token_byte b) (All-head (λ v. is_token_byte v ≡ false) b (name ++ rest) plain)
    (All-head (λ v. is_token_byte v ≡ true) b name is.1)

-- the first byte of a name stands in names
begins_token : (name rest text : List ℕ) (byte : ℕ) → IsToken name → name ++ rest ≡ byte ∷ text → is_token_byte byte ≡ true
begins_token [] rest text byte is e = absurd (omega (arith, is.0))
begins_token (b ∷ name) rest text byte is e =
    let same : b ≡ byte = cc e in
    subst (λ (v : ℕ). is_token_byte v ≡ true) same (All-head (λ v. is_token_byte v ≡ true) b name is.1)

-- a section that begins with a byte of a token has a field
not_ended : (last : LineEnd) (byte : ℕ) (text rest : List ℕ) → is_token_byte byte ≡ true → byte ∷ text ≡ print_end last ++ rest → ⊥
not_ended crlf byte text rest token e =
    let same : byte ≡ 13 = cc e in
    true≢false (token_is_no_newline 13 (subst (λ (v : ℕ). is_token_byte v ≡ true) same token))
not_ended lf byte text rest token e =
    let same : byte ≡ 10 = cc e in
    true≢false (token_is_no_newline 10 (subst (λ (v : ℕ). is_token_byte v ≡ true) same token))

-- fields before a begun name are more with it
has_more : (k : List Field) (fields more : List Field) (last : LineEnd) (byte : ℕ) (text : List ℕ) → k ≡ fields ++ more
    → is_token_byte byte ≡ true → Section (more, last) (byte ∷ text) [] → length fields < length k
has_more k fields [] last byte text e token reads = absurd (not_ended last byte text [] token reads.1)
has_more k fields (f ∷ more) last byte text e token reads =
    omega (arith, ap length e, length-append fields (f ∷ more))

-- a head that begins with a start line, whole fields and a byte of another has more fields than these
more_fields : (h k : RequestHead) (fields : List Field) (text : List ℕ) (byte : ℕ) (behind : List ℕ) → IsRequestHead h
    → All IsField fields → is_token_byte byte ≡ true
    → text ≡ start_bytes h ++ (flat_map print_field fields ++ byte ∷ behind) → ReadsRequest text k []
    → length fields < length k.fields
more_fields h k fields text byte behind is all token e reads =
    let pieces = request_pieces text k [] reads in
    let start : RequestStart (request_tree h).0 text (flat_map print_field fields ++ byte ∷ behind) =
    subst (λ (t : List ℕ). RequestStart (request_tree h).0 t (flat_map print_field fields ++ byte ∷ behind)) (sym e)
    (starts h _ is) in
    let same = RequestStart_deterministic.unique (request_tree h).0 (request_tree k).0 text _ _ start pieces.1 in
    let skipped = Section_skip fields k.fields k.last _ (byte ∷ behind) [] (all, sym same.1) pieces.2 in
    has_more k.fields fields skipped.0 k.last byte behind skipped.1 token skipped.2

-- ---- the 65th field

-- a field to read where there is none
abbrev no_field : Field
no_field = record { name = []; raw = []; end = lf }

-- what stands before the line feed of a line's end
abbrev before_feed : LineEnd → List ℕ
before_feed crlf = 13 ∷ []
before_feed lf = []

-- an end of a line ends in a line feed
before_feed_is : (last : LineEnd) → print_end last ≡ before_feed last ++ 10 ∷ []
before_feed_is crlf = refl
before_feed_is lf = refl

-- more than 64 fields are 64, one, and the others
fields_split : (fields : List Field) → 64 < length fields → fields ≡ take 64 fields ++ get_or fields 64 no_field ∷ drop 65 fields
fields_split fields over =
    sym (take-append-drop 64 fields) ∙ ap (λ (l : List Field). take 64 fields ++ l) (drop_more fields 64 no_field over)

-- the lines of a section with a field among them
lines_split : (before : List Field) (field : Field) (after : List Field) (last : LineEnd)
    → print_section (before ++ field ∷ after) last
    ≡ (flat_map print_field before ++ (print_field field ++ (flat_map print_field after ++ before_feed last))) ++ 10 ∷ []
lines_split before field after last =
    ap (λ (t : List ℕ). t ++ print_end last) (flat_map-append print_field before (field ∷ after))
    ∙ ap (λ (t : List ℕ). (flat_map print_field before ++ (print_field field ++ flat_map print_field after)) ++ t) (before_feed_is last)
    ∙ regroup (flat_map print_field before) (print_field field) (flat_map print_field after) (before_feed last)
  where
    regroup : (a b c d : List ℕ) → (a ++ (b ++ c)) ++ (d ++ 10 ∷ []) ≡ (a ++ (b ++ (c ++ d))) ++ 10 ∷ []
    regroup a b c d = simp append_assoc

module _ (bytes end : List ℕ) (plain : IsPlain end) (prefix : IsProperPrefix bytes) (h : RequestHead) (is : IsRequestHead h)
    (before : List Field) (field : Field) (after : List ℕ) (all : All IsField before) (one : IsField field)
    (many : length before ≡ 64) where
  -- the bytes go on behind the first 64 fields
  within : (tail : List ℕ) → bytes ≡ (start_bytes h ++ flat_map print_field before) ++ tail
      → print_field field ++ after ≡ tail ++ end → ⊥
  within [] e behind =
      no_token field.name (58 ∷ (field.raw ++ (print_end field.end ++ after))) one.name
      (subst IsPlain (sym behind ∙ print_field-append field after) plain)
  within (byte ∷ tail) e behind =
      let token = begins_token field.name _ _ byte one.name (sym (print_field-append field after) ∙ behind) in
      let text : bytes ++ prefix.next ∷ prefix.more
      ≡ start_bytes h ++ (flat_map print_field before ++ byte ∷ (tail ++ prefix.next ∷ prefix.more)) =
      ap (λ (t : List ℕ). t ++ prefix.next ∷ prefix.more) e
      ∙ append_assoc (start_bytes h ++ flat_map print_field before) (byte ∷ tail) (prefix.next ∷ prefix.more)
      ∙ append_assoc (start_bytes h) (flat_map print_field before) (byte ∷ (tail ++ prefix.next ∷ prefix.more)) in
      let more = more_fields h prefix.head before _ byte _ is all token text prefix.reads in
      omega (arith, more, many, prefix.fields)

  -- they don't end before
  cut : Meets bytes end (start_bytes h ++ flat_map print_field before) (print_field field ++ after) → ⊥
  cut (inl m) = within m.0 m.1 m.2
  cut (inr m) =
      no_token field.name (58 ∷ (field.raw ++ (print_end field.end ++ after))) one.name
      (subst IsPlain
      (ap (λ (t : List ℕ). drop (length (m.0 ∷ m.1)) t) m.3 ∙ drop_at (m.0 ∷ m.1) _ (length (m.0 ∷ m.1)) refl ∙ print_field-append field after)
      (All-drop (λ b. is_token_byte b ≡ false) (length (m.0 ∷ m.1)) end plain))

-- where a head of more than 64 fields begins the bytes and an end without bytes of a token
pub full : (bytes end : List ℕ) → IsPlain end → RequestExceeds 64 (bytes ++ end) → IsProperPrefix bytes → ⊥
full bytes end plain (front, rest, split, h, reads, over) prefix =
    cut bytes end plain prefix h reads.0 before field (after ++ rest)
    (All-take IsField 64 h.fields reads.0.fields) (All-get_or IsField h.fields 64 no_field over reads.0.fields)
    (length-take 64 h.fields ∙ omega (arith, over))
    (meets bytes end (start_bytes h ++ flat_map print_field before) _
    (split ∙ ap (λ (t : List ℕ). t ++ rest) front_is
    ∙ regroup (start_bytes h) (flat_map print_field before) (print_field field) after rest))
  where
    before : List Field
    before = take 64 h.fields

    field : Field
    field = get_or h.fields 64 no_field

    after : List ℕ
    after = flat_map print_field (drop 65 h.fields) ++ before_feed h.last

    regroup : (a b c d r : List ℕ) → (a ++ (b ++ (c ++ d))) ++ r ≡ (a ++ b) ++ (c ++ (d ++ r))
    regroup a b c d r = simp append_assoc

    front_is : front ≡ start_bytes h ++ (flat_map print_field before ++ (print_field field ++ after))
    front_is =
        (same_from_push front _ 10 10
        (reads.1 ∙ print_head h [] ∙ ap (λ (t : List ℕ). start_bytes h ++ t)
        (append-nil _ ∙ ap (λ (l : List Field). print_section l h.last) (fields_split h.fields over)
        ∙ lines_split before field (drop 65 h.fields) h.last)
        ∙ sym (append_assoc (start_bytes h) _ (10 ∷ [])))).0

-- no name has a line feed
feed_is_plain : is_token_byte 10 ≡ false
unfolding is_token_byte
feed_is_plain = refl

-- two line feeds begin no name
feeds_are_plain : IsPlain (codes "\n\n")
feeds_are_plain =
    All-cons (λ b. is_token_byte b ≡ false) 10 (10 ∷ []) feed_is_plain
    (All-cons (λ b. is_token_byte b ≡ false) 10 [] feed_is_plain (All-nil _))

-- where two line feeds make too many fields, no more bytes make a head
pub full_in_value : (bytes : List ℕ) → RequestExceeds 64 (bytes ++ codes "\n\n") → IsProperPrefix bytes → ⊥
full_in_value bytes over prefix = full bytes (codes "\n\n") feeds_are_plain over prefix

-- and so with a colon before them
pub full_in_name : (bytes : List ℕ) → RequestExceeds 64 (bytes ++ codes ":\n\n") → IsProperPrefix bytes → ⊥
full_in_name bytes over prefix =
    full bytes (codes ":\n\n") (All-cons (λ b. is_token_byte b ≡ false) 58 (10 ∷ 10 ∷ []) colon_ends_token feeds_are_plain) over prefix
