-- Identities, hexadecimal digits and the texts of versions stand for themselves in a string of JSON.
use Rattle.std.proofs.Common.{◌≡◌, ℕ, suc, ◌+◌, ◌^◌, ◌/◌, ◌%◌, ◌<◌, ◌==◌, ◌&&◌, Bool, true, false, not, cond, List, [], ◌∷◌, take, drop, Ok, Err, if◌then◌else◌, inl, inr, refl, ap, ◌∙◌, arith}
use Rattle.std.proofs.lemmas.Bool.{agree_below_at, and_from, and_parts, cases_Bool, eqb-true}
use Rattle.std.proofs.lemmas.Bool.Decides.{nat_tests}
use Rattle.std.proofs.lemmas.Fmt.{decimal_by_steps}
use Rattle.std.specs.Char.{is_ascii_alphanumeric}
use Rattle.std.specs.Fmt.{decimal}
use Rattle.std.specs.List.{list_all, list_any, after_first, before_first, onto_first, position_or_len, slice_split}
use Rattle.std.specs.Prelude.{slice_index}
use Rattle.hex.specs.Hex.{encode_with, lower_digits}
use Rattle.semver.specs.Grammar.{is_build, is_build_identifier, is_identifier_byte, is_pre_identifier, is_pre_release}
use Rattle.semver.specs.Identifiers.{marked}
use Rattle.spm_digest.specs.Digest.{IsBytes, encode_lower}
use Rattle.spm_ident.proofs.Scan.{goes_on, goes_on_joined}
use Rattle.spm_ident.specs.Identity.{IsIdentity, is_dot, is_hyphen, is_hyphen_or_underscore, is_joined, is_name, is_scope, name_of, scope_of}
use Rattle.spm_ident.specs.declared.identity.IdentFault.TheVariants.{Dot, Scope, Name}
use Rattle.spm_version.specs.Release.{IsValid, Parts, parts_text}
use Rattle.spm_resolved.proofs.Tame.{IsTame, IsTame-append, is_tame}

-- ---- identities

-- letters and digits
letter_is_tame : (byte : ℕ) → is_ascii_alphanumeric byte ≡ true → is_tame byte ≡ true
letter_is_tame byte h = grind (arith, nat_tests)

-- hyphens
hyphen_is_tame : (byte : ℕ) → is_hyphen byte ≡ true → is_tame byte ≡ true
hyphen_is_tame byte h = grind (arith, nat_tests)

-- hyphens and underscores
hyphen_or_underscore_is_tame : (byte : ℕ) → is_hyphen_or_underscore byte ≡ true → is_tame byte ≡ true
hyphen_or_underscore_is_tame byte h = grind (arith, nat_tests)

-- one byte of a pass: `separates` and `letter` are its tests, `begun` and `going` the passes behind it
IsTame-one : (separates in_word letter begun going : Bool) (byte : ℕ) (text : List ℕ)
    → (separates ≡ true → is_tame byte ≡ true) → (letter ≡ true → is_tame byte ≡ true)
    → (begun ≡ true → IsTame text) → (going ≡ true → IsTame text)
    → cond separates (in_word && begun) (letter && going) ≡ true → IsTame (byte ∷ text)
IsTame-one true in_word letter begun going byte text by_separator by_letter first second h =
    and_from (is_tame byte) (list_all is_tame text) (by_separator refl) (first (and_parts in_word begun h).1)
IsTame-one false in_word letter begun going byte text by_separator by_letter first second h =
    let both = and_parts letter going h in
    and_from (is_tame byte) (list_all is_tame text) (by_letter both.0) (second both.1)

-- words with tame separators, inside or outside of a word
IsTame-goes_on : (p : ℕ → Bool) → ((byte : ℕ) → p byte ≡ true → is_tame byte ≡ true) → (in_word : Bool) (text : List ℕ)
    → goes_on p in_word text ≡ true → IsTame text
IsTame-goes_on p tame in_word [] h = refl
IsTame-goes_on p tame in_word (byte ∷ text) h =
    IsTame-one (p byte) in_word (is_ascii_alphanumeric byte) (goes_on p false text) (goes_on p true text) byte text
    (tame byte) (letter_is_tame byte) (IsTame-goes_on p tame false text) (IsTame-goes_on p tame true text) h

-- joined words
IsTame-joined : (p : ℕ → Bool) → ((byte : ℕ) → p byte ≡ true → is_tame byte ≡ true) → (text : List ℕ)
    → is_joined p text ≡ true → IsTame text
IsTame-joined p tame text h = IsTame-goes_on p tame false text (goes_on_joined p text ∙ h)

-- the parts of a text with one more byte at its front
longer : (count : ℕ) (byte : ℕ) (text : List ℕ)
    → (take (1 + count) (byte ∷ text) ≡ byte ∷ take count text) × (drop (1 + count + 1) (byte ∷ text) ≡ drop (count + 1) text)
longer count byte text =
    let more : 1 + count ≡ suc count = omega arith in
    let behind : 1 + count + 1 ≡ suc (count + 1) = omega arith in
    (rw more refl, rw behind refl)

-- what stands before the first dot and behind it, and the dot
IsTame-by_dot : (text : List ℕ) → IsTame (before_first is_dot text) → IsTame (after_first is_dot text) → IsTame text
IsTame-by_dot [] before behind = refl
IsTame-by_dot (byte ∷ text) before behind = elim (cases_Bool (byte == 46)) [
  | inl dot ↦
      let is : byte ≡ 46 = eqb-true byte 46 dot in
      let here : is_tame byte ≡ true = ap is_tame is in
      and_from (is_tame byte) (list_all is_tame text) here (rw dot at behind)
  | inr other ↦
      let parts = longer (position_or_len is_dot text) byte text in
      let both = and_parts (is_tame byte) (list_all is_tame (before_first is_dot text)) (rw (other, parts.0) at before) in
      and_from (is_tame byte) (list_all is_tame text) both.0
      (IsTame-by_dot text both.1 (rw (other, parts.1) at behind))
]

-- the tests that an identity passed
passed : (dot scope name : Bool) (lowered text : List ℕ)
    → (if not dot then Err Dot else if not scope then Err Scope else if not name then Err Name else Ok lowered) ≡ Ok text
    → (scope ≡ true) × (name ≡ true)
passed true true true lowered text h = (refl, refl)
passed true true false lowered text h = cc
passed true false name lowered text h = cc
passed false scope name lowered text h = cc

-- identities
pub IsTame-identity : (text : List ℕ) → IsIdentity text → IsTame text
IsTame-identity text h =
    let tests = passed (list_any is_dot text) (is_scope (scope_of text)) (is_name (name_of text)) _ text h in
    IsTame-by_dot text
    (IsTame-joined is_hyphen hyphen_is_tame (scope_of text) (and_parts _ (is_joined is_hyphen (scope_of text)) tests.0).1)
    (IsTame-joined is_hyphen_or_underscore hyphen_or_underscore_is_tame (name_of text)
    (and_parts _ (is_joined is_hyphen_or_underscore (name_of text)) tests.1).1)

-- ---- versions

-- decimal digits
digit_is_tame : (n : ℕ) → n < 10 → is_tame (48 + n) ≡ true
digit_is_tame n h = grind (arith, nat_tests)

-- a digit as a text
digit-IsTame : (n : ℕ) → n < 10 → IsTame ((48 + n) ∷ [])
digit-IsTame n h = rw (digit_is_tame n h) refl

-- a last digit is below ten
last_digit : (n : ℕ) → n % 10 < 10
last_digit n = omega arith

-- numbers
IsTame-decimal : (n : ℕ) → n < 2 ^ 64 → IsTame (decimal n)
IsTame-decimal =
    decimal_by_steps (λ n digits. IsTame digits) digit-IsTame
    (λ n digits large tame. IsTame-append digits ((48 + n % 10) ∷ []) tame (digit-IsTame (n % 10) (last_digit n)))

-- bytes of identifiers
identifier_byte_is_tame : (byte : ℕ) → is_identifier_byte byte ≡ true → is_tame byte ≡ true
identifier_byte_is_tame byte h = grind (arith, nat_tests)

-- dots
dot_is_tame : (byte : ℕ) → (byte == 46) ≡ true → is_tame byte ≡ true
dot_is_tame byte h = grind (arith, nat_tests)

-- each part is bytes of identifiers
abbrev are_identifiers : List (List ℕ) → Bool
are_identifiers parts = list_all (λ part. list_all is_identifier_byte part) parts

-- a byte before tame parts
IsTame-front : (byte : ℕ) (text : List ℕ) (parts : List (List ℕ)) → (are_identifiers parts ≡ true → IsTame text)
    → are_identifiers (onto_first byte parts) ≡ true → IsTame (byte ∷ text)
IsTame-front byte text [] rest h =
    let first = and_parts (is_identifier_byte byte) true (and_parts _ true h).0 in
    and_from (is_tame byte) (list_all is_tame text) (identifier_byte_is_tame byte first.0) (rest refl)
IsTame-front byte text (part ∷ parts) rest h =
    let both = and_parts (is_identifier_byte byte && list_all is_identifier_byte part) (are_identifiers parts) h in
    let first = and_parts (is_identifier_byte byte) (list_all is_identifier_byte part) both.0 in
    and_from (is_tame byte) (list_all is_tame text) (identifier_byte_is_tame byte first.0)
    (rest (and_from (list_all is_identifier_byte part) (are_identifiers parts) first.1 both.1))

-- a dot or a byte before tame parts
IsTame-part : (dot : Bool) (byte : ℕ) (text : List ℕ) (parts : List (List ℕ)) → (dot ≡ true → is_tame byte ≡ true)
    → (are_identifiers parts ≡ true → IsTame text)
    → are_identifiers (cond dot ([] ∷ parts) (onto_first byte parts)) ≡ true → IsTame (byte ∷ text)
IsTame-part true byte text parts tame rest h = and_from (is_tame byte) (list_all is_tame text) (tame refl) (rest h)
IsTame-part false byte text parts tame rest h = IsTame-front byte text parts rest h

-- identifiers with dots between
IsTame-identifiers : (text : List ℕ) → are_identifiers (slice_split (λ byte. byte == 46) text) ≡ true → IsTame text
IsTame-identifiers [] h = refl
IsTame-identifiers (byte ∷ text) h =
    IsTame-part (byte == 46) byte text (slice_split (λ b. b == 46) text) (dot_is_tame byte) (IsTame-identifiers text) h

-- a stronger test of each part
weaker : (strong : List ℕ → Bool) → ((part : List ℕ) → strong part ≡ true → list_all is_identifier_byte part ≡ true)
    → (parts : List (List ℕ)) → list_all strong parts ≡ true → are_identifiers parts ≡ true
weaker strong says [] h = refl
weaker strong says (part ∷ parts) h =
    let both = and_parts (strong part) (list_all strong parts) h in
    and_from (list_all is_identifier_byte part) (are_identifiers parts) (says part both.0) (weaker strong says parts both.1)

-- identifiers of build metadata
of_build : (part : List ℕ) → is_build_identifier part ≡ true → list_all is_identifier_byte part ≡ true
of_build part h = (and_parts _ (list_all is_identifier_byte part) h).1

-- identifiers of a pre-release
of_pre : (part : List ℕ) → is_pre_identifier part ≡ true → list_all is_identifier_byte part ≡ true
of_pre part h = of_build part (and_parts (is_build_identifier part) _ h).0

-- pre-releases
IsTame-pre : (text : List ℕ) → is_pre_release text ≡ true → IsTame (marked 45 text)
IsTame-pre [] h = refl
IsTame-pre (byte ∷ text) h =
    IsTame-identifiers (byte ∷ text) (weaker is_pre_identifier of_pre (slice_split (λ b. b == 46) (byte ∷ text)) h)

-- build metadata
IsTame-build : (text : List ℕ) → is_build text ≡ true → IsTame (marked 43 text)
IsTame-build [] h = refl
IsTame-build (byte ∷ text) h =
    IsTame-identifiers (byte ∷ text) (weaker is_build_identifier of_build (slice_split (λ b. b == 46) (byte ∷ text)) h)

-- versions
pub IsTame-version : (parts : Parts) → IsValid parts → IsTame (parts_text parts)
IsTame-version parts valid =
    IsTame-append (decimal parts.0) _ (IsTame-decimal parts.0 valid.0)
    (IsTame-append (decimal parts.1) _ (IsTame-decimal parts.1 valid.1)
    (IsTame-append (decimal parts.2) _ (IsTame-decimal parts.2 valid.2)
    (IsTame-append (marked 45 parts.3) (marked 43 parts.4) (IsTame-pre parts.3 valid.3) (IsTame-build parts.4 valid.4))))

-- ---- hexadecimal digits

-- hexadecimal digits
hex_digit_is_tame : (n : ℕ) → n < 16 → is_tame (slice_index lower_digits n) ≡ true
hex_digit_is_tame n h = agree_below_at (λ k. is_tame (slice_index lower_digits k)) (λ _. true) 16 n refl h

-- sums in hexadecimal
pub IsTame-hex : (bytes : List ℕ) → IsBytes bytes → IsTame (encode_lower bytes)
unfolding encode_with
IsTame-hex [] are = refl
IsTame-hex (byte ∷ bytes) are =
    let small : byte < 256 = are 0 in
    let high : byte / 16 < 16 = omega arith in
    let low : byte % 16 < 16 = omega arith in
    rw (hex_digit_is_tame (byte / 16) high, hex_digit_is_tame (byte % 16) low) (IsTame-hex bytes (λ i. are (suc i)))
