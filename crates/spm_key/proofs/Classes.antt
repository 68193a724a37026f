-- Bytes of one class are bytes of another; the bytes of joined parts.
use Rattle.std.proofs.Common.{◌≡◌, ℕ, ◌<◌, Bool, true, false, not, ◌&&◌, ◌||◌, List, [], ◌∷◌, refl, subst, arith, inl, inr}
use Rattle.std.specs.Prelude.{◌^◌, cond}
use Rattle.std.specs.Fmt.{decimal}
use Rattle.std.specs.Char.{is_ascii_digit}
use Rattle.std.specs.List.{All, AllPass, list_all, slice_split, onto_first}
use Rattle.std.specs.Str.Parse.{AllDigits}
use Rattle.std.proofs.lemmas.Bool.{agree_below, agree_below_at, and_from, and_parts, cases_Bool, false≢true, or_left, or_right}
use Rattle.std.proofs.lemmas.Fmt.{decimal_is_IsNumeral}
use Rattle.std.proofs.lemmas.List.Elements.{All-nil, All-cons, All-head, All-tail}
use Rattle.std.proofs.lemmas.Str.Parse.{digit_from_value}

-- below 128, each byte of the first class is one of the second
abbrev pub is_within : (ℕ → Bool) → (ℕ → Bool) → Bool
is_within first second = agree_below (λ byte. not (first byte) || second byte) (λ byte. true) 128

-- of two bytes' tests, where the first holds so does the second
then_second : (a b : Bool) → (not a || b) ≡ true → a ≡ true → b ≡ true
then_second true b either is = either
then_second false b either is = absurd (false≢true is)

-- a byte of one class is of a wider one
pub class_of : (first second : ℕ → Bool) → is_within first second ≡ true → (byte : ℕ) → byte < 128 → first byte ≡ true → second byte ≡ true
class_of first second within byte low is =
    then_second (first byte) (second byte) (agree_below_at (λ b. not (first b) || second b) (λ b. true) 128 byte within low) is

-- and so are the bytes of a text
pub classes : (first second : ℕ → Bool) → is_within first second ≡ true → (bytes : List ℕ) → All (λ byte. byte < 128) bytes
    → AllPass first bytes → AllPass second bytes
classes first second within [] low all = All-nil (λ b. second b ≡ true)
classes first second within (byte ∷ bytes) low all =
    All-cons (λ b. second b ≡ true) byte bytes
    (class_of first second within byte (All-head (λ b. b < 128) byte bytes low) (All-head (λ b. first b ≡ true) byte bytes all))
    (classes first second within bytes (All-tail (λ b. b < 128) byte bytes low) (All-tail (λ b. first b ≡ true) byte bytes all))

-- ---- digits

-- digits are of ASCII
digits_low : (digits : List ℕ) → AllDigits 10 digits → All (λ byte. byte < 128) digits
digits_low [] all = All-nil (λ b. b < 128)
digits_low (digit ∷ digits) all =
    All-cons (λ b. b < 128) digit digits (omega (arith, digit_from_value digit all.0)) (digits_low digits all.1)

-- digits are digits of ASCII
digits_are : (digits : List ℕ) → AllDigits 10 digits → AllPass is_ascii_digit digits
digits_are [] all = All-nil (λ b. is_ascii_digit b ≡ true)
digits_are (digit ∷ digits) all =
    All-cons (λ b. is_ascii_digit b ≡ true) digit digits (let range = digit_from_value digit all.0 in grind (arith, range)) (digits_are digits all.1)

-- a number is written in ASCII
pub decimal_low : (n : ℕ) → n < 2 ^ 64 → All (λ byte. byte < 128) (decimal n)
decimal_low n small = digits_low (decimal n) (decimal_is_IsNumeral n small).0.1

-- a number is written in digits
pub decimal_digits : (n : ℕ) → n < 2 ^ 64 → AllPass is_ascii_digit (decimal n)
decimal_digits n small = digits_are (decimal n) (decimal_is_IsNumeral n small).0.1

-- a number may stand where digits may
pub decimal_class : (test : ℕ → Bool) → is_within is_ascii_digit test ≡ true → (n : ℕ) → n < 2 ^ 64 → AllPass test (decimal n)
decimal_class test within n small = classes is_ascii_digit test within (decimal n) (decimal_low n small) (decimal_digits n small)

-- ---- parts between separators

module _ (is_separator is_inner : ℕ → Bool) where
  abbrev is_either : ℕ → Bool
  is_either byte = is_inner byte || is_separator byte

  -- a byte before the first part, and the parts
  on_head : (byte : ℕ) (parts : List (List ℕ)) → list_all (list_all is_inner) (onto_first byte parts) ≡ true → (is_inner byte ≡ true) × (list_all (list_all is_inner) parts ≡ true)
  on_head byte [] all = ((and_parts (is_inner byte) true (and_parts (is_inner byte && true) true all).0).0, refl)
  on_head byte (part ∷ parts) all =
      let here = and_parts (is_inner byte && list_all is_inner part) (list_all (list_all is_inner) parts) all in
      let first = and_parts (is_inner byte) (list_all is_inner part) here.0 in
      (first.0, and_from (list_all is_inner part) (list_all (list_all is_inner) parts) first.1 here.1)

  -- where each part has inner bytes alone, each byte of the text is one, or a separator
  pub joined : (text : List ℕ) → list_all (list_all is_inner) (slice_split is_separator text) ≡ true → AllPass is_either text
  joined [] all = All-nil (λ b. is_either b ≡ true)
  joined (byte ∷ bytes) all =
      elim (cases_Bool (is_separator byte)) [
        | inl cut ↦
            All-cons (λ b. is_either b ≡ true) byte bytes (or_right (is_inner byte) (is_separator byte) cut)
            (joined bytes (subst (λ (c : Bool). list_all (list_all is_inner) (cond c ([] ∷ slice_split is_separator bytes) (onto_first byte (slice_split is_separator bytes))) ≡ true) cut all))
        | inr inside ↦
            (let rest = on_head byte (slice_split is_separator bytes)
            (subst (λ (c : Bool). list_all (list_all is_inner) (cond c ([] ∷ slice_split is_separator bytes) (onto_first byte (slice_split is_separator bytes))) ≡ true) inside all) in
            All-cons (λ b. is_either b ≡ true) byte bytes (or_left (is_inner byte) (is_separator byte) rest.0) (joined bytes rest.1))
      ]
