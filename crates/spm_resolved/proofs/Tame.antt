-- Texts that stand for themselves in a string of JSON: ASCII without quotes, backslashes and control bytes.
use Rattle.std.proofs.Common.{◌≡◌, ◌≢◌, ℕ, ◌<◌, ◌≤◌, ◌==◌, ◌&&◌, Bool, true, not, nat_lt, nat_le, List, [], ◌∷◌, ◌++◌, Some, refl, sym, ap, ◌∙◌, arith}
use Rattle.std.proofs.lemmas.Bool.{and_parts}
use Rattle.std.proofs.lemmas.Bool.Decides.{nat_tests}
use Rattle.std.proofs.lemmas.List.Folds.{list_all-append}
use Rattle.std.proofs.lemmas.Str.Ascii.{IsAscii-cons, IsAscii-nil}
use Rattle.std.specs.List.{list_all}
use Rattle.std.specs.Str.{IsAscii}
use Rattle.json.specs.Lex.{lex, between, in_string}
use Rattle.json.specs.Print.{escape}
use Rattle.json.specs.Text.{content, plain}
use Rattle.json.proofs.Printed.Strings.{content-escape, escape_byte_plain, lex-escape}

-- a byte that stands for itself in a string
abbrev pub is_tame : ℕ → Bool
is_tame byte = nat_le 32 byte && (nat_lt byte 128 && (not (byte == 34) && not (byte == 92)))

-- a text of such bytes
abbrev pub IsTame : List ℕ → Type 0
IsTame text = list_all is_tame text ≡ true

-- what the tests of a byte say
tame_byte : (byte : ℕ) → is_tame byte ≡ true → (byte ≢ 34) × (byte ≢ 92) × (32 ≤ byte) × (byte < 128)
tame_byte byte h = grind (arith, nat_tests)

-- two such texts joined
pub IsTame-append : (xs ys : List ℕ) → IsTame xs → IsTame ys → IsTame (xs ++ ys)
IsTame-append xs ys first second = rw (list_all-append is_tame xs ys, first, second) refl

-- such a text is ASCII
pub IsAscii-from_tame : (text : List ℕ) → IsTame text → IsAscii text
IsAscii-from_tame [] h = IsAscii-nil
IsAscii-from_tame (byte ∷ text) h =
    let both = and_parts (is_tame byte) (list_all is_tame text) h in
    IsAscii-cons byte text (tame_byte byte both.0).3 (IsAscii-from_tame text both.1)

-- no byte of it is escaped
escape-tame : (text : List ℕ) → IsTame text → escape text ≡ text
escape-tame [] h = refl
escape-tame (byte ∷ text) h =
    let both = and_parts (is_tame byte) (list_all is_tame text) h in
    let tests = tame_byte byte both.0 in
    λ i. escape_byte_plain byte tests.0 tests.1 tests.2 i ++ escape-tame text both.1 i

-- in front of a quote, it is the content of a string, and the lexer passes over it
pub content-tame : (text rest : List ℕ) → IsTame text → content plain (text ++ 34 ∷ rest) ≡ Some text
content-tame text rest h = ap (λ t. content plain (t ++ 34 ∷ rest)) (sym (escape-tame text h)) ∙ content-escape text rest

-- such a text in a string is one lexeme
pub lex-tame : (text rest : List ℕ) → IsTame text → lex in_string (text ++ 34 ∷ rest) ≡ lex between rest
lex-tame text rest h = ap (λ t. lex in_string (t ++ 34 ∷ rest)) (sym (escape-tame text h)) ∙ lex-escape text rest
