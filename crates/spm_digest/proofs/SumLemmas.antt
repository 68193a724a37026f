-- A text decodes into 32 bytes exactly where it is 64 hexadecimal digits.
use Rattle.std.proofs.Common.{◌≡◌, ℕ, ◌==◌, Bool, true, false, ◌&&◌, List, length, Some, None, Result, Ok, Err, refl, sym, ap, ◌∙◌}
use Rattle.std.specs.Prelude.{IsOk, if◌then◌else◌}
use Rattle.std.specs.Result.{result_ok}
use Rattle.std.specs.List.{list_all}
use Rattle.std.proofs.lemmas.Bool.{and_parts, eqb-true}
use Rattle.std.proofs.lemmas.List.Sums.{list_all-from_AllPass}
use Rattle.hex.specs.Hex.{IsBytes, decode_of, decode_sized, encode_lower, is_hex_digit}
use Rattle.hex.specs.declared.error.FromHexError.{FromHexError}
use Rattle.hex.proofs.HexLemmas.{IsOk-decode_sized, decode_sized-encode_lower, decode_sized-twice}
use Rattle.spm_digest.specs.Digest.{sum_of}

-- what is no `Ok` has no value
result_ok-none : (decoded : Result (List ℕ) FromHexError) → (IsOk decoded → ⊥) → result_ok decoded ≡ None
result_ok-none (Ok bytes) refused = absurd (refused refl)
result_ok-none (Err fault) refused = refl

-- 64 digits pass the test
test_passes : (text : List ℕ) → length text ≡ 64 → list_all is_hex_digit text ≡ true
    → (length text == 64 && list_all is_hex_digit text) ≡ true
test_passes text long digits = rw (long, digits) refl

-- decoding into 32 bytes gives the sum that the text writes, by the answer of the test
by_test : (text : List ℕ) (test : Bool) → (length text == 64 && list_all is_hex_digit text) ≡ test
    → result_ok (decode_sized text 32) ≡ (if test then result_ok (decode_of text) else None)
by_test text true passed =
    let parts = and_parts (length text == 64) (list_all is_hex_digit text) passed in
    ap result_ok (decode_sized-twice text 32 (eqb-true (length text) 64 parts.0))
by_test text false failed =
    result_ok-none (decode_sized text 32) (λ decoded.
    let shape = (IsOk-decode_sized text 32).0 decoded in
    let passed = test_passes text shape.0 (list_all-from_AllPass is_hex_digit text shape.1) in
    cc)

-- the same, with the test itself
pub sum_of-sized : (text : List ℕ) → result_ok (decode_sized text 32) ≡ sum_of text
sum_of-sized text = by_test text (length text == 64 && list_all is_hex_digit text) refl

-- 32 bytes come back from their digits
pub sum_of-encode_lower : (sum : List ℕ) → length sum ≡ 32 → IsBytes sum → sum_of (encode_lower sum) ≡ Some sum
sum_of-encode_lower sum long bytes =
    sym (sum_of-sized (encode_lower sum)) ∙ ap result_ok (decode_sized-encode_lower sum 32 long bytes)
