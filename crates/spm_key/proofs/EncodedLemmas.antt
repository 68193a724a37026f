-- The set of bytes that are escaped is that of the definition.
use Rattle.std.proofs.Common.{◌≡◌, ℕ, ◌<◌, ◌%◌, Bool, true, false, not, List, [], ◌∷◌, ◌++◌, if◌then◌else◌, refl, sym, ap, ap₂, ◌∙◌, arith}
use Rattle.std.specs.Fmt.{digit_glyph}
use Rattle.std.specs.List.{All}
use Rattle.std.proofs.lemmas.Bool.{agree_below, agree_below_at}
use Rattle.std.proofs.lemmas.List.Elements.{All-head, All-tail}
use Rattle.percent_encoding.proofs.OnLiterals.{percent_encoding_on_literals}
use Rattle.percent_encoding.specs.AsciiSet.{should_percent_encode}
use Rattle.percent_encoding.proofs.PercentLemmas.{round_trip}
use Rattle.percent_encoding.specs.Percent.{encode_byte, percent_decode, percent_encode, percent_encode_byte}
use Rattle.spm_key.specs.declared.key.TheConstants.{ESCAPED}
use Rattle.spm_key.specs.Key.{encoded, encoded_byte, escaped, is_unreserved}

-- of each byte the set says what the definition says
escaped_bytes : agree_below (should_percent_encode ESCAPED) (λ b. not (is_unreserved b)) 256 ≡ true
unfolding percent_encoding_on_literals
escaped_bytes = refl

-- an escape is `%` and two digits in both
same_escape : (byte : ℕ) → byte < 256 → percent_encode_byte byte ≡ escaped byte
unfolding percent_encoding_on_literals
same_escape byte below = ap (λ (high : ℕ). 37 ∷ digit_glyph true high ∷ digit_glyph true (byte % 16) ∷ []) (omega (arith, below))

-- a choice, with its test turned
turned : (unreserved : Bool) (escape : List ℕ) (byte : ℕ) → (if not unreserved then escape else byte ∷ []) ≡ (if unreserved then byte ∷ [] else escape)
turned true escape byte = refl
turned false escape byte = refl

-- a byte is encoded so
same_byte : (byte : ℕ) → byte < 256 → encode_byte ESCAPED byte ≡ encoded_byte byte
same_byte byte below =
    ap₂ (λ (escapes : Bool) escape. if escapes then escape else byte ∷ [])
    (agree_below_at (should_percent_encode ESCAPED) (λ b. not (is_unreserved b)) 256 byte escaped_bytes below) (same_escape byte below)
    ∙ turned (is_unreserved byte) (escaped byte) byte

-- a text is encoded so
pub same_encoding : (text : List ℕ) → All (λ byte. byte < 256) text → percent_encode ESCAPED text ≡ encoded text
unfolding percent_encode
same_encoding [] all = refl
same_encoding (byte ∷ text) all =
    ap₂ ◌++◌ (same_byte byte (All-head (λ b. b < 256) byte text all)) (same_encoding text (All-tail (λ b. b < 256) byte text all))

-- what is escaped so is read back
pub decoded : (text : List ℕ) → All (λ byte. byte < 256) text → percent_decode (encoded text) ≡ text
unfolding percent_encoding_on_literals
decoded text all = ap percent_decode (sym (same_encoding text all)) ∙ round_trip ESCAPED text refl all
