-- The bodies that a server writes for what its shelf has, read back.
use Rattle.std.proofs.Common.{◌≡◌, ℕ, ◌<◌, ◌≤◌, max, Bool, true, false, ◌&&◌, nat_le, nat_lt, List, [], ◌∷◌, ◌++◌, length, map, Option, Some, None, IsUtf8, Ok, refl, sym, ap, ◌∙◌, arith, append_assoc, append-nil, inl, inr}
use Rattle.std.specs.Prelude.{◌==◌, codes, option_and_then, if◌then◌else◌}
use Rattle.std.specs.List.{All, list_all}
use Rattle.std.specs.Result.{result_ok}
use Rattle.std.proofs.lemmas.Bool.{cases_Bool, ltb-false, ltb-true}
use Rattle.std.proofs.lemmas.Bool.Decides.{nat_tests}
use Rattle.std.proofs.lemmas.List.Elements.{All-head, All-tail, All-weaker}
use Rattle.std.proofs.lemmas.List.Sums.{AllPass-from_list_all}
use Rattle.std.proofs.lemmas.Str.{IsUtf8-from_ascii}
use Rattle.std.proofs.lemmas.Str.Ascii.{IsAscii-from_all}
use Rattle.json.proofs.Printed.Utf8.{IsUtf8-are_ascii}
use Rattle.serde_json.specs.Data.{Data, items_depth, string}
use Rattle.serde_json.specs.View.{items_of}
use Rattle.serde_json.specs.Written.{compact_text}
use Rattle.spm_api.specs.Bodies.{checksum_in, checksum_of, identifiers_of, identifiers_reading, resources_reading}
use Rattle.spm_digest.proofs.SumLemmas.{sum_of-encode_lower}
use Rattle.spm_digest.specs.Digest.{decode_of, encode_lower, is_hex_digit, sum_of}
use Rattle.spm_json.specs.Reading.{Reading, in_document, within, ◌>>=◌}
use Rattle.spm_json.specs.Sequence as sequence
use Rattle.spm_json.specs.Shape.{item_list, text_of}
use Rattle.spm_shelf.specs.ShelfText.{hex_data}
use Rattle.spm_shelf.specs.declared.file.ShelfUrl.{ShelfUrl}
use Rattle.spm_version.specs.Release.{Parts, parts_text}
use Rattle.spm_server.specs.Content.{identifiers_data, metadata_data, source_of}
use Rattle.spm_server.specs.Shelved.{IsSum}
use Rattle.spm_server.proofs.ReadBack.{AreMade, IsMade, document_made}

-- ---- the digits of a sum

-- a byte beyond ASCII is no digit
no_digit : (byte : ℕ) → 128 ≤ byte → is_hex_digit byte ≡ true → ⊥
no_digit byte high is =
    let upper : nat_le 65 byte ≡ true = grind (arith, nat_tests, high) in
    let no_upper : nat_le byte 70 ≡ false = grind (arith, nat_tests, high) in
    let lower : nat_le 97 byte ≡ true = grind (arith, nat_tests, high) in
    let no_lower : nat_le byte 102 ≡ false = grind (arith, nat_tests, high) in
    let digit : nat_le 48 byte ≡ true = grind (arith, nat_tests, high) in
    let no_digit : nat_le byte 57 ≡ false = grind (arith, nat_tests, high) in
    let none : is_hex_digit byte ≡ false = rw (upper, no_upper, lower, no_lower, digit, no_digit) refl in
    absurd (cc)

-- a hexadecimal digit is of ASCII
digit_low : (byte : ℕ) → is_hex_digit byte ≡ true → byte < 128
digit_low byte is = elim (cases_Bool (nat_lt byte 128)) [
  | inl low ↦ ltb-true byte 128 low
  | inr high ↦ absurd (no_digit byte (ltb-false byte 128 high) is)
]

-- what is read as a sum is all digits
all_digits : (text sum : List ℕ) → sum_of text ≡ Some sum → list_all is_hex_digit text ≡ true
all_digits text sum is = by_test (length text == 64) (list_all is_hex_digit text) (result_ok (decode_of text)) is
  where
    by_test : (long digits : Bool) (found : Option (List ℕ)) → (if long && digits then found else None) ≡ Some sum → digits ≡ true
    by_test true true found is = refl
    by_test true false found is = absurd (cc is)
    by_test false true found is = refl
    by_test false false found is = absurd (cc is)

-- the digits of a sum are text
hex_utf8 : (sum : List ℕ) → IsSum sum → IsUtf8 (encode_lower sum)
hex_utf8 sum is =
    let digits = AllPass-from_list_all is_hex_digit (encode_lower sum) (all_digits (encode_lower sum) sum (sum_of-encode_lower sum is.0 is.1)) in
    IsUtf8-from_ascii (encode_lower sum) (IsAscii-from_all (encode_lower sum) (All-weaker (λ b. is_hex_digit b ≡ true) (λ b. b < 128) digit_low (encode_lower sum) digits))

-- ---- a release

-- its source archive
source_made : (sum : List ℕ) → IsSum sum → IsMade (source_of (hex_data sum))
source_made sum is = (
  IsUtf8-are_ascii (codes "checksum") refl,
  hex_utf8 sum is,
  (refl, (refl, tt)),
  (
    IsUtf8-are_ascii (codes "name") refl,
    IsUtf8-are_ascii (codes "source-archive") refl,
    (refl, tt),
    (IsUtf8-are_ascii (codes "type") refl, IsUtf8-are_ascii (codes "application/zip") refl, tt, tt),
  ),
)

-- its metadata
metadata_made : (identity : List ℕ) (release : Parts) (sum : List ℕ) → IsUtf8 identity → IsUtf8 (parts_text release) → IsSum sum
    → IsMade (metadata_data identity release sum)
metadata_made identity release sum name version is = (
  IsUtf8-are_ascii (codes "id") refl,
  name,
  (refl, (refl, (refl, tt))),
  (
    IsUtf8-are_ascii (codes "metadata") refl,
    tt,
    (refl, (refl, tt)),
    (
      IsUtf8-are_ascii (codes "resources") refl,
      (source_made sum is, tt),
      (refl, tt),
      (IsUtf8-are_ascii (codes "version") refl, version, tt, tt),
    ),
  ),
)

-- the checksum that is read of it
checksum_there : (identity : List ℕ) (release : Parts) (sum : List ℕ)
    → checksum_in (in_document (Ok (metadata_data identity release sum) >>= resources_reading))
    ≡ option_and_then (λ sum. Some (Some sum)) (sum_of (encode_lower sum))
checksum_there identity release sum = refl

-- is the one that was written
pub checksum_back : (identity : List ℕ) (release : Parts) (sum : List ℕ) → IsUtf8 identity → IsUtf8 (parts_text release) → IsSum sum
    → checksum_of (compact_text (metadata_data identity release sum)) ≡ Some (Some sum)
checksum_back identity release sum name version is =
    ap (λ (d : Reading Data). checksum_in (in_document (d >>= resources_reading)))
    (document_made (metadata_data identity release sum) (metadata_made identity release sum name version is) (omega arith))
    ∙ checksum_there identity release sum
    ∙ ap (option_and_then (λ (sum : List ℕ). Some (Some sum))) (sum_of-encode_lower sum is.0 is.1)

-- ---- identities

-- texts are text
texts_made : (texts : List (List ℕ)) → All IsUtf8 texts → AreMade (items_of (map string texts))
texts_made [] all = tt
texts_made (text ∷ texts) all = (All-head IsUtf8 text texts all, texts_made texts (All-tail IsUtf8 text texts all))

-- and don't nest
texts_depth : (texts : List (List ℕ)) → items_depth (items_of (map string texts)) ≡ 0
texts_depth [] = refl
texts_depth (text ∷ texts) = ap (max 0) (texts_depth texts)

-- they are read one by one
texts_read : (earlier texts : List (List ℕ)) → sequence.items_after text_of earlier (item_list (items_of (map string texts))) ≡ Ok (earlier ++ texts)
texts_read earlier [] = ap Ok (sym (append-nil earlier))
texts_read earlier (text ∷ texts) = texts_read (earlier ++ text ∷ []) texts ∙ ap Ok (append_assoc earlier (text ∷ []) texts)

-- the identities that are read are those that were written
pub identifiers_back : (entry : ShelfUrl) → All IsUtf8 entry.identities → identifiers_of (compact_text (identifiers_data entry)) ≡ Ok entry.identities
identifiers_back entry all =
    ap (λ (d : Reading Data). in_document (d >>= identifiers_reading))
    (document_made (identifiers_data entry) (IsUtf8-are_ascii (codes "identifiers") refl, texts_made entry.identities all, tt, tt)
    (let flat = texts_depth entry.identities in omega (arith, flat)))
    ∙ ap (λ (texts : Reading (List (List ℕ))). in_document (within (codes "identifiers") texts)) (texts_read [] entry.identities)
