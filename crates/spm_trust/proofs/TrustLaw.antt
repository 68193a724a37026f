-- What is written as a fingerprint file is read back.
use Rattle.std.proofs.Common.{◌≡◌, ℕ, nat_lt, Bool, true, List, [], ◌∷◌, ◌++◌, All, Ok, if◌then◌else◌, refl, ap, ◌∙◌}
use Rattle.std.specs.Prelude.{codes}
use Rattle.std.specs.List.{AllByRecursion, list_all}
use Rattle.std.specs.Str.{IsAscii}
use Rattle.std.proofs.lemmas.Bool.{and_parts, ltb-true}
use Rattle.std.proofs.lemmas.List.Elements.{All-head, All-tail}
use Rattle.std.proofs.lemmas.Str.{IsAscii-append, IsUtf8-from_ascii, is_utf8-from_IsUtf8}
use Rattle.std.proofs.lemmas.Str.Ascii.{IsAscii-cons, IsAscii-nil}
use Rattle.serde_json.specs.Read.{read}
use Rattle.spm_digest.specs.Digest.{encode_lower}
use Rattle.spm_version.specs.Release.{parts_text}
use Rattle.spm_version.specs.declared.kind.Kind.TheVariants.{NotJson}
use Rattle.spm_json.specs.Reading.{fault_here, in_document, or_fault, ◌>>=◌}
use Rattle.spm_resolved.proofs.Tame.{IsAscii-from_tame}
use Rattle.spm_resolved.proofs.TameParts.{IsTame-hex, IsTame-identity, IsTame-version}
use Rattle.spm_trust.specs.File.{file_reading, trust_of}
use Rattle.spm_trust.specs.Trust.{IsKeptPackage, IsKeptSum, IsTrust}
use Rattle.spm_trust.specs.TrustText.{behind_commas, between_commas, package_text, sum_text, trust_text}
use Rattle.spm_trust.specs.declared.file.KeptPackage.{KeptPackage}
use Rattle.spm_trust.specs.declared.file.KeptSum.{KeptSum}
use Rattle.spm_trust.proofs.TrustTokens.{AreTame, AreTameSums}
use Rattle.spm_trust.proofs.TrustData.{read-trust_text}
use Rattle.spm_trust.proofs.TrustReading.{file_reading-trust_data}

-- sums of the grammar are tame
AreTame-sums : (sums : List KeptSum) → All IsKeptSum sums → AreTameSums sums
AreTame-sums [] are = tt
AreTame-sums (kept ∷ sums) are =
    let first = All-head IsKeptSum kept sums are in
    (IsTame-version kept.release first.0, IsTame-hex kept.sum first.2, AreTame-sums sums (All-tail IsKeptSum kept sums are))

-- so are packages
AreTame-packages : (entries : List KeptPackage) → All IsKeptPackage entries → AreTame entries
AreTame-packages [] are = tt
AreTame-packages (entry ∷ entries) are =
    let first = All-head IsKeptPackage entry entries are in
    (IsTame-identity entry.identity first.0, AreTame-sums entry.sums first.1, AreTame-packages entries (All-tail IsKeptPackage entry entries are))

-- ---- the text is ASCII

-- bytes below 128 are ASCII
IsAscii-from_test : (text : List ℕ) → list_all (λ byte. nat_lt byte 128) text ≡ true → IsAscii text
IsAscii-from_test [] h = IsAscii-nil
IsAscii-from_test (byte ∷ text) h =
    let both = and_parts (nat_lt byte 128) (list_all (λ b. nat_lt b 128) text) h in
    IsAscii-cons byte text (ltb-true byte 128 both.0) (IsAscii-from_test text both.1)

-- pieces behind commas
IsAscii-behind : {X : Type 0} (piece : X → List ℕ) (xs : List X) → AllByRecursion (λ x. IsAscii (piece x)) xs → IsAscii (behind_commas piece xs)
IsAscii-behind piece [] each = IsAscii-nil
IsAscii-behind piece (x ∷ xs) each =
    IsAscii-append (codes ",") (piece x ++ behind_commas piece xs) (IsAscii-from_test (codes ",") refl)
    (IsAscii-append (piece x) (behind_commas piece xs) each.0 (IsAscii-behind piece xs each.1))

-- pieces with commas between them
IsAscii-between : {X : Type 0} (piece : X → List ℕ) (xs : List X) → AllByRecursion (λ x. IsAscii (piece x)) xs → IsAscii (between_commas piece xs)
IsAscii-between piece [] each = IsAscii-nil
IsAscii-between piece (x ∷ xs) each = IsAscii-append (piece x) (behind_commas piece xs) each.0 (IsAscii-behind piece xs each.1)

-- each sum
IsAscii-sums : (sums : List KeptSum) → AreTameSums sums → AllByRecursion (λ kept. IsAscii (sum_text kept)) sums
IsAscii-sums [] tame = tt
IsAscii-sums (kept ∷ sums) tame = (
  IsAscii-append (codes "\"") _ (IsAscii-from_test (codes "\"") refl)
      (IsAscii-append (parts_text kept.release) _ (IsAscii-from_tame (parts_text kept.release) tame.0)
      (IsAscii-append (codes "\":\"") _ (IsAscii-from_test (codes "\":\"") refl)
      (IsAscii-append (encode_lower kept.sum) _ (IsAscii-from_tame (encode_lower kept.sum) tame.1) (IsAscii-from_test (codes "\"") refl)))),
  IsAscii-sums sums tame.2,
)

-- each package
IsAscii-packages : (entries : List KeptPackage) → AreTame entries → AllByRecursion (λ entry. IsAscii (package_text entry)) entries
IsAscii-packages [] tame = tt
IsAscii-packages (entry ∷ entries) tame = (
  IsAscii-append (codes "\"") _ (IsAscii-from_test (codes "\"") refl)
      (IsAscii-append entry.identity _ (IsAscii-from_tame entry.identity tame.0)
      (IsAscii-append (codes "\":{") _ (IsAscii-from_test (codes "\":{") refl)
      (IsAscii-append (between_commas sum_text entry.sums) _ (IsAscii-between sum_text entry.sums (IsAscii-sums entry.sums tame.1)) (IsAscii-from_test (codes "}") refl)))),
  IsAscii-packages entries tame.2,
)

-- a file
IsAscii-trust_text : (packages : List KeptPackage) → AreTame packages → IsAscii (trust_text packages)
IsAscii-trust_text packages tame =
    IsAscii-append (codes "{\"fingerprints\":{") _ (IsAscii-from_test (codes "{\"fingerprints\":{") refl)
    (IsAscii-append (between_commas package_text packages) _ (IsAscii-between package_text packages (IsAscii-packages packages tame))
    (IsAscii-from_test (codes "},\"version\":1}\n") refl))

-- ---- the law

-- what is written is read back
pub trust_of-trust_text : (packages : List KeptPackage) → IsTrust packages → All IsKeptPackage packages → trust_of (trust_text packages) ≡ Ok packages
trust_of-trust_text packages trust are =
    let tame = AreTame-packages packages are in
    let text = trust_text packages in
    let utf8 = is_utf8-from_IsUtf8 text (IsUtf8-from_ascii text (IsAscii-trust_text packages tame)) in
    ap (λ (passes : Bool). in_document ((if passes then or_fault NotJson (read text) else fault_here NotJson) >>= file_reading)) utf8
    ∙ ap (λ found. in_document (or_fault NotJson found >>= file_reading)) (read-trust_text packages trust tame)
    ∙ ap in_document (file_reading-trust_data packages trust are)
