-- Sums that were read have the texts of their keys, which ascend.
use Rattle.std.proofs.Common.{◌≡◌, ℕ, List, [], ◌∷◌, ◌++◌, Option, Some, None, Ok, IfSome, append_assoc, map, sym, ap, refl, ◌∙◌, subst}
use Rattle.std.specs.Cmp.Lexicographic.{slice_cmp}
use Rattle.std.specs.List.Sorted.{IsStrictlySortedBy}
use Rattle.std.specs.Ordering.{nat_cmp}
use Rattle.std.proofs.lemmas.List.{append-nil, map-append}
use Rattle.serde_json.specs.Data.{Data, Members}
use Rattle.serde_json.specs.Find.{as_object}
use Rattle.spm_version.specs.Release.{Parts, parts_text, release_of}
use Rattle.spm_version.specs.declared.kind.Kind.TheVariants.{BadVersion, WrongKind}
use Rattle.spm_version.proofs.ReleaseLemmas.{Spells-release_of}
use Rattle.spm_json.specs.Reading.{at_foreign_key, or_fault, ◌>>=◌}
use Rattle.spm_json.specs.Sequence.{members_after, members_of}
use Rattle.spm_json.specs.Shape.{HasAscendingKeys, member_list}
use Rattle.spm_json.specs.Value.{release_in}
use Rattle.spm_trust.specs.File.{fingerprint_member, sum_reading}
use Rattle.spm_trust.specs.Trust.{AreSums, Ascend}
use Rattle.spm_trust.specs.declared.file.KeptSum.{KeptSum}
use Rattle.spm_trust.proofs.Readings.{IfReads, both, next_alone, of_the_value, under_a_foreign_key, weaker}

-- a version's text
abbrev text_of_sum : KeptSum → List ℕ
text_of_sum kept = parts_text kept.release

-- the sum is that of the version with this text
abbrev IsOfKey : List ℕ → KeptSum → Type 0
IsOfKey key kept = text_of_sum kept ≡ key

-- the sums go on behind the earlier ones with versions of these texts
abbrev AreBehind : List KeptSum → List (List ℕ) → List KeptSum → Type 0
AreBehind earlier keys sums = map text_of_sum sums ≡ map text_of_sum earlier ++ keys

-- one sum more before the rest
behind_one : (earlier : List KeptSum) (key : List ℕ) (keys : List (List ℕ)) (kept : KeptSum) (sums : List KeptSum) → IsOfKey key kept
    → AreBehind (earlier ++ kept ∷ []) keys sums → AreBehind earlier (key ∷ keys) sums
behind_one earlier key keys kept sums of_key behind =
    behind ∙ ap (λ texts. texts ++ keys) (map-append text_of_sum earlier (kept ∷ [])) ∙ append_assoc (map text_of_sum earlier) (text_of_sum kept ∷ []) keys
    ∙ ap (λ first. map text_of_sum earlier ++ first ∷ keys) of_key

-- a release has the text that it was read from
text_is : (key : List ℕ) (found : Option Parts) → release_of key ≡ found → IfReads (λ parts. parts_text parts ≡ key) (or_fault BadVersion found)
text_is key (Some parts) is = (Spells-release_of key parts is).1
text_is key None is = tt

-- a sum that is read is that of its key
sum_of_key : (earlier : List KeptSum) (key : List ℕ) (d : Data) → IfReads (IsOfKey key) (fingerprint_member earlier key d)
sum_of_key earlier key d =
    both (λ parts. parts_text parts ≡ key) (IsOfKey key) (release_in key) (λ release. sum_reading d >>= λ sum. Ok (record { release = release; sum = sum }))
    (text_is key (release_of key) refl)
    (λ release is. next_alone (IsOfKey key) (sum_reading d) (λ sum. Ok (record { release = release; sum = sum })) (λ sum. is))

-- members behind earlier ones
members_behind : (earlier : List KeptSum) (members : List (List ℕ × Data))
    → IfReads (AreBehind earlier (map (λ m. m.0) members)) (members_after fingerprint_member earlier members)
members_behind earlier [] = sym (append-nil (map text_of_sum earlier))
members_behind earlier (m ∷ members) =
    both (IsOfKey m.0) (AreBehind earlier (m.0 ∷ map (λ m. m.0) members)) (at_foreign_key (fingerprint_member earlier m.0 m.1))
    (λ x. members_after fingerprint_member (earlier ++ x ∷ []) members)
    (under_a_foreign_key (IsOfKey m.0) (fingerprint_member earlier m.0 m.1) (sum_of_key earlier m.0 m.1))
    (λ x of_key. weaker (AreBehind (earlier ++ x ∷ []) (map (λ m. m.0) members)) (AreBehind earlier (m.0 ∷ map (λ m. m.0) members))
    (members_after fingerprint_member (earlier ++ x ∷ []) members) (λ xs. behind_one earlier m.0 (map (λ m. m.0) members) x xs of_key)
    (members_behind (earlier ++ x ∷ []) members))

-- the keys ascend, if it is an object
abbrev HaveAscendingKeys : Option Members → Type 0
HaveAscendingKeys found = IfSome found (λ members. IsStrictlySortedBy (slice_cmp nat_cmp) (map (λ m. m.0) (member_list members)))

-- sums that are read of an object with ascending keys ascend
sums_in : (found : Option Members) (sums : List KeptSum) → HaveAscendingKeys found
    → (or_fault WrongKind found >>= λ members. members_after fingerprint_member [] (member_list members)) ≡ Ok sums → AreSums sums
sums_in (Some members) sums ascending is =
    let keys = map (λ m. m.0) (member_list members) in
    subst Ascend (sym (of_the_value (AreBehind [] keys) (members_after fingerprint_member [] (member_list members)) sums
    (members_behind [] (member_list members)) is)) ascending
sums_in None sums ascending is = cc

-- the same of data
pub AreSums-members_of : (d : Data) (sums : List KeptSum) → HasAscendingKeys d → members_of fingerprint_member d ≡ Ok sums → AreSums sums
AreSums-members_of d sums ascending is = sums_in (as_object d) sums ascending is
