-- What a fingerprint file's data are read as.
use Rattle.std.proofs.Common.{◌≡◌, ℕ, Bool, false, List, [], ◌∷◌, ◌++◌, All, Ok, map, if◌then◌else◌, refl, subst, sym, ap, ◌∙◌, append_assoc, append-nil}
use Rattle.std.specs.Prelude.{codes}
use Rattle.std.specs.Cmp.Lexicographic.{texts_ties}
use Rattle.std.specs.List.{AllByRecursion, list_any}
use Rattle.std.specs.List.Sorted.{IsStrictlySortedBy}
use Rattle.std.specs.Ordering.{is_eq}
use Rattle.std.specs.Result.{result_ok}
use Rattle.std.specs.declared.cmp.Ordering.TheVariants.{Less}
use Rattle.std.proofs.lemmas.Bool.{or_from}
use Rattle.std.proofs.lemmas.List.Elements.{All-head, All-tail}
use Rattle.serde_json.specs.Data.{string}
use Rattle.spm_digest.proofs.SumLemmas.{sum_of-encode_lower}
use Rattle.spm_digest.specs.Digest.{encode_lower}
use Rattle.spm_version.proofs.ReleaseLemmas.{release_of-Spells}
use Rattle.spm_version.specs.Release.{parts_text}
use Rattle.spm_version.specs.declared.kind.Kind.TheVariants.{BadHex, BadIdentity, BadVersion, Doubled}
use Rattle.spm_json.specs.Reading.{at_foreign_key, fault_here, or_fault, within, ◌>>=◌}
use Rattle.spm_json.specs.Sequence.{members_after, members_of}
use Rattle.spm_json.specs.Shape.{member_list}
use Rattle.spm_trust.specs.File.{file_reading, fingerprint_member, is_package, not_doubled, package_member, sum_reading}
use Rattle.spm_trust.specs.Trust.{AreAscending, IsKeptPackage, IsKeptSum, IsTrust}
use Rattle.spm_trust.specs.declared.file.KeptPackage.{KeptPackage}
use Rattle.spm_trust.specs.declared.file.KeptSum.{KeptSum}
use Rattle.spm_trust.proofs.Ascending.{order}
use Rattle.spm_trust.proofs.TrustData.{data_by, package_data, packages_data, sum_data, trust_data}
use Rattle.spm_trust.proofs.TrustTokens.{version_text}

-- ---- the sums of a package

-- a sum's data are read as the sum
fingerprint_member-kept : (earlier : List KeptSum) (kept : KeptSum) → IsKeptSum kept → fingerprint_member earlier (parts_text kept.release) (sum_data kept) ≡ Ok kept
fingerprint_member-kept earlier kept is =
    ap (λ found. or_fault BadVersion found >>= λ release. sum_reading (string (encode_lower kept.sum)) >>= λ sum. Ok (record { release = release; sum = sum }))
    (release_of-Spells (parts_text kept.release) kept.release (is.0, refl))
    ∙ ap (λ found. or_fault BadHex found >>= λ sum. Ok (record { release = kept.release; sum = sum })) (sum_of-encode_lower kept.sum is.1 is.2)

-- sums' data are read as the sums
sums_after : (earlier sums : List KeptSum) → All IsKeptSum sums
    → members_after fingerprint_member earlier (member_list (data_by version_text sum_data sums)) ≡ Ok (earlier ++ sums)
sums_after earlier [] are = ap Ok (sym (append-nil earlier))
sums_after earlier (kept ∷ sums) are =
    ap (λ read. at_foreign_key read >>= λ x. members_after fingerprint_member (earlier ++ x ∷ []) (member_list (data_by version_text sum_data sums)))
    (fingerprint_member-kept earlier kept (All-head IsKeptSum kept sums are))
    ∙ sums_after (earlier ++ kept ∷ []) sums (All-tail IsKeptSum kept sums are)
    ∙ ap Ok (append_assoc earlier (kept ∷ []) sums)

-- ---- the packages

-- a text that is below all is below the one behind some
below_one : (x : List ℕ) (earlier : List KeptPackage) (entry : KeptPackage) (later : List KeptPackage)
    → AllByRecursion (λ y. order x y ≡ Less) (map (λ (e : KeptPackage). e.identity) (earlier ++ entry ∷ later)) → order x entry.identity ≡ Less
below_one x [] entry later below = below.0
below_one x (first ∷ earlier) entry later below = below_one x earlier entry later below.1

-- of packages that ascend none before one has its identity
not_met : (earlier : List KeptPackage) (entry : KeptPackage) (later : List KeptPackage) → AreAscending (earlier ++ entry ∷ later)
    → list_any (is_package entry.identity) earlier ≡ false
unfolding IsStrictlySortedBy
not_met [] entry later ascending = refl
not_met (first ∷ earlier) entry later ascending =
    or_from (is_package entry.identity first) (list_any (is_package entry.identity) earlier)
    (texts_ties first.identity entry.identity ∙ ap is_eq (below_one first.identity earlier entry later ascending.0)) (not_met earlier entry later ascending.1)

-- a package's data are read as the package
package_member-kept : (earlier : List KeptPackage) (entry : KeptPackage) → IsKeptPackage entry → list_any (is_package entry.identity) earlier ≡ false
    → package_member earlier entry.identity (package_data entry) ≡ Ok entry
package_member-kept earlier entry is new =
    ap (λ found. or_fault BadIdentity (result_ok found) >>= λ read. not_doubled earlier read >>= λ identity.
    members_of fingerprint_member (package_data entry) >>= λ sums. Ok (record { identity = identity; sums = sums })) is.0
    ∙ ap (λ (met : Bool). (if met then fault_here Doubled else Ok entry.identity) >>= λ identity.
    members_of fingerprint_member (package_data entry) >>= λ sums. Ok (record { identity = identity; sums = sums })) new
    ∙ ap (λ read. read >>= λ sums. Ok (record { identity = entry.identity; sums = sums })) (sums_after [] entry.sums is.1)

-- packages' data are read as the packages
packages_after : (earlier entries : List KeptPackage) → AreAscending (earlier ++ entries) → All IsKeptPackage entries
    → members_after package_member earlier (member_list (packages_data entries)) ≡ Ok (earlier ++ entries)
packages_after earlier [] ascending are = ap Ok (sym (append-nil earlier))
packages_after earlier (entry ∷ entries) ascending are =
    ap (λ read. at_foreign_key read >>= λ x. members_after package_member (earlier ++ x ∷ []) (member_list (packages_data entries)))
    (package_member-kept earlier entry (All-head IsKeptPackage entry entries are) (not_met earlier entry entries ascending))
    ∙ packages_after (earlier ++ entry ∷ []) entries (subst AreAscending (sym (append_assoc earlier (entry ∷ []) entries)) ascending)
    (All-tail IsKeptPackage entry entries are)
    ∙ ap Ok (append_assoc earlier (entry ∷ []) entries)

-- a file's data are read as its packages
pub file_reading-trust_data : (packages : List KeptPackage) → IsTrust packages → All IsKeptPackage packages → file_reading (trust_data packages) ≡ Ok packages
file_reading-trust_data packages trust are = ap (within (codes "fingerprints")) (packages_after [] packages trust.ascending are)
