-- A fingerprint file that was read has each identity once.
use Rattle.std.specs.Prelude.{codes}
use Rattle.std.proofs.Common.{◌≡◌, ℕ, ◌≤◌, Bool, true, false, not, List, [], ◌∷◌, ◌++◌, Ok, Err, cond, if◌then◌else◌, refl, ap, inl, inr, subst, arith}
use Rattle.std.specs.List.{filter, list_any, sum_by}
use Rattle.std.proofs.lemmas.Bool.{cases_Bool, or_parts}
use Rattle.std.proofs.lemmas.List.Filters.{sum_by-filter_both}
use Rattle.std.proofs.lemmas.List.Sums.{sum_by-cons, sum_by_push}
use Rattle.std.proofs.lemmas.Slice.Eq.{bytes_eq-Decides}
use Rattle.serde_json.specs.Data.{Data}
use Rattle.serde_json.specs.Find.{as_object, get}
use Rattle.spm_version.specs.declared.kind.Kind.TheVariants.{Doubled, WrongKind}
use Rattle.spm_json.specs.Reading.{Reading, at_foreign_key, fault_here, or_fault, ◌>>=◌}
use Rattle.spm_json.specs.Field.{field_of, required_in}
use Rattle.spm_json.specs.Sequence.{members_after, members_of}
use Rattle.spm_json.specs.Shape.{document_of, member_list, object_of}
use Rattle.spm_json.specs.Value.{identity_in, version_field}
use Rattle.spm_trust.specs.File.{file_reading, fingerprint_member, fingerprints_reading, is_package, not_doubled, package_member, trust_of}
use Rattle.spm_trust.specs.declared.file.KeptPackage.{KeptPackage}
use Rattle.spm_trust.specs.declared.file.KeptSum.{KeptSum}
use Rattle.spm_trust.proofs.Readings.{IfReads, both, in_the_document, next_alone, of_the_value, under_a_foreign_key, where_it_is, within_a_member}

-- ---- each identity once

-- 1 for a package with the identity
abbrev pub is_counted : List ℕ → KeptPackage → ℕ
is_counted identity entry = cond (is_package identity entry) 1 0

-- each identity is counted once at most
abbrev pub AreDistinct : List KeptPackage → Type 0
AreDistinct entries = (identity : List ℕ) → sum_by (is_counted identity) entries ≤ 1

-- no package has the identity of this one
abbrev IsNew : List KeptPackage → KeptPackage → Type 0
IsNew earlier entry = list_any (is_package entry.identity) earlier ≡ false

-- no package is counted for an identity that none has
none_counted : (identity : List ℕ) (entries : List KeptPackage) → list_any (is_package identity) entries ≡ false → sum_by (is_counted identity) entries ≡ 0
none_counted identity [] none = refl
none_counted identity (entry ∷ entries) none =
    let parts = or_parts (is_package identity entry) (list_any (is_package identity) entries) none in
    let first : is_counted identity entry ≡ 0 = ap (λ (is : Bool). cond is 1 0) parts.0 in
    let rest = none_counted identity entries parts.1 in
    omega (arith, sum_by-cons (is_counted identity) entry entries, first, rest)

-- one more package, of a new identity
AreDistinct-push : (entries : List KeptPackage) (entry : KeptPackage) → AreDistinct entries → IsNew entries entry → AreDistinct (entries ++ entry ∷ [])
AreDistinct-push entries entry distinct new = λ identity.
    let total = sum_by_push (is_counted identity) entries entry in
    elim (cases_Bool (is_package identity entry)) [
      | inl same ↦
          (let is : entry.identity ≡ identity = (bytes_eq-Decides entry.identity identity).0 same in
          let none = none_counted identity entries (subst (λ (i : List ℕ). list_any (is_package i) entries ≡ false) is new) in
          let one : is_counted identity entry ≡ 1 = ap (λ (is : Bool). cond is 1 0) same in
          omega (arith, total, none, one))
      | inr other ↦
          (let before = distinct identity in
          let none : is_counted identity entry ≡ 0 = ap (λ (is : Bool). cond is 1 0) other in
          omega (arith, total, before, none))
    ]

-- some of distinct packages are distinct
pub AreDistinct-filter : (test : KeptPackage → Bool) (entries : List KeptPackage) → AreDistinct entries → AreDistinct (filter test entries)
AreDistinct-filter test entries distinct = λ identity.
    let before = distinct identity in
    omega (arith, before, sum_by-filter_both test (λ entry. not (test entry)) (λ entry. refl) (is_counted identity) entries)

-- ---- the packages of a file

-- a package is read only where its identity is new
new_when : (earlier : List KeptPackage) (identity : List ℕ) (is_doubled : Bool) (sums : Reading (List KeptSum)) → list_any (is_package identity) earlier ≡ is_doubled
    → IfReads (IsNew earlier) ((if is_doubled then fault_here Doubled else Ok identity) >>= λ new. sums >>= λ read. Ok (record { identity = new; sums = read }))
new_when earlier identity true sums is = tt
new_when earlier identity false (Ok read) is = is
new_when earlier identity false (Err fault) is = tt

-- so each package that is read is new
package_is_new : (earlier : List KeptPackage) (key : List ℕ) (d : Data) → IfReads (IsNew earlier) (package_member earlier key d)
package_is_new earlier key d =
    next_alone (IsNew earlier) (identity_in key)
    (λ read. not_doubled earlier read >>= λ identity. members_of fingerprint_member d >>= λ sums. Ok (record { identity = identity; sums = sums }))
    (λ read. new_when earlier read (list_any (is_package read) earlier) (members_of fingerprint_member d) refl)

-- packages that are read behind distinct ones are distinct
packages_are_distinct : (earlier : List KeptPackage) (members : List (List ℕ × Data)) → AreDistinct earlier → IfReads AreDistinct (members_after package_member earlier members)
packages_are_distinct earlier [] distinct = distinct
packages_are_distinct earlier (m ∷ members) distinct =
    both (IsNew earlier) AreDistinct (at_foreign_key (package_member earlier m.0 m.1)) (λ entry. members_after package_member (earlier ++ entry ∷ []) members)
    (under_a_foreign_key (IsNew earlier) (package_member earlier m.0 m.1) (package_is_new earlier m.0 m.1))
    (λ entry new. packages_are_distinct (earlier ++ entry ∷ []) members (AreDistinct-push earlier entry distinct new))

-- so are an object's
of_an_object : (d : Data) → IfReads AreDistinct (fingerprints_reading d)
of_an_object d =
    next_alone AreDistinct (or_fault WrongKind (as_object d)) (λ members. members_after package_member [] (member_list members))
    (λ members. packages_are_distinct [] (member_list members) (λ identity. omega arith))

-- so are a file's
of_file : (d : Data) → IfReads AreDistinct (file_reading d)
of_file d =
    next_alone AreDistinct (object_of d) (λ o. version_field 1 o >>= λ _. field_of fingerprints_reading (codes "fingerprints") o)
    (λ o. next_alone AreDistinct (version_field 1 o) (λ _. field_of fingerprints_reading (codes "fingerprints") o)
    (λ _. within_a_member AreDistinct (codes "fingerprints") (required_in fingerprints_reading (get (codes "fingerprints") o))
    (where_it_is AreDistinct fingerprints_reading (get (codes "fingerprints") o) of_an_object)))

-- a file that was read has distinct packages
pub AreDistinct-trust_of : (bytes : List ℕ) (file : List KeptPackage) → trust_of bytes ≡ Ok file → AreDistinct file
AreDistinct-trust_of bytes file is =
    of_the_value AreDistinct (trust_of bytes) file
    (in_the_document AreDistinct (document_of bytes >>= file_reading) (next_alone AreDistinct (document_of bytes) file_reading of_file)) is
