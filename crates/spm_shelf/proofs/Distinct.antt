-- A shelf file that was read has each identity once.
use Rattle.std.specs.Prelude.{codes}
use Rattle.std.proofs.Common.{◌≡◌, ℕ, ◌≤◌, Bool, true, false, List, [], ◌∷◌, ◌++◌, Ok, Err, cond, if◌then◌else◌, refl, ap, inl, inr, subst, arith}
use Rattle.std.specs.List.{list_any, sum_by}
use Rattle.std.proofs.lemmas.Bool.{cases_Bool, or_parts}
use Rattle.std.proofs.lemmas.List.Sums.{sum_by-cons, sum_by_push}
use Rattle.std.proofs.lemmas.Slice.Eq.{bytes_eq-Decides}
use Rattle.serde_json.specs.Data.{Data}
use Rattle.serde_json.specs.Find.{as_object, get}
use Rattle.spm_version.specs.declared.kind.Kind.TheVariants.{Doubled, WrongKind}
use Rattle.spm_json.specs.Reading.{Reading, at_foreign_key, fault_here, or_fault, ◌>>=◌}
use Rattle.spm_json.specs.Field.{field_of, optional_field_of, required_in}
use Rattle.spm_json.specs.Sequence.{members_after, members_of}
use Rattle.spm_json.specs.Shape.{document_of, member_list, object_of}
use Rattle.spm_json.specs.Value.{identity_in}
use Rattle.spm_shelf.specs.File.{file_reading, is_package, not_doubled, package_member, packages_reading, release_member, shelf_of, urls_in, urls_reading}
use Rattle.spm_shelf.proofs.Readings.{IfReads, both, in_the_document, next_alone, of_the_value, under_a_foreign_key, where_it_is, within_a_member}
use Rattle.spm_shelf.specs.declared.file.ShelfFile.{ShelfFile}
use Rattle.spm_shelf.specs.declared.file.ShelfPackage.{ShelfPackage}
use Rattle.spm_shelf.specs.declared.file.ShelfRelease.{ShelfRelease}

-- ---- each identity once

-- 1 for a package with the identity
abbrev pub is_counted : List ℕ → ShelfPackage → ℕ
is_counted identity entry = cond (is_package identity entry) 1 0

-- each identity is counted once at most
abbrev pub AreDistinct : List ShelfPackage → Type 0
AreDistinct entries = (identity : List ℕ) → sum_by (is_counted identity) entries ≤ 1

-- no package has the identity of this one
abbrev IsNew : List ShelfPackage → ShelfPackage → Type 0
IsNew earlier entry = list_any (is_package entry.identity) earlier ≡ false

-- no package is counted for an identity that none has
none_counted : (identity : List ℕ) (entries : List ShelfPackage) → list_any (is_package identity) entries ≡ false → sum_by (is_counted identity) entries ≡ 0
none_counted identity [] none = refl
none_counted identity (entry ∷ entries) none =
    let parts = or_parts (is_package identity entry) (list_any (is_package identity) entries) none in
    let first : is_counted identity entry ≡ 0 = ap (λ (is : Bool). cond is 1 0) parts.0 in
    let rest = none_counted identity entries parts.1 in
    omega (arith, sum_by-cons (is_counted identity) entry entries, first, rest)

-- one more package, of a new identity
AreDistinct-push : (entries : List ShelfPackage) (entry : ShelfPackage) → AreDistinct entries → IsNew entries entry → AreDistinct (entries ++ entry ∷ [])
AreDistinct-push entries entry distinct new = λ identity.
    let total = sum_by_push (is_counted identity) entries entry in
    elim (cases_Bool (is_package identity entry)) [
      | inl same ↦
          (let is : entry.identity ≡ identity = (bytes_eq-Decides entry.identity identity).0 same in
          let none = none_counted identity entries (subst (λ (i : List ℕ). list_any (is_package i) entries ≡ false) is new) in
          let one : is_counted identity entry ≡ 1 = ap (λ (is : Bool). cond is 1 0) same in
          omega (arith, total, none, one))
      | inr other ↦
          (let before = distinct identity in
          let none : is_counted identity entry ≡ 0 = ap (λ (is : Bool). cond is 1 0) other in
          omega (arith, total, before, none))
    ]

-- ---- the packages of a file

-- a package is read only where its identity is new
new_when : (earlier : List ShelfPackage) (identity : List ℕ) (is_doubled : Bool) (releases : Reading (List ShelfRelease)) → list_any (is_package identity) earlier ≡ is_doubled
    → IfReads (IsNew earlier) ((if is_doubled then fault_here Doubled else Ok identity) >>= λ new. releases >>= λ read. Ok (record { identity = new; releases = read }))
new_when earlier identity true releases is = tt
new_when earlier identity false (Ok read) is = is
new_when earlier identity false (Err fault) is = tt

-- so each package that is read is new
package_is_new : (earlier : List ShelfPackage) (key : List ℕ) (d : Data) → IfReads (IsNew earlier) (package_member earlier key d)
package_is_new earlier key d =
    next_alone (IsNew earlier) (identity_in key)
    (λ read. not_doubled earlier read >>= λ identity. members_of release_member d >>= λ releases. Ok (record { identity = identity; releases = releases }))
    (λ read. new_when earlier read (list_any (is_package read) earlier) (members_of release_member d) refl)

-- packages that are read behind distinct ones are distinct
packages_are_distinct : (earlier : List ShelfPackage) (members : List (List ℕ × Data)) → AreDistinct earlier → IfReads AreDistinct (members_after package_member earlier members)
packages_are_distinct earlier [] distinct = distinct
packages_are_distinct earlier (m ∷ members) distinct =
    both (IsNew earlier) AreDistinct (at_foreign_key (package_member earlier m.0 m.1)) (λ entry. members_after package_member (earlier ++ entry ∷ []) members)
    (under_a_foreign_key (IsNew earlier) (package_member earlier m.0 m.1) (package_is_new earlier m.0 m.1))
    (λ entry new. packages_are_distinct (earlier ++ entry ∷ []) members (AreDistinct-push earlier entry distinct new))

-- so are an object's
of_an_object : (d : Data) → IfReads AreDistinct (members_of package_member d)
of_an_object d =
    next_alone AreDistinct (or_fault WrongKind (as_object d)) (λ members. members_after package_member [] (member_list members))
    (λ members. packages_are_distinct [] (member_list members) (λ identity. omega arith))

-- a file of distinct packages
abbrev pub IsFileOfDistinct : ShelfFile → Type 0
IsFileOfDistinct file = AreDistinct file.packages

-- so are a file's
of_file : (d : Data) → IfReads IsFileOfDistinct (file_reading d)
of_file d =
    next_alone IsFileOfDistinct (object_of d)
    (λ o. field_of packages_reading (codes "packages") o >>= λ packages. optional_field_of urls_reading (codes "urls") o >>= λ urls. Ok (record { packages = packages; urls = urls_in urls }))
    (λ o. both AreDistinct IsFileOfDistinct (field_of packages_reading (codes "packages") o)
    (λ packages. optional_field_of urls_reading (codes "urls") o >>= λ urls. Ok (record { packages = packages; urls = urls_in urls }))
    (within_a_member AreDistinct (codes "packages") (required_in packages_reading (get (codes "packages") o)) (where_it_is AreDistinct packages_reading (get (codes "packages") o) of_an_object))
    (λ packages distinct. next_alone IsFileOfDistinct (optional_field_of urls_reading (codes "urls") o) (λ urls. Ok (record { packages = packages; urls = urls_in urls })) (λ urls. distinct)))

-- a file that was read has distinct packages
pub AreDistinct-shelf_of : (bytes : List ℕ) (file : ShelfFile) → shelf_of bytes ≡ Ok file → AreDistinct file.packages
AreDistinct-shelf_of bytes file is =
    of_the_value IsFileOfDistinct (shelf_of bytes) file
    (in_the_document IsFileOfDistinct (document_of bytes >>= file_reading) (next_alone IsFileOfDistinct (document_of bytes) file_reading of_file)) is
