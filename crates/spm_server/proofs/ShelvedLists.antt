-- The list that a server writes for a package, read back: its usable releases.
use Rattle.std.proofs.Common.{◌≡◌, ℕ, ◌≤◌, Bool, true, false, not, List, [], ◌∷◌, ◌++◌, map, Option, Some, None, IfSome, IsUtf8, Ok, refl, sym, ap, ◌∙◌, subst, arith, append_assoc, append-nil, inl, inr}
use Rattle.std.specs.Prelude.{codes, if◌then◌else◌}
use Rattle.std.specs.Cmp.Lexicographic.{slice_cmp}
use Rattle.std.specs.List.{All}
use Rattle.std.specs.List.Sorted.{IsStrictlySortedBy}
use Rattle.std.specs.Ordering.{nat_cmp}
use Rattle.std.specs.declared.cmp.Ordering.TheVariants.{Less}
use Rattle.std.proofs.lemmas.Bool.{cases_Bool}
use Rattle.std.proofs.lemmas.List.Elements.{All-head, All-tail}
use Rattle.std.proofs.lemmas.Map.Keys.{sorted_tail}
use Rattle.std.proofs.lemmas.Map.Views.{All-after_first}
use Rattle.std.proofs.lemmas.Slice.Eq.{bytes_eq-Decides}
use Rattle.std.proofs.lemmas.Str.{IsUtf8-append}
use Rattle.json.proofs.Printed.Utf8.{IsUtf8-are_ascii}
use Rattle.serde_json.specs.Data.{Data, Members, depth, member, members_depth, no_members, object}
use Rattle.serde_json.specs.Written.{compact_text}
use Rattle.spm_api.specs.Bodies.{all_some, list_reading, listed_reading, releases_of}
use Rattle.spm_ident.specs.Identity.{IsIdentity, scope_of}
use Rattle.spm_json.specs.Reading.{Reading, at_foreign_key, in_document, within, ◌>>=◌}
use Rattle.spm_json.specs.Sequence.{members_after}
use Rattle.spm_json.specs.Shape.{member_list}
use Rattle.spm_json.specs.Written.{object_with, put_all}
use Rattle.spm_key.specs.Key.{release_path}
use Rattle.spm_shelf.specs.File.{is_package}
use Rattle.spm_shelf.specs.Shelf.{AreReleases, package_of}
use Rattle.spm_shelf.specs.declared.file.ShelfPackage.{ShelfPackage}
use Rattle.spm_shelf.specs.declared.file.ShelfRelease.{ShelfRelease}
use Rattle.spm_version.specs.Release.{IsValid, Parts, ends_in_zip, parts_text}
use Rattle.spm_server.specs.Content.{list_data, listed_pair, place_data}
use Rattle.spm_server.specs.Shelved.{IsTypedRelease, is_usable, usable_in}
use Rattle.spm_key.proofs.PathParts.{version_back}
use Rattle.spm_server.proofs.Paths.{name_is_text, scope_is_text, version_is_text}
use Rattle.spm_server.proofs.ReadBack.{AreMembers, Follow, IsBelow, IsMade, document_made, follow_more, follow_none, join, join_more, join_none, put_last}

-- ---- members in order

-- members as they stand
abbrev as_members : List (List ℕ × Data) → Members
as_members [] = no_members
as_members (pair ∷ pairs) = member pair.0 pair.1 (as_members pairs)

-- they are listed as they stand
listed_back : (pairs : List (List ℕ × Data)) → member_list (as_members pairs) ≡ pairs
listed_back [] = refl
listed_back (pair ∷ pairs) = ap (λ (others : List (List ℕ × Data)). pair ∷ others) (listed_back pairs)

-- each key is below those behind it
abbrev Ascends : List (List ℕ × Data) → Type 0
Ascends [] = Unit {0}
Ascends (pair ∷ pairs) = IsBelow pair.0 (as_members pairs) × Ascends pairs

-- such members go in as they stand
put_in_order : (found : Members) (pairs : List (List ℕ × Data)) → Ascends pairs → Follow found (as_members pairs)
    → put_all found pairs ≡ join found (as_members pairs)
put_in_order found [] ascends follow = sym (join_none found)
put_in_order found (pair ∷ pairs) ascends follow =
    ap (λ (members : Members). put_all members pairs) (put_last pair.0 pair.1 found follow.0)
    ∙ put_in_order (join found (member pair.0 pair.1 no_members)) pairs ascends.1 (follow_more pair.0 pair.1 found (as_members pairs) follow.1 ascends.0)
    ∙ join_more found pair.0 pair.1 (as_members pairs)

-- and so they are written
object_in_order : (pairs : List (List ℕ × Data)) → Ascends pairs → object_with pairs ≡ object (as_members pairs)
object_in_order pairs ascends = ap object (put_in_order no_members pairs ascends (follow_none (as_members pairs)))

-- ---- the places of releases

-- the places of a package's releases
abbrev places : List ℕ → List ShelfRelease → List (List ℕ × Data)
places identity entries = map (listed_pair identity) entries

-- the text of a release
abbrev text_in : ShelfRelease → List ℕ
text_in entry = parts_text entry.release

-- what is below texts is below the keys of their places
below_places : (identity key : List ℕ) (entries : List ShelfRelease) → All (λ text. slice_cmp nat_cmp key text ≡ Less) (map text_in entries)
    → IsBelow key (as_members (places identity entries))
below_places identity key [] all = tt
below_places identity key (entry ∷ entries) all = (
  All-head (λ text. slice_cmp nat_cmp key text ≡ Less) (text_in entry) (map text_in entries) all,
  below_places identity key entries (All-tail (λ text. slice_cmp nat_cmp key text ≡ Less) (text_in entry) (map text_in entries) all),
)

-- releases in the order of their texts have their places in that order
places_ascend : (identity : List ℕ) (entries : List ShelfRelease) → IsStrictlySortedBy (slice_cmp nat_cmp) (map text_in entries) → Ascends (places identity entries)
places_ascend identity [] sorted = tt
places_ascend identity (entry ∷ entries) sorted = (
  below_places identity (text_in entry) entries (All-after_first (slice_cmp nat_cmp) (text_in entry) (map text_in entries) sorted),
  places_ascend identity entries (sorted_tail (slice_cmp nat_cmp) (text_in entry) (map text_in entries) sorted),
)

-- the path of a release is text
path_utf8 : (identity : List ℕ) (release : Parts) → IsIdentity identity → IsValid release → IsUtf8 (release_path identity release [])
path_utf8 identity release is valid =
    let slash : IsUtf8 (codes "/") = IsUtf8-are_ascii (codes "/") refl in
    let version = IsUtf8-append (parts_text release) [] (version_is_text release valid) (IsUtf8-are_ascii [] refl) in
    let own = IsUtf8-append (codes "/") _ slash (IsUtf8-append (scope_of identity) _ (scope_is_text identity is) (IsUtf8-append (codes "/") _ slash (name_is_text identity is))) in
    IsUtf8-append _ _ own (IsUtf8-append (codes "/") _ slash version)

-- a place may be written
place_made : (identity : List ℕ) (release : Parts) (problem : Option (List ℕ)) → IsIdentity identity → IsValid release → IfSome problem IsUtf8
    → IsMade (place_data identity release problem)
place_made identity release None is valid problem =
    (IsUtf8-are_ascii (codes "url") refl, path_utf8 identity release is valid, tt, tt)
place_made identity release (Some text) is valid problem = (
  IsUtf8-are_ascii (codes "problem") refl,
  (
    IsUtf8-are_ascii (codes "detail") refl,
    problem,
    (refl, (refl, tt)),
    (
      IsUtf8-are_ascii (codes "status") refl,
      omega arith,
      (refl, tt),
      (IsUtf8-are_ascii (codes "title") refl, IsUtf8-are_ascii (codes "Gone") refl, tt, tt),
    ),
  ),
  tt,
  tt,
)

-- and so may all
places_made : (identity : List ℕ) (entries : List ShelfRelease) → IsIdentity identity → All IsTypedRelease entries → Ascends (places identity entries)
    → AreMembers (as_members (places identity entries))
places_made identity [] is all ascends = tt
places_made identity (entry ∷ entries) is all ascends =
    let typed = All-head IsTypedRelease entry entries all in (
      version_is_text entry.release typed.version,
      place_made identity entry.release entry.problem is typed.version typed.problem,
      ascends.0,
      places_made identity entries is (All-tail IsTypedRelease entry entries all) ascends.1,
    )

-- a place nests at most two deep
place_depth : (identity : List ℕ) (release : Parts) (problem : Option (List ℕ)) → depth (place_data identity release problem) ≤ 2
place_depth identity release None = omega arith
place_depth identity release (Some text) = omega arith

-- and so do all
places_depth : (identity : List ℕ) (entries : List ShelfRelease) → members_depth (as_members (places identity entries)) ≤ 2
places_depth identity [] = omega arith
places_depth identity (entry ∷ entries) =
    let one = place_depth identity entry.release entry.problem in
    let others = places_depth identity entries in
    omega (arith, one, others)

-- ---- they are read

-- what is read of a place
abbrev read_of : ShelfRelease → Option Parts
read_of entry = if is_usable entry then Some entry.release else None

-- a place is read as its release, if that is usable
place_read : (identity : List ℕ) (entry : ShelfRelease) (earlier : List (Option Parts)) → IsValid entry.release
    → at_foreign_key (listed_reading earlier (text_in entry) (place_data identity entry.release entry.problem)) ≡ Ok (read_of entry)
place_read identity entry earlier valid = by_parts entry.problem (ends_in_zip (text_in entry)) refl
  where
    by_parts : (problem : Option (List ℕ)) (zip : Bool) → ends_in_zip (text_in entry) ≡ zip
        → at_foreign_key (listed_reading earlier (text_in entry) (place_data identity entry.release problem))
        ≡ Ok (read_of (record entry { problem = problem }))
    by_parts None true is = rw is refl
    by_parts None false is = rw (is, version_back entry.release valid) refl
    by_parts (Some text) true is = rw is refl
    by_parts (Some text) false is = rw is refl

-- they are read one by one
places_read : (identity : List ℕ) (earlier : List (Option Parts)) (entries : List ShelfRelease) → All IsTypedRelease entries
    → members_after listed_reading earlier (places identity entries) ≡ Ok (earlier ++ map read_of entries)
places_read identity earlier [] all = ap Ok (sym (append-nil earlier))
places_read identity earlier (entry ∷ entries) all =
    ap (λ (read : Reading (Option Parts)). read >>= λ x. members_after listed_reading (earlier ++ x ∷ []) (places identity entries))
    (place_read identity entry earlier (All-head IsTypedRelease entry entries all).version)
    ∙ places_read identity (earlier ++ read_of entry ∷ []) entries (All-tail IsTypedRelease entry entries all)
    ∙ ap Ok (append_assoc earlier (read_of entry ∷ []) (map read_of entries))

-- those that are usable
usable_read : (entries : List ShelfRelease) → all_some (map read_of entries) ≡ usable_in entries
usable_read [] = refl
usable_read (entry ∷ entries) = elim (cases_Bool (is_usable entry)) [
  | inl is ↦ rw is (ap (λ (others : List Parts). entry.release ∷ others) (usable_read entries))
  | inr not ↦ rw not (usable_read entries)
]

-- ---- the whole

-- the list that is written, in order
list_in_order : (entry : ShelfPackage) → Ascends (places entry.identity entry.releases)
    → list_data entry ≡ object (member (codes "releases") (object (as_members (places entry.identity entry.releases))) no_members)
list_in_order entry ascends =
    ap (λ (releases : Data). object (member (codes "releases") releases no_members)) (object_in_order (places entry.identity entry.releases) ascends)

-- what is read of it
list_back : (entry : ShelfPackage) → IsIdentity entry.identity → AreReleases entry.releases → All IsTypedRelease entry.releases
    → releases_of (compact_text (list_data entry)) ≡ Ok (map read_of entry.releases)
list_back entry is releases typed =
    let pairs = places entry.identity entry.releases in
    let ascends : Ascends pairs = places_ascend entry.identity entry.releases releases.ascending in
    let deep = places_depth entry.identity entry.releases in
    let written : Data = object (member (codes "releases") (object (as_members pairs)) no_members) in
    ap (λ (d : Data). releases_of (compact_text d)) (list_in_order entry ascends)
    ∙ ap (λ (d : Reading Data). in_document (d >>= list_reading))
    (document_made written (IsUtf8-are_ascii (codes "releases") refl, places_made entry.identity entry.releases is typed ascends, tt, tt) (omega (arith, deep)))
    ∙ ap (λ (ms : List (List ℕ × Data)). in_document (within (codes "releases") (members_after listed_reading [] ms))) (listed_back pairs)
    ∙ ap (λ (read : Reading (List (Option Parts))). in_document (within (codes "releases") read)) (places_read entry.identity [] entry.releases typed)

-- the package that is found is the one that is asked for, and one of the shelf's
pub package_so : (P : ShelfPackage → Type 0) (identity : List ℕ) (entries : List ShelfPackage) → All P entries
    → IfSome (package_of identity entries) (λ entry. (entry.identity ≡ identity) × P entry)
package_so P identity [] all = tt
package_so P identity (entry ∷ entries) all = elim (cases_Bool (is_package identity entry)) [
  | inl is ↦ rw is ((bytes_eq-Decides entry.identity identity).0 is, All-head P entry entries all)
  | inr not ↦ rw not (package_so P identity entries (All-tail P entry entries all))
]

-- the usable releases come back
pub usable_back : (entry : ShelfPackage) (identity : List ℕ) → entry.identity ≡ identity → IsIdentity identity → AreReleases entry.releases
    → All IsTypedRelease entry.releases
    → (listed : List (Option Parts)) × (releases_of (compact_text (list_data entry)) ≡ Ok listed) × (all_some listed ≡ usable_in entry.releases)
usable_back entry identity same is releases typed =
    (map read_of entry.releases, list_back entry (subst IsIdentity (sym same) is) releases typed, usable_read entry.releases)
