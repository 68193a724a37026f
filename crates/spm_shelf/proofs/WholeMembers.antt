-- Members that were read have the texts of their keys, which ascend, and releases are complete.
use Rattle.std.specs.Prelude.{codes}
use Rattle.std.proofs.Common.{◌≡◌, ◌<◌, ◌≤◌, ◌↔◌, IsTrue, Bool, arith, get_or, length, take, ℕ, List, [], ◌∷◌, ◌++◌, Option, Some, None, Ok, All, IfSome, IsNone, IsSome, append_assoc, map, refl, subst, sym, ap, ◌∙◌}
use Rattle.std.specs.Cmp.Lexicographic.{slice_cmp}
use Rattle.std.specs.List.Sorted.{IsStrictlySortedBy}
use Rattle.std.specs.Ordering.{nat_cmp}
use Rattle.std.proofs.lemmas.Bool.{false≢true}
use Rattle.std.proofs.lemmas.List.{append-nil, map-append, take_all}
use Rattle.std.proofs.lemmas.List.Elements.{All-nil, All-push}
use Rattle.serde_json.specs.Data.{Data, Members}
use Rattle.serde_json.specs.Find.{as_object}
use Rattle.spm_version.specs.Release.{Parts, parts_text, release_of}
use Rattle.spm_version.specs.declared.kind.Kind.TheVariants.{BadVersion, WrongKind}
use Rattle.spm_version.proofs.ReleaseLemmas.{Spells-release_of}
use Rattle.spm_json.specs.Field.{needed_field_of, optional_field_of}
use Rattle.spm_json.specs.Reading.{Reading, at_foreign_key, or_fault, ◌>>=◌}
use Rattle.spm_json.specs.Sequence.{items_of, members_after, members_of}
use Rattle.spm_json.specs.Shape.{HasAscendingKeys, member_list, object_of, text_of}
use Rattle.spm_json.specs.Value.{identity_reading, release_in}
use Rattle.spm_shelf.specs.File.{archive_reading, checksum_reading, release_member, unless_problem, url_member}
use Rattle.spm_shelf.specs.Shelf.{AreReleases, AreUrls, Ascend, IsComplete}
use Rattle.spm_shelf.specs.declared.file.ShelfRelease.{ShelfRelease}
use Rattle.spm_shelf.specs.declared.file.ShelfUrl.{ShelfUrl}
use Rattle.spm_shelf.proofs.Readings.{IfReads, both, next_alone, of_any, of_the_value, under_a_foreign_key, weaker}

-- ---- members of any kind

-- the item has the key's text, and is so
abbrev IsOfKey : {X : Type 0} → (X → List ℕ) → (X → Type 0) → List ℕ → X → Type 0
IsOfKey text P key x = (text x ≡ key) × P x

-- the items go on behind the earlier ones with the texts of these keys
abbrev AreBehind : {X : Type 0} → (X → List ℕ) → (X → Type 0) → List X → List (List ℕ) → List X → Type 0
AreBehind text P earlier keys xs = (map text xs ≡ map text earlier ++ keys) × (All P earlier → All P xs)

-- one item more before the rest
behind_one : {X : Type 0} (text : X → List ℕ) (P : X → Type 0) (earlier : List X) (key : List ℕ) (keys : List (List ℕ)) (x : X) (xs : List X) → IsOfKey text P key x
    → AreBehind text P (earlier ++ x ∷ []) keys xs → AreBehind text P earlier (key ∷ keys) xs
behind_one text P earlier key keys x xs of_key behind = (
  behind.0 ∙ ap (λ texts. texts ++ keys) (map-append text earlier (x ∷ [])) ∙ append_assoc (map text earlier) (text x ∷ []) keys
      ∙ ap (λ first. map text earlier ++ first ∷ keys) of_key.0,
  λ all. behind.1 (All-push P earlier x all of_key.1),
)

-- members behind earlier ones
members_behind : {X : Type 0} (text : X → List ℕ) (P : X → Type 0) (reading : List X → List ℕ → Data → Reading X)
    → ((earlier : List X) (key : List ℕ) (d : Data) → IfReads (IsOfKey text P key) (reading earlier key d)) → (earlier : List X) (members : List (List ℕ × Data))
    → IfReads (AreBehind text P earlier (map (λ m. m.0) members)) (members_after reading earlier members)
members_behind text P reading each earlier [] = (sym (append-nil (map text earlier)), λ all. all)
members_behind {X} text P reading each earlier (m ∷ members) =
    both (IsOfKey text P m.0) (AreBehind text P earlier (m.0 ∷ map (λ m. m.0) members)) (at_foreign_key (reading earlier m.0 m.1))
    (λ x. members_after reading (earlier ++ x ∷ []) members)
    (under_a_foreign_key (IsOfKey text P m.0) (reading earlier m.0 m.1) (each earlier m.0 m.1))
    (λ x of_key. weaker (AreBehind text P (earlier ++ x ∷ []) (map (λ m. m.0) members)) (AreBehind text P earlier (m.0 ∷ map (λ m. m.0) members))
    (members_after reading (earlier ++ x ∷ []) members) (λ xs. behind_one text P earlier m.0 (map (λ m. m.0) members) x xs of_key)
    (members_behind text P reading each (earlier ++ x ∷ []) members))

-- the keys ascend, if it is an object
abbrev HaveAscendingKeys : Option Members → Type 0
HaveAscendingKeys found = IfSome found (λ members. IsStrictlySortedBy (slice_cmp nat_cmp) (map (λ m. m.0) (member_list members)))

-- members that are read of an object with ascending keys ascend
members_in : {X : Type 0} (text : X → List ℕ) (P : X → Type 0) (reading : List X → List ℕ → Data → Reading X)
    → ((earlier : List X) (key : List ℕ) (d : Data) → IfReads (IsOfKey text P key) (reading earlier key d)) → (found : Option Members) (xs : List X)
    → HaveAscendingKeys found → (or_fault WrongKind found >>= λ members. members_after reading [] (member_list members)) ≡ Ok xs → Ascend (map text xs) × All P xs
members_in text P reading each (Some members) xs ascending is =
    let behind = of_the_value (AreBehind text P [] (map (λ m. m.0) (member_list members))) (members_after reading [] (member_list members)) xs
    (members_behind text P reading each [] (member_list members)) is in
    (subst Ascend (sym behind.0) ascending, behind.1 (All-nil P))
members_in text P reading each None xs ascending is = cc

-- ---- releases

-- a release has the text that it was read from
text_is : (key : List ℕ) (found : Option Parts) → release_of key ≡ found → IfReads (λ parts. parts_text parts ≡ key) (or_fault BadVersion found)
text_is key (Some parts) is = (Spells-release_of key parts is).1
text_is key None is = tt

-- what may be absent only where there is a problem
there_unless : {A : Type 0} (reading : Data → Reading A) (key : List ℕ) (problem : Option (List ℕ)) (d : Data)
    → IfReads (λ found. IsNone problem → IsSome found) (unless_problem reading key problem d)
there_unless reading key (Some problem) d = of_any (λ found. IsNone (Some problem) → IsSome found) (optional_field_of reading key d) (λ found none. absurd (false≢true (sym none)))
there_unless reading key None d =
    next_alone (λ found. IsNone {T = List ℕ} None → IsSome found) (needed_field_of reading key d) (λ x. Ok (Some x)) (λ x none. refl)

-- a release's text
abbrev text_of_release : ShelfRelease → List ℕ
text_of_release release = parts_text release.release

-- a release that is read has its key's text, and is complete
release_of_key : (earlier : List ShelfRelease) (key : List ℕ) (d : Data) → IfReads (IsOfKey text_of_release IsComplete key) (release_member earlier key d)
release_of_key earlier key d =
    let Q : ShelfRelease → Type 0 = IsOfKey text_of_release IsComplete key in
    both (λ parts. parts_text parts ≡ key) Q (release_in key) _ (text_is key (release_of key) refl) (λ release is.
    next_alone Q (object_of d) _ (λ o.
    next_alone Q (optional_field_of text_of (codes "problem") o) _ (λ problem.
    both (λ found. IsNone problem → IsSome found) Q (unless_problem text_of (codes "manifest") problem o) _ (there_unless text_of (codes "manifest") problem o) (λ manifest has_manifest.
    both (λ found. IsNone problem → IsSome found) Q (unless_problem archive_reading (codes "archive") problem o) _ (there_unless archive_reading (codes "archive") problem o) (λ archive has_archive.
    next_alone Q (optional_field_of checksum_reading (codes "checksum") o) _ (λ checksum. (is, λ none. (has_manifest none, has_archive none))))))))

-- releases that are read of an object with ascending keys are as a package of a shelf has them
pub AreReleases-members_of : (d : Data) (releases : List ShelfRelease) → HasAscendingKeys d → members_of release_member d ≡ Ok releases → AreReleases releases
AreReleases-members_of d releases ascending is =
    let both = members_in text_of_release IsComplete release_member release_of_key (as_object d) releases ascending is in
    record { ascending = both.0; complete = both.1 }

-- the same list
map_same : {X : Type 0} (xs : List X) → map (λ x. x) xs ≡ xs
map_same [] = refl
map_same (x ∷ xs) = ap (λ rest. x ∷ rest) (map_same xs)

-- whether complete releases are so is whether their texts ascend
pub releases_answer : (releases : List ShelfRelease) (texts : List (List ℕ)) (turns : ℕ) (answer : Bool) → length releases ≤ turns → texts ≡ map text_of_release (take turns releases)
    → ((k : ℕ) (d : ShelfRelease) → k < turns → IsComplete (get_or releases k d)) → (IsTrue answer ↔ Ascend (map (λ text. text) texts)) → IsTrue answer ↔ AreReleases releases
releases_answer releases texts turns answer within is complete tells =
    let all : map (λ text. text) texts ≡ map text_of_release releases = map_same texts ∙ is ∙ ap (map text_of_release) (take_all turns releases within) in (
      λ yes. record { ascending = subst Ascend all (tells.0 yes); complete = λ k d below. complete k d (omega (arith, below, within)) },
      λ are. tells.1 (subst Ascend (sym all) are.ascending),
    )

-- ---- URLs

-- a URL that is read is its key
url_of_key : (earlier : List ShelfUrl) (key : List ℕ) (d : Data) → IfReads (IsOfKey (λ entry. entry.url) (λ _. Unit {0}) key) (url_member earlier key d)
url_of_key earlier key d =
    next_alone (IsOfKey (λ entry. entry.url) (λ _. Unit {0}) key) (items_of identity_reading d) (λ identities. Ok (record { url = key; identities = identities }))
    (λ identities. (refl, tt))

-- URLs that are read of an object with ascending keys ascend
pub AreUrls-members_of : (d : Data) (urls : List ShelfUrl) → HasAscendingKeys d → members_of url_member d ≡ Ok urls → AreUrls urls
AreUrls-members_of d urls ascending is = (members_in (λ (entry : ShelfUrl). entry.url) (λ _. Unit {0}) url_member url_of_key (as_object d) urls ascending is).0
