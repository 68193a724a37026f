-- The releases that a list names are distinct, so that sorted they ascend strictly.
use Rattle.std.proofs.Common.{◌≡◌, ℕ, suc, ◌<◌, ◌≤◌, false, List, [], ◌∷◌, ◌++◌, length, get_or, map, Option, Some, None, IfSome, Ok, Err, refl, sym, ap, ◌∙◌, ◌+◌, subst, arith, append_assoc, append-nil, inl, inr}
use Rattle.std.proofs.lemmas.Bool.{cases_Bool}
use Rattle.std.proofs.lemmas.List.Sorted.{ranks_by, sorted_far}
use Rattle.std.proofs.lemmas.Map.Keys.{IsDistinct-IsPermutation}
use Rattle.std.specs.Cmp.{tied_itself}
use Rattle.std.specs.Prelude.{codes}
use Rattle.std.specs.Cmp.Lexicographic.{nat_list_cmp_total, slice_cmp}
use Rattle.std.specs.List.{AllByRecursion, IsDistinct}
use Rattle.std.specs.List.Sorted.{IsPermutation, IsSorted, IsStrictlySortedBy}
use Rattle.std.specs.Ordering.{is_eq, is_lt, nat_cmp, ordering_reverse}
use Rattle.std.specs.declared.cmp.Ordering.{Ordering}
use Rattle.std.specs.declared.cmp.Ordering.TheVariants.{Less, Equal, Greater}
use Rattle.serde_json.specs.Data.{Data, Members}
use Rattle.serde_json.specs.Find.{as_object, get}
use Rattle.spm_json.specs.Reading.{Reading, at_foreign_key, or_fault, ◌>>=◌}
use Rattle.spm_json.specs.Sequence.{members_after, members_of}
use Rattle.spm_json.specs.Shape.{HasAscendingKeys, member_list, object_of}
use Rattle.spm_version.proofs.ReleaseLemmas.{Spells-release_of, same_release}
use Rattle.spm_version.specs.declared.kind.Kind.TheVariants.{WrongKind}
use Rattle.spm_version.specs.Release.{Parts, ends_in_zip, parts_text, release_of}
use Rattle.spm_version.specs.ReleaseLaws.{release_cmp, release_eq, release_equiv, release_ties, release_total}
use Rattle.spm_api.specs.Bodies.{all_some, listed_reading, unless_problem, usable_release}
use Rattle.spm_api.specs.Reads.{ReadsList}

-- ---- each release stands under its text

-- the release of a key, if it has one
IsOf : List ℕ → Option Parts → Type 0
IsOf key found = IfSome found (λ release. release_of key ≡ Some release)

-- the releases of members, one by one
AreOf : List (List ℕ × Data) → List (Option Parts) → Type 0
AreOf [] [] = Unit {0}
AreOf [] (found ∷ others) = ⊥
AreOf (m ∷ ms) [] = ⊥
AreOf (m ∷ ms) (found ∷ others) = IsOf m.0 found × AreOf ms others

-- where it has a problem, there is none
unless_problem_of : (key : List ℕ) (problem : Option Data) (found : Option Parts) → IsOf key found → IsOf key (unless_problem problem found)
unfolding IsOf
unless_problem_of key (Some problem) found is = tt
unless_problem_of key None found is = is

-- what is read of a key is of it
itself_of : (key : List ℕ) (found : Option Parts) → release_of key ≡ found → IsOf key found
unfolding IsOf
itself_of key None is = tt
itself_of key (Some release) is = is

-- and so is what is usable
usable_of : (key : List ℕ) (d : Data) → IsOf key (usable_release key d)
unfolding IsOf
usable_of key d = elim (cases_Bool (ends_in_zip key)) [
  | inl zip ↦ rw zip tt
  | inr plain ↦ rw plain (unless_problem_of key (get (codes "problem") d) (release_of key) (itself_of key (release_of key) refl))
]

-- and what a member is read as
read_of : (key : List ℕ) (d : Data) (object : Reading Data) (found : Option Parts) → at_foreign_key (object >>= λ o. Ok (usable_release key o)) ≡ Ok found → IsOf key found
read_of key d (Ok o) found is = let same : usable_release key o ≡ found = cc in rw (← same) (usable_of key o)
read_of key d (Err fault) found is = absurd (cc is)

-- what members are read as behind those before
abbrev Goes : List (Option Parts) → List (List ℕ × Data) → List (Option Parts) → Type 0
Goes earlier ms listed = (others : List (Option Parts)) × (listed ≡ earlier ++ others) × AreOf ms others

-- with one more member at the front
one_more : (earlier : List (Option Parts)) (m : List ℕ × Data) (ms : List (List ℕ × Data)) (listed : List (Option Parts)) (read : Reading (Option Parts))
    → at_foreign_key (listed_reading earlier m.0 m.1) ≡ read → (read >>= λ x. members_after listed_reading (earlier ++ x ∷ []) ms) ≡ Ok listed
    → ((found : Option Parts) → members_after listed_reading (earlier ++ found ∷ []) ms ≡ Ok listed → Goes (earlier ++ found ∷ []) ms listed)
    → Goes earlier (m ∷ ms) listed
unfolding AreOf
one_more earlier m ms listed (Err fault) read is rest = absurd (cc is)
one_more earlier m ms listed (Ok found) read is rest =
    let others = rest found is in
    (found ∷ others.0, others.1 ∙ append_assoc earlier (found ∷ []) others.0, (read_of m.0 m.1 (object_of m.1) found read, others.2))

-- members are read as releases of their keys
are_of : (earlier : List (Option Parts)) (ms : List (List ℕ × Data)) (listed : List (Option Parts)) → members_after listed_reading earlier ms ≡ Ok listed
    → Goes earlier ms listed
unfolding AreOf
are_of earlier [] listed is = ([], cc (is, append-nil earlier), tt)
are_of earlier (m ∷ ms) listed is =
    one_more earlier m ms listed _ refl is (λ found read. are_of (earlier ++ found ∷ []) ms listed read)

-- ---- they are distinct

-- releases of two texts, of which one is below the other, are two
two_releases : (first second : List ℕ) (release other : Parts) → release_of first ≡ Some release → release_of second ≡ Some other
    → slice_cmp nat_cmp first second ≡ Less → release_eq release other ≡ false
two_releases first second release other is also below = elim (cases_Bool (release_eq release other)) [
  | inl same ↦
      (let one : first ≡ second = sym (Spells-release_of first release is).1 ∙ ap parts_text (same_release release other same) ∙ (Spells-release_of second other also).1 in
      let tied = tied_itself nat_list_cmp_total second in
      absurd (cc (below, ap (λ text. slice_cmp nat_cmp text second) one, tied)))
  | inr apart ↦ apart
]

-- a release differs from those of the keys above its own
apart_from : (key : List ℕ) (release : Parts) (ms : List (List ℕ × Data)) (others : List (Option Parts)) → release_of key ≡ Some release → AreOf ms others
    → AllByRecursion (λ k. slice_cmp nat_cmp key k ≡ Less) (map (λ m. m.0) ms) → AllByRecursion (λ other. release_eq release other ≡ false) (all_some others)
unfolding AreOf IsOf
apart_from key release [] [] is are above = tt
apart_from key release [] (found ∷ others) is are above = absurd are
apart_from key release (m ∷ ms) [] is are above = absurd are
apart_from key release (m ∷ ms) (None ∷ others) is are above = apart_from key release ms others is are.1 above.1
apart_from key release (m ∷ ms) (Some other ∷ others) is are above =
    (two_releases key m.0 release other is are.0 above.0, apart_from key release ms others is are.1 above.1)

-- releases of keys that ascend are distinct
distinct_of : (ms : List (List ℕ × Data)) (others : List (Option Parts)) → AreOf ms others → IsStrictlySortedBy (slice_cmp nat_cmp) (map (λ m. m.0) ms)
    → IsDistinct release_eq (all_some others)
unfolding AreOf IsOf IsStrictlySortedBy IsDistinct
distinct_of [] [] are ascending = tt
distinct_of [] (found ∷ others) are ascending = absurd are
distinct_of (m ∷ ms) [] are ascending = absurd are
distinct_of (m ∷ ms) (None ∷ others) are ascending = distinct_of ms others are.1 ascending.1
distinct_of (m ∷ ms) (Some release ∷ others) are ascending =
    (apart_from m.0 release ms others are.0 are.1 ascending.0, distinct_of ms others are.1 ascending.1)

-- and so are those of an object, if it is one
listed_of : (object : Option Members) (listed : List (Option Parts)) → (or_fault WrongKind object >>= λ members. members_after listed_reading [] (member_list members)) ≡ Ok listed
    → IfSome object (λ members. IsStrictlySortedBy (slice_cmp nat_cmp) (map (λ m. m.0) (member_list members))) → IsDistinct release_eq (all_some listed)
listed_of None listed is ascending = absurd (cc is)
listed_of (Some members) listed is ascending =
    let read = are_of [] (member_list members) listed is in
    rw read.1 (distinct_of (member_list members) read.0 read.2 ascending)

-- the releases that a list names are distinct
pub listed_distinct : (d : Data) (listed : List (Option Parts)) → members_of listed_reading d ≡ Ok listed → HasAscendingKeys d
    → IsDistinct release_eq (all_some listed)
listed_distinct d listed is ascending = listed_of (as_object d) listed is ascending

-- ---- sorted they ascend strictly

-- of two releases that differ, one that isn't above is below
less_from : (first second : Parts) (order : Ordering) → release_cmp first second ≡ order → is_lt (release_cmp second first) ≡ false
    → release_eq first second ≡ false → order ≡ Less
less_from first second Less is above apart = refl
less_from first second Equal is above apart = absurd (cc (apart, release_ties first second, ap is_eq is))
less_from first second Greater is above apart =
    absurd (let other : release_cmp second first ≡ Less = release_total.antisymm second first ∙ ap ordering_reverse is in cc (above, ap is_lt other))

-- the first of sorted and distinct releases is below the others
all_above : (first : Parts) (others : List Parts) → ((k : ℕ) → k < length others → is_lt (release_cmp (get_or others k first) first) ≡ false)
    → AllByRecursion (λ other. release_eq first other ≡ false) others → AllByRecursion (λ other. release_cmp first other ≡ Less) others
all_above first [] above apart = tt
all_above first (other ∷ others) above apart =
    (less_from first other _ refl (above 0 (omega arith)) apart.0, all_above first others (λ k below. above (suc k) (omega (arith, below))) apart.1)

-- sorted and distinct releases ascend strictly
strictly : (releases : List Parts) → IsSorted release_cmp releases → IsDistinct release_eq releases → IsStrictlySortedBy release_cmp releases
unfolding IsStrictlySortedBy IsDistinct
strictly [] sorted distinct = tt
strictly (first ∷ others) sorted distinct = (
  all_above first others
      (λ k below. sorted_far _ (ranks_by release_total (λ (release : Parts). release)) (first ∷ others) sorted 0 (suc k) first (omega arith) (omega (arith, below))) distinct.0,
  strictly others
      (λ k d least below. let next : suc k + 1 ≡ suc (k + 1) = omega arith in
      subst (λ (n : ℕ). is_lt (release_cmp (get_or (first ∷ others) n d) (get_or others k d)) ≡ false) next (sorted (suc k) d (omega arith) (omega (arith, below)))) distinct.1,
)

-- distinct releases that are sorted ascend strictly
pub sorted_strictly : (usable releases : List Parts) → IsDistinct release_eq usable → IsPermutation usable releases → IsSorted release_cmp releases
    → IsStrictlySortedBy release_cmp releases
sorted_strictly usable releases distinct moved sorted =
    strictly releases sorted (IsDistinct-IsPermutation release_eq release_equiv.symm usable releases moved distinct)

-- what is read of a list, sorted
pub reads_sorted : (reading : Reading (List (Option Parts))) (listing inside : List (Option Parts)) (before after answer : List Parts) → reading ≡ Ok listing
    → inside ≡ listing → IsDistinct release_eq (all_some inside) → before ≡ all_some inside → length before ≤ 4096 → IsPermutation before after
    → IsSorted release_cmp after → answer ≡ after → ReadsList (Ok answer) reading
reads_sorted reading listing inside before after answer read same distinct usable short moved sorted made =
    let all : before ≡ all_some listing = usable ∙ ap all_some same in
    let apart : IsDistinct release_eq before = subst (IsDistinct release_eq) (sym usable) distinct in
    rw (read, made, ← all) (sorted_strictly before after apart moved sorted, moved, short)
