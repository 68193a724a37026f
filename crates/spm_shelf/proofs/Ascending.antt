-- Texts that ascend, and packages that ascend by their identities: a sort makes them of distinct ones, and a binary search finds
-- the first match.
use Rattle.std.proofs.Common.{◌≡◌, ◌↔◌, IsTrue, map, ℕ, zero, suc, ◌+◌, ◌<◌, Bool, true, false, List, [], ◌∷◌, length, get_or, Some, None, Ordering, cond, refl, sym, ap, ◌∙◌, inl, inr, arith, add-one}
use Rattle.std.specs.Cmp.Lexicographic.{nat_list_cmp_total, nat_list_eq_equiv, slice_cmp, texts_ties}
use Rattle.std.specs.List.{All, AllAdjacentBelow, AllByRecursion, HoldsAt, IsAllAdjacentAnswer}
use Rattle.std.specs.List.Sorted.{IsNonDecreasingBy, IsPartitionPoint, IsPermutation, IsSortedBy, IsStrictlySortedBy}
use Rattle.std.specs.Ordering.{is_eq, is_lt, nat_cmp, ordering_index, ordering_reverse}
use Rattle.std.specs.declared.cmp.Ordering.TheVariants.{Equal, Greater, Less}
use Rattle.std.proofs.lemmas.Bool.{cases_Bool, cases_lt, false≢true}
use Rattle.std.proofs.lemmas.List.Elements.{All-head, All-tail}
use Rattle.std.proofs.lemmas.List.Sorted.{ranks_by, searchable_from_sorted, sum_by-IsPermutation}
use Rattle.std.proofs.lemmas.List.Sums.{sum_by-cons}
use Rattle.spm_shelf.specs.File.{is_package}
use Rattle.spm_shelf.specs.Shelf.{AreAscending, Ascend, package_of}
use Rattle.spm_shelf.specs.declared.file.ShelfPackage.{ShelfPackage}
use Rattle.spm_shelf.proofs.Distinct.{AreDistinct, is_counted}

-- texts by their bytes
abbrev order : List ℕ → List ℕ → Ordering
order = slice_cmp nat_cmp

-- ---- texts that ascend

-- what is less is `Less`
less : (o : Ordering) → is_lt o ≡ true → o ≡ Less
less Less is = refl
less Equal is = absurd (false≢true is)
less Greater is = absurd (false≢true is)

-- a text is below those that a greater text is below
below_more : (x y : List ℕ) (zs : List (List ℕ)) → order x y ≡ Less → AllByRecursion (λ z. order y z ≡ Less) zs → AllByRecursion (λ z. order x z ≡ Less) zs
below_more x y [] first below = tt
below_more x y (z ∷ zs) first below = (nat_list_cmp_total.trans x y z first below.0, below_more x y zs first below.1)

-- a text before ascending ones, which is below the first of them
ascend_front : (x y : List ℕ) (ys : List (List ℕ)) → order x y ≡ Less → Ascend (y ∷ ys) → Ascend (x ∷ y ∷ ys)
unfolding IsStrictlySortedBy
ascend_front x y ys first rest = ((first, below_more x y ys first rest.0), rest)

-- a text that is below all is below the one at a place
below_at : {X : Type 0} (text : X → List ℕ) (x : List ℕ) (xs : List X) → AllByRecursion (λ y. order x y ≡ Less) (map text xs) → (place : ℕ) (d : X) → place < length xs
    → order x (text (get_or xs place d)) ≡ Less
below_at text x [] below place d within = absurd (omega (arith, within))
below_at text x (y ∷ xs) below zero d within = below.0
below_at text x (y ∷ xs) below (suc place) d within = below_at text x xs below.1 place d (omega (arith, within))

-- of texts that ascend each is below the next
below_next : {X : Type 0} (text : X → List ℕ) (xs : List X) → Ascend (map text xs) → (k : ℕ) (d : X) → k + 1 < length xs → order (text (get_or xs k d)) (text (get_or xs (k + 1) d)) ≡ Less
unfolding IsStrictlySortedBy
below_next text [] ascend k d below = absurd (omega (arith, below))
below_next text (x ∷ xs) ascend zero d below = below_at text (text x) xs ascend.0 0 d (omega (arith, below))
below_next text (x ∷ xs) ascend (suc k) d below =
    let within : k + 1 < length xs = omega (arith, below) in
    let rest = below_next text xs ascend.1 k d within in
    rw (add-one (suc k)) (rw (add-one k) at rest)

-- items whose texts are each below the next ascend
ascend_by_next : {X : Type 0} (text : X → List ℕ) (xs : List X) → AllAdjacentBelow (λ x y. true ≡ is_lt (order (text x) (text y))) xs (length xs) → Ascend (map text xs)
unfolding IsStrictlySortedBy
ascend_by_next text [] each = tt
ascend_by_next text (x ∷ []) each = (tt, tt)
ascend_by_next text (x ∷ y ∷ xs) each =
    ascend_front (text x) (text y) (map text xs) (less (order (text x) (text y)) (sym (each 0 x (omega arith))))
    (ascend_by_next text (y ∷ xs) (λ k d below.
    let within : suc k + 1 < length (x ∷ y ∷ xs) = omega (arith, below) in
    let here : true ≡ is_lt (order (text (get_or (y ∷ xs) k d)) (text (get_or (x ∷ y ∷ xs) (suc k + 1) d))) = each (suc k) d within in
    rw (add-one k) (rw (add-one (suc k)) at here)))

-- a look at each two neighbours tells whether texts ascend
pub ascend_answer : {X : Type 0} (text : X → List ℕ) (xs : List X) (answer : Bool) → IsAllAdjacentAnswer (λ x y b. b ≡ is_lt (order (text x) (text y))) xs answer
    → IsTrue answer ↔ Ascend (map text xs)
ascend_answer text xs true each = (λ _. ascend_by_next text xs each, λ _. refl)
ascend_answer text [] false (k, below, other) = absurd (omega (arith, below))
ascend_answer text (x ∷ xs) false (k, below, other) = (λ no. absurd (false≢true no), λ ascend. absurd (false≢true (other x ∙ ap is_lt (below_next text (x ∷ xs) ascend k x below))))

-- ---- one package before another

-- the first of these packages stands before the second
abbrev pub is_before : ShelfPackage → ShelfPackage → Bool
is_before first second = is_lt (order first.identity second.identity)

-- where one order isn't less, and it isn't equal, the reverse order is less
less_when : (o p : Ordering) → p ≡ ordering_reverse o → is_lt p ≡ false → is_eq o ≡ false → is_lt o ≡ true
less_when Less p reversed not_less other = refl
less_when Equal p reversed not_less other = absurd (false≢true (sym other))
less_when Greater p reversed not_less other = absurd (false≢true (sym not_less ∙ ap is_lt reversed))

-- a package stands before another that doesn't stand before it
is_before-from : (first second : ShelfPackage) → is_before second first ≡ false → is_package second.identity first ≡ false → is_before first second ≡ true
is_before-from first second not_less other =
    less_when (order first.identity second.identity) (order second.identity first.identity) (nat_list_cmp_total.antisymm second.identity first.identity)
    not_less (sym (texts_ties first.identity second.identity) ∙ other)

-- ---- sorted and distinct is ascending

-- the packages behind the first are distinct too
distinct_tail : (entry : ShelfPackage) (entries : List ShelfPackage) → AreDistinct (entry ∷ entries) → AreDistinct entries
distinct_tail entry entries distinct = λ identity.
    let all = distinct identity in
    omega (arith, all, sum_by-cons (is_counted identity) entry entries)

-- the first two of distinct packages have two identities
apart : (entry next : ShelfPackage) (entries : List ShelfPackage) → AreDistinct (entry ∷ next ∷ entries) → is_package next.identity entry ≡ false
apart entry next entries distinct =
    elim (cases_Bool (is_package next.identity entry)) [
      | inl same ↦
          (let all = distinct next.identity in
          let one : is_counted next.identity entry ≡ 1 = ap (λ (is : Bool). cond is 1 0) same in
          let two : is_counted next.identity next ≡ 1 = ap (λ (is : Bool). cond is 1 0) (nat_list_eq_equiv.refl next.identity) in
          absurd (omega (arith, all, one, two, sum_by-cons (is_counted next.identity) entry (next ∷ entries), sum_by-cons (is_counted next.identity) next entries)))
      | inr other ↦ other
    ]

-- the packages behind the first are sorted too
sorted_tail : (entry : ShelfPackage) (entries : List ShelfPackage) → IsSortedBy is_before (entry ∷ entries) → IsSortedBy is_before entries
sorted_tail entry entries sorted = λ k d low below.
    let within : suc k + 1 < length (entry ∷ entries) = omega (arith, below) in
    let here : is_before (get_or (entry ∷ entries) (suc k + 1) d) (get_or entries k d) ≡ false = sorted (suc k) d (omega arith) within in
    rw (add-one k) (rw (add-one (suc k)) at here)

-- distinct packages that a sort has put in order ascend
pub AreAscending-from_sorted : (entries : List ShelfPackage) → IsSortedBy is_before entries → AreDistinct entries → AreAscending entries
unfolding IsStrictlySortedBy
AreAscending-from_sorted [] sorted distinct = tt
AreAscending-from_sorted (entry ∷ []) sorted distinct = (tt, tt)
AreAscending-from_sorted (entry ∷ next ∷ entries) sorted distinct =
    ascend_front entry.identity next.identity (map (λ (p : ShelfPackage). p.identity) entries)
    (less (order entry.identity next.identity) (is_before-from entry next (sorted 0 entry (omega arith) (omega arith)) (apart entry next entries distinct)))
    (AreAscending-from_sorted (next ∷ entries) (sorted_tail entry (next ∷ entries) sorted) (distinct_tail entry (next ∷ entries) distinct))

-- an order of distinct packages has them distinct
pub AreDistinct-permutation : (old new : List ShelfPackage) → IsPermutation old new → AreDistinct old → AreDistinct new
AreDistinct-permutation old new same distinct = λ identity.
    let before = distinct identity in
    omega (arith, before, sum_by-IsPermutation (is_counted identity) old new same)

-- ---- a search of packages that ascend

-- of packages that ascend none stands before the one before it
sorted_at : (entries : List ShelfPackage) → AreAscending entries → (k : ℕ) (d : ShelfPackage) → k + 1 < length entries → is_before (get_or entries (k + 1) d) (get_or entries k d) ≡ false
sorted_at entries ascending k d below =
    (ranks_by nat_list_cmp_total (λ (p : ShelfPackage). p.identity)).one_way (get_or entries k d) (get_or entries (k + 1) d)
    (ap is_lt (below_next (λ (p : ShelfPackage). p.identity) entries ascending k d below))

-- how a package's identity stands beside this one
abbrev pub beside : List ℕ → ShelfPackage → Ordering
beside identity entry = order entry.identity identity

-- a package has an identity where it stands beside it as equal
is_package-beside : (identity : List ℕ) (entry : ShelfPackage) (o : Ordering) → beside identity entry ≡ o → is_package identity entry ≡ is_eq o
is_package-beside identity entry o is = texts_ties entry.identity identity ∙ ap is_eq is

-- a package before the one that was found is less than what was looked for
before_the_found : (identity : List ℕ) (entry found : ShelfPackage) → order entry.identity found.identity ≡ Less → beside identity found ≡ Equal → beside identity entry ≡ Less
before_the_found identity entry found first here =
    nat_list_cmp_total.antisymm entry.identity identity
    ∙ ap ordering_reverse (sym (nat_list_cmp_total.congr found.identity identity entry.identity here) ∙ nat_list_cmp_total.antisymm found.identity entry.identity ∙ ap ordering_reverse first)

-- what a search finds is the first package with the identity
pub package_of-found : (identity : List ℕ) (entries : List ShelfPackage) (place : ℕ) (found : ShelfPackage) → AreAscending entries → place < length entries
    → HoldsAt (λ entry. beside identity entry ≡ Equal) entries place → found ≡ get_or entries place found → Some found ≡ package_of identity entries
unfolding IsStrictlySortedBy
package_of-found identity [] place found ascending within here is = absurd (omega (arith, within))
package_of-found identity (entry ∷ entries) zero found ascending within here is =
    ap Some is ∙ sym (ap (λ (same : Bool). cond same (Some entry) (package_of identity entries)) (is_package-beside identity entry Equal (here entry)))
package_of-found identity (entry ∷ entries) (suc place) found ascending within here is =
    let below : place < length entries = omega (arith, within) in
    let before = before_the_found identity entry (get_or entries place found)
    (below_at (λ (p : ShelfPackage). p.identity) entry.identity entries ascending.0 place found below) (here found) in
    package_of-found identity entries place found ascending.1 below here is
    ∙ sym (ap (λ (same : Bool). cond same (Some entry) (package_of identity entries)) (is_package-beside identity entry Less before))

-- where no package has the identity there is no first
none_found : (identity : List ℕ) (entries : List ShelfPackage) → All (λ entry. is_package identity entry ≡ false) entries → package_of identity entries ≡ None
none_found identity [] none = refl
none_found identity (entry ∷ entries) none =
    ap (λ (same : Bool). cond same (Some entry) (package_of identity entries)) (All-head (λ e. is_package identity e ≡ false) entry entries none)
    ∙ none_found identity entries (All-tail (λ e. is_package identity e ≡ false) entry entries none)

-- where a search finds none there is none
pub package_of-missed : (identity : List ℕ) (entries : List ShelfPackage) (place : ℕ) → AreAscending entries
    → (IsNonDecreasingBy (λ entry. ordering_index (beside identity entry)) entries → IsPartitionPoint (λ entry. beside identity entry ≡ Less) (λ entry. beside identity entry ≡ Greater) entries place)
    → None ≡ package_of identity entries
package_of-missed identity entries place ascending says =
    let parts = says (searchable_from_sorted nat_list_cmp_total (λ (p : ShelfPackage). p.identity) entries identity (λ k d low below. sorted_at entries ascending k d below)) in
    sym (none_found identity entries (λ k d within. elim (cases_lt k place) [
      | inl below ↦ is_package-beside identity (get_or entries k d) Less (parts.0 k d (omega arith) below)
      | inr above ↦ is_package-beside identity (get_or entries k d) Greater (parts.1 k d above within)
    ]))
