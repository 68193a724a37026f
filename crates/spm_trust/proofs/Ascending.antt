-- Texts that ascend. Packages that are distinct ascend by their identities once they are sorted.
use Rattle.std.proofs.Common.{◌≡◌, map, ℕ, zero, suc, ◌+◌, ◌<◌, Bool, true, false, List, [], ◌∷◌, length, get_or, Ordering, cond, refl, sym, ap, ◌∙◌, inl, inr, arith, add-one}
use Rattle.std.specs.Cmp.Lexicographic.{nat_list_cmp_total, nat_list_eq_equiv, slice_cmp, texts_ties}
use Rattle.std.specs.List.{AllByRecursion}
use Rattle.std.specs.List.Sorted.{IsPermutation, IsSortedBy, IsStrictlySortedBy}
use Rattle.std.specs.Ordering.{is_eq, is_lt, nat_cmp, ordering_reverse}
use Rattle.std.specs.declared.cmp.Ordering.TheVariants.{Equal, Greater, Less}
use Rattle.std.proofs.lemmas.Bool.{cases_Bool, false≢true}
use Rattle.std.proofs.lemmas.List.Sorted.{sum_by-IsPermutation}
use Rattle.std.proofs.lemmas.List.Sums.{sum_by-cons}
use Rattle.spm_trust.specs.File.{is_package}
use Rattle.spm_trust.specs.Trust.{AreAscending, Ascend}
use Rattle.spm_trust.specs.declared.file.KeptPackage.{KeptPackage}
use Rattle.spm_trust.proofs.Distinct.{AreDistinct, is_counted}

-- texts by their bytes
abbrev pub order : List ℕ → List ℕ → Ordering
order = slice_cmp nat_cmp

-- ---- texts that ascend

-- the order the other way round
pub reversed : (x y : List ℕ) (o : Ordering) → order x y ≡ o → order y x ≡ ordering_reverse o
reversed x y o is = nat_list_cmp_total.antisymm y x ∙ ap ordering_reverse is

-- what is less is `Less`
less : (o : Ordering) → is_lt o ≡ true → o ≡ Less
less Less is = refl
less Equal is = absurd (false≢true is)
less Greater is = absurd (false≢true is)

-- a text is below those that a greater text is below
pub below_more : (x y : List ℕ) (zs : List (List ℕ)) → order x y ≡ Less → AllByRecursion (λ z. order y z ≡ Less) zs → AllByRecursion (λ z. order x z ≡ Less) zs
below_more x y [] first below = tt
below_more x y (z ∷ zs) first below = (nat_list_cmp_total.trans x y z first below.0, below_more x y zs first below.1)

-- a text before ascending ones, which is below the first of them
pub ascend_front : (x y : List ℕ) (ys : List (List ℕ)) → order x y ≡ Less → Ascend (y ∷ ys) → Ascend (x ∷ y ∷ ys)
unfolding IsStrictlySortedBy
ascend_front x y ys first rest = ((first, below_more x y ys first rest.0), rest)

-- a text that is below all is below the one at a place
pub below_at : {X : Type 0} (text : X → List ℕ) (x : List ℕ) (xs : List X) → AllByRecursion (λ y. order x y ≡ Less) (map text xs) → (place : ℕ) (d : X) → place < length xs
    → order x (text (get_or xs place d)) ≡ Less
below_at text x [] below place d within = absurd (omega (arith, within))
below_at text x (y ∷ xs) below zero d within = below.0
below_at text x (y ∷ xs) below (suc place) d within = below_at text x xs below.1 place d (omega (arith, within))

-- of texts that ascend each is below the next
pub below_next : {X : Type 0} (text : X → List ℕ) (xs : List X) → Ascend (map text xs) → (k : ℕ) (d : X) → k + 1 < length xs → order (text (get_or xs k d)) (text (get_or xs (k + 1) d)) ≡ Less
unfolding IsStrictlySortedBy
below_next text [] ascend k d below = absurd (omega (arith, below))
below_next text (x ∷ xs) ascend zero d below = below_at text (text x) xs ascend.0 0 d (omega (arith, below))
below_next text (x ∷ xs) ascend (suc k) d below =
    let within : k + 1 < length xs = omega (arith, below) in
    let rest = below_next text xs ascend.1 k d within in
    rw (add-one (suc k)) (rw (add-one k) at rest)

-- ---- sorted and distinct is ascending

-- the first of these packages stands before the second
abbrev pub is_before : KeptPackage → KeptPackage → Bool
is_before first second = is_lt (order first.identity second.identity)

-- where one order isn't less, and it isn't equal, the reverse order is less
less_when : (o p : Ordering) → p ≡ ordering_reverse o → is_lt p ≡ false → is_eq o ≡ false → is_lt o ≡ true
less_when Less p reversed not_less other = refl
less_when Equal p reversed not_less other = absurd (false≢true (sym other))
less_when Greater p reversed not_less other = absurd (false≢true (sym not_less ∙ ap is_lt reversed))

-- a package stands before another that doesn't stand before it
is_before-from : (first second : KeptPackage) → is_before second first ≡ false → is_package second.identity first ≡ false → is_before first second ≡ true
is_before-from first second not_less other =
    less_when (order first.identity second.identity) (order second.identity first.identity) (nat_list_cmp_total.antisymm second.identity first.identity)
    not_less (sym (texts_ties first.identity second.identity) ∙ other)

-- the packages behind the first are distinct too
distinct_tail : (entry : KeptPackage) (entries : List KeptPackage) → AreDistinct (entry ∷ entries) → AreDistinct entries
distinct_tail entry entries distinct = λ identity.
    let all = distinct identity in
    omega (arith, all, sum_by-cons (is_counted identity) entry entries)

-- the first two of distinct packages have two identities
apart : (entry next : KeptPackage) (entries : List KeptPackage) → AreDistinct (entry ∷ next ∷ entries) → is_package next.identity entry ≡ false
apart entry next entries distinct =
    elim (cases_Bool (is_package next.identity entry)) [
      | inl same ↦
          (let all = distinct next.identity in
          let one : is_counted next.identity entry ≡ 1 = ap (λ (is : Bool). cond is 1 0) same in
          let two : is_counted next.identity next ≡ 1 = ap (λ (is : Bool). cond is 1 0) (nat_list_eq_equiv.refl next.identity) in
          absurd (omega (arith, all, one, two, sum_by-cons (is_counted next.identity) entry (next ∷ entries), sum_by-cons (is_counted next.identity) next entries)))
      | inr other ↦ other
    ]

-- the packages behind the first are sorted too
sorted_tail : (entry : KeptPackage) (entries : List KeptPackage) → IsSortedBy is_before (entry ∷ entries) → IsSortedBy is_before entries
sorted_tail entry entries sorted = λ k d low below.
    let within : suc k + 1 < length (entry ∷ entries) = omega (arith, below) in
    let here : is_before (get_or (entry ∷ entries) (suc k + 1) d) (get_or entries k d) ≡ false = sorted (suc k) d (omega arith) within in
    rw (add-one k) (rw (add-one (suc k)) at here)

-- distinct packages that a sort has put in order ascend
pub AreAscending-from_sorted : (entries : List KeptPackage) → IsSortedBy is_before entries → AreDistinct entries → AreAscending entries
unfolding IsStrictlySortedBy
AreAscending-from_sorted [] sorted distinct = tt
AreAscending-from_sorted (entry ∷ []) sorted distinct = (tt, tt)
AreAscending-from_sorted (entry ∷ next ∷ entries) sorted distinct =
    ascend_front entry.identity next.identity (map (λ (p : KeptPackage). p.identity) entries)
    (less (order entry.identity next.identity) (is_before-from entry next (sorted 0 entry (omega arith) (omega arith)) (apart entry next entries distinct)))
    (AreAscending-from_sorted (next ∷ entries) (sorted_tail entry (next ∷ entries) sorted) (distinct_tail entry (next ∷ entries) distinct))

-- an order of distinct packages has them distinct
pub AreDistinct-permutation : (old new : List KeptPackage) → IsPermutation old new → AreDistinct old → AreDistinct new
AreDistinct-permutation old new same distinct = λ identity.
    let before = distinct identity in
    omega (arith, before, sum_by-IsPermutation (is_counted identity) old new same)
