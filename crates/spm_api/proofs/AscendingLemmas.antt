-- A list that ascends strictly is the one in which the releases of any list in another order ascend.
use Rattle.std.proofs.Common.{◌≡◌, zero, suc, true, false, List, [], ◌∷◌, refl, sym, ap, ◌∙◌, subst, arith, inl, inr}
use Rattle.std.specs.Prelude.{◌⊎◌, All}
use Rattle.std.proofs.lemmas.Bool.{cases_Bool}
use Rattle.std.proofs.lemmas.List.Elements.{All-cons, All-contains, All-from_recursion, All-weaker, recursion_from_All}
use Rattle.std.proofs.lemmas.List.Sorted.{All-permutation, Contains-permutation, IsPermutation-cons, IsPermutation-refl, IsPermutation-sym, IsPermutation-trans}
use Rattle.std.proofs.lemmas.Map.Keys.{IsDistinct-IsPermutation, IsDistinct-from_sorted, IsDistinct-head, IsDistinct-tail, sorted_tail}
use Rattle.std.proofs.lemmas.Map.Views.{All-after_first}
use Rattle.std.specs.Cmp.{tied_itself}
use Rattle.std.specs.List.{AllByRecursion, Contains, IsDistinct}
use Rattle.std.specs.List.Sorted.{IsPermutation, IsStrictlySortedBy}
use Rattle.std.specs.Ordering.{eq_by_cmp, is_eq, is_le, ordering_reverse}
use Rattle.std.specs.declared.cmp.Ordering.{Ordering}
use Rattle.std.specs.declared.cmp.Ordering.TheVariants.{Less, Equal, Greater}
use Rattle.spm_version.specs.Release.{Parts}
use Rattle.spm_version.specs.ReleaseLaws.{release_cmp, release_total}
use Rattle.spm_api.specs.Said.{ascending, put_release}

-- a release that is below all that follow it
abbrev IsAbove : Parts → Parts → Type 0
IsAbove release other = release_cmp release other ≡ Less

-- a release that its order tells from another
abbrev IsApart : Parts → Parts → Type 0
IsApart release other = eq_by_cmp release_cmp release other ≡ false

-- ---- the same releases

-- a release that is put among others is one of them
put_moves : (release : Parts) (releases : List Parts) → IsPermutation (release ∷ releases) (put_release release releases)
put_moves release [] = IsPermutation-refl (release ∷ [])
put_moves release (other ∷ others) = elim (cases_Bool (is_le (release_cmp release other))) [
  | inl is ↦ rw is (IsPermutation-refl (release ∷ other ∷ others))
  | inr not ↦ rw not (IsPermutation-trans _ _ _ (first_two release other others) (IsPermutation-cons other _ _ (put_moves release others)))
]
  where
    first_two : (a b : Parts) (rest : List Parts) → IsPermutation (a ∷ b ∷ rest) (b ∷ a ∷ rest)
    first_two a b rest = record { moves = (0, 1) ∷ []; below = (omega arith, omega arith, tt); is = refl }

-- releases that are put in order are the same
ascending_moves : (releases : List Parts) → IsPermutation releases (ascending releases)
ascending_moves [] = IsPermutation-refl []
ascending_moves (release ∷ releases) =
    IsPermutation-trans _ _ _ (IsPermutation-cons release _ _ (ascending_moves releases)) (put_moves release (ascending releases))

-- ---- in order

-- in front of one above it and those that follow that
in_front : (release other : Parts) (others : List Parts) → release_cmp release other ≡ Less → IsStrictlySortedBy release_cmp (other ∷ others)
    → IsStrictlySortedBy release_cmp (release ∷ other ∷ others)
unfolding IsStrictlySortedBy
in_front release other others below sorted = (
  (
    below,
    recursion_from_All (IsAbove release) others
        (All-weaker (IsAbove other) (IsAbove release) (λ next above. release_total.trans release other next below above) others
        (All-after_first release_cmp other others sorted)),
  ),
  sorted,
)

-- behind one below it
behind_first : (first : Parts) (others : List Parts) → All (IsAbove first) others → IsStrictlySortedBy release_cmp others
    → IsStrictlySortedBy release_cmp (first ∷ others)
unfolding IsStrictlySortedBy
behind_first first others all sorted = (recursion_from_All (IsAbove first) others all, sorted)

-- what isn't above and isn't the same is below
is_less : (order : Ordering) → is_le order ≡ true → is_eq order ≡ false → order ≡ Less
is_less Less le ne = refl
is_less Equal le ne = absurd (cc ne)
is_less Greater le ne = absurd (cc le)

-- what is above is so
is_greater : (order : Ordering) → is_le order ≡ false → order ≡ Greater
is_greater Less le = absurd (cc le)
is_greater Equal le = absurd (cc le)
is_greater Greater le = refl

-- a release that is put among others that ascend, none of which it ties with, stands in order
put_sorted : (release : Parts) (releases : List Parts) → IsStrictlySortedBy release_cmp releases → AllByRecursion (IsApart release) releases
    → IsStrictlySortedBy release_cmp (put_release release releases)
unfolding IsStrictlySortedBy
put_sorted release [] sorted apart = (tt, tt)
put_sorted release (other ∷ others) sorted apart = elim (cases_Bool (is_le (release_cmp release other))) [
  | inl is ↦ rw is (in_front release other others (is_less _ is apart.0) sorted)
  | inr not ↦ rw not (behind_first other (put_release release others)
      (All-permutation (IsAbove other) (release ∷ others) _ (put_moves release others) (All-cons (IsAbove other) release others
      (release_total.antisymm other release ∙ ap ordering_reverse (is_greater _ not)) (All-after_first release_cmp other others sorted)))
      (put_sorted release others (sorted_tail release_cmp other others sorted) apart.1))
]

-- releases of which no two tie ascend when they are put in order
pub ascending_sorted : (releases : List Parts) → IsDistinct (eq_by_cmp release_cmp) releases → IsStrictlySortedBy release_cmp (ascending releases)
unfolding IsStrictlySortedBy
ascending_sorted [] apart = tt
ascending_sorted (release ∷ releases) apart =
    put_sorted release (ascending releases) (ascending_sorted releases (IsDistinct-tail _ release releases apart))
    (recursion_from_All (IsApart release) _ (All-permutation (IsApart release) releases _ (ascending_moves releases)
    (All-from_recursion (IsApart release) releases (IsDistinct-head _ release releases apart))))

-- ---- the order of releases is one

-- what is among a list is its first or one of the others
first_or_other : (first : Parts) (others : List Parts) (release : Parts) → Contains (first ∷ others) release → (release ≡ first) ⊎ Contains others release
first_or_other first others release (zero, within, there) = inl (sym there)
first_or_other first others release (suc place, within, there) = inr (place, omega (arith, within), there)

-- none is among nothing
none_there : (release : Parts) → Contains [] release → ⊥
none_there release there = omega (arith, there.1)

-- a release that stands in front is among all
first_there : (first : Parts) (others : List Parts) → Contains (first ∷ others) first
first_there first others = (0, omega arith, refl)

-- and so is one behind it
later_there : (first : Parts) (others : List Parts) (release : Parts) → Contains others release → Contains (first ∷ others) release
later_there first others release there = (suc there.0, omega (arith, there.1), there.2)

-- the first of a list that ascends is below the others
above_first : (first : Parts) (others : List Parts) (release : Parts) → IsStrictlySortedBy release_cmp (first ∷ others) → Contains others release
    → release_cmp first release ≡ Less
above_first first others release sorted there =
    All-contains (IsAbove first) others release (All-after_first release_cmp first others sorted) there

-- no release is below itself
not_below : (release : Parts) → release_cmp release release ≡ Less → ⊥
not_below release below = cc (below, tied_itself release_total release)

-- nor are two below one another
not_both : (first second : Parts) → release_cmp first second ≡ Less → release_cmp second first ≡ Less → ⊥
not_both first second below above = not_below first (release_total.trans first second first below above)

-- the first releases of two such lists of the same releases are one
one_first : (first other : Parts) (others rest : List Parts) → IsStrictlySortedBy release_cmp (first ∷ others) → IsStrictlySortedBy release_cmp (other ∷ rest)
    → Contains (other ∷ rest) first → Contains (first ∷ others) other → first ≡ other
one_first first other others rest sorted ascends there here = elim (first_or_other other rest first there) [
  | inl same ↦ same
  | inr later ↦ elim (first_or_other first others other here) [
    | inl same ↦ sym same
    | inr behind ↦ absurd (not_both first other (above_first first others other sorted behind) (above_first other rest first ascends later))
  ]
]

-- what is among the others of the one is among the others of the other
still_there : (first : Parts) (others rest : List Parts) (release : Parts) → IsStrictlySortedBy release_cmp (first ∷ others)
    → Contains others release → Contains (first ∷ rest) release → Contains rest release
still_there first others rest release sorted here there = elim (first_or_other first rest release there) [
  | inl same ↦ absurd (not_below first (subst (λ (other : Parts). release_cmp first other ≡ Less) same (above_first first others release sorted here)))
  | inr later ↦ later
]

-- two lists that ascend and have the same releases are one
one_order : (first second : List Parts) → IsStrictlySortedBy release_cmp first → IsStrictlySortedBy release_cmp second
    → ((release : Parts) → Contains first release → Contains second release) → ((release : Parts) → Contains second release → Contains first release)
    → first ≡ second
one_order [] [] sorted ascends there here = refl
one_order [] (other ∷ rest) sorted ascends there here = absurd (none_there other (here other (first_there other rest)))
one_order (first ∷ others) [] sorted ascends there here = absurd (none_there first (there first (first_there first others)))
one_order (first ∷ others) (other ∷ rest) sorted ascends there here =
    let same : first ≡ other = one_first first other others rest sorted ascends (there first (first_there first others)) (here other (first_there other rest)) in
    let rests : others ≡ rest = one_order others rest (sorted_tail release_cmp first others sorted) (sorted_tail release_cmp other rest ascends)
    (λ release is. still_there first others rest release sorted is
    (subst (λ (head : Parts). Contains (head ∷ rest) release) (sym same) (there release (later_there first others release is))))
    (λ release is. still_there other rest others release ascends is
    (subst (λ (head : Parts). Contains (head ∷ others) release) same (here release (later_there other rest release is)))) in
    λ i. same i ∷ rests i

-- ---- the whole

-- a list that ascends strictly is what any list of the same releases is in ascending order
pub ascending_is : (usable releases : List Parts) → IsStrictlySortedBy release_cmp releases → IsPermutation usable releases → ascending usable ≡ releases
ascending_is usable releases sorted moved =
    let apart : IsDistinct (eq_by_cmp release_cmp) usable =
    IsDistinct-IsPermutation _ eq_flips releases usable (IsPermutation-sym _ _ moved) (IsDistinct-from_sorted release_cmp releases sorted) in
    let same : IsPermutation (ascending usable) releases = IsPermutation-trans _ _ _ (IsPermutation-sym _ _ (ascending_moves usable)) moved in
    one_order (ascending usable) releases (ascending_sorted usable apart) sorted
    (λ release. Contains-permutation (ascending usable) releases release same)
    (λ release. Contains-permutation releases (ascending usable) release (IsPermutation-sym _ _ same))
  where
    reversed : (order : Ordering) → is_eq (ordering_reverse order) ≡ is_eq order
    reversed Less = refl
    reversed Equal = refl
    reversed Greater = refl

    eq_flips : (first second : Parts) → eq_by_cmp release_cmp first second ≡ eq_by_cmp release_cmp second first
    eq_flips first second = ap is_eq (release_total.antisymm first second) ∙ reversed (release_cmp second first)
