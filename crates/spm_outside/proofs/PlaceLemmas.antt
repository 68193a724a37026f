-- A search in places that ascend by their keys, and else by themselves.
use Rattle.std.proofs.Common.{◌≡◌, ℕ, ◌<◌, ◌≤◌, List, length, get_or, Bool, true, false, refl, sym, ap, ◌∙◌, subst, ⊎_elim, arith}
use Rattle.std.proofs.lemmas.Bool.{cases_lt, true≢false}
use Rattle.std.proofs.lemmas.List.Sorted.{ranks_by, sorted_far}
use Rattle.std.specs.Cmp.{IsTotalOrder, alike_right, nat_cmp_total, on_total, then_total}
use Rattle.std.specs.List.Sorted.{IsPartitionPoint, IsPartitionedBy, IsSorted}
use Rattle.std.specs.Ordering.{is_eq, is_lt, nat_cmp, ordering_reverse, ordering_then}
use Rattle.std.specs.declared.cmp.Ordering.{Ordering}
use Rattle.std.specs.declared.cmp.Ordering.TheVariants.{Equal, Greater, Less}

-- an answer that is equal
pub equal_from : (r : Ordering) → is_eq r ≡ true → r ≡ Equal
equal_from Less h = absurd (true≢false (sym h))
equal_from Equal h = refl
equal_from Greater h = absurd (true≢false (sym h))

-- an answer that is less
less_from : (r : Ordering) → is_lt r ≡ true → r ≡ Less
less_from Less h = refl
less_from Equal h = absurd (true≢false (sym h))
less_from Greater h = absurd (true≢false (sym h))

-- what isn't below is at least as great
not_below : (first second : ℕ) → is_lt (nat_cmp first second) ≡ false → second ≤ first
not_below first second above = grind arith

module _ {K : Type 0} {R : K → K → Ordering} (order : IsTotalOrder R) (key : ℕ → K) (wanted : K) where
  abbrev by_key : ℕ → ℕ → Ordering
  by_key first second = ordering_then (R (key first) (key second)) (nat_cmp first second)

  abbrev below : ℕ → Bool
  below place = is_lt (R (key place) wanted)

  -- what isn't below the wanted key, and not behind a place that has it, has it too
  has_too : (first second : ℕ) (r : Ordering) → R (key first) wanted ≡ Equal → R (key second) wanted ≡ r → is_lt r ≡ false
      → is_lt (by_key first second) ≡ false → (r ≡ Equal) × (second ≤ first)
  has_too first second Less has is above later = absurd (true≢false above)
  has_too first second Equal has is above later =
      let same : R (key first) (key second) ≡ Equal =
      order.congr (key first) wanted (key second) has ∙ order.antisymm wanted (key second) ∙ ap ordering_reverse is in
      (refl, not_below first second (subst (λ r. is_lt (ordering_then r (nat_cmp first second)) ≡ false) same later))
  has_too first second Greater has is above later =
      let less : R (key first) (key second) ≡ Less =
      order.congr (key first) wanted (key second) has ∙ order.antisymm wanted (key second) ∙ ap ordering_reverse is in
      absurd (true≢false (subst (λ r. is_lt (ordering_then r (nat_cmp first second)) ≡ false) less later))

  -- what isn't behind a place that is below the wanted key is below it too
  below_too : (first second : ℕ) (r : Ordering) → R (key first) wanted ≡ Less → R (key second) wanted ≡ r → is_lt (by_key first second) ≡ false
      → is_lt r ≡ true
  below_too first second Less less is later = refl
  below_too first second Equal less is later =
      let before : R (key first) (key second) ≡ Less = alike_right order (key second) wanted (key first) is ∙ less in
      absurd (true≢false (subst (λ r. is_lt (ordering_then r (nat_cmp first second)) ≡ false) before later))
  below_too first second Greater less is later =
      let behind : R wanted (key second) ≡ Less = order.antisymm wanted (key second) ∙ ap ordering_reverse is in
      let before : R (key first) (key second) ≡ Less = order.trans (key first) wanted (key second) less behind in
      absurd (true≢false (subst (λ r. is_lt (ordering_then r (nat_cmp first second)) ≡ false) before later))

  module _ (places : List ℕ) (sorted : IsSorted by_key places) where
    far : (i j : ℕ) (d : ℕ) → i ≤ j → j < length places → is_lt (by_key (get_or places j d) (get_or places i d)) ≡ false
    far = sorted_far _ (ranks_by (then_total (on_total key order) nat_cmp_total) (λ place. place)) places sorted

    pub IsPartitionedBy-below : IsPartitionedBy below places
    IsPartitionedBy-below i j d h within less =
        below_too (get_or places j d) (get_or places i d) _ (less_from _ less) refl (far i j d h within)

    -- each place that has the wanted key stands at the partition point or behind it, where the first of them is
    pub first_has : (at : ℕ) → IsPartitionPoint (λ place. below place ≡ true) (λ place. below place ≡ false) places at
        → (i d : ℕ) → i < length places → R (key (get_or places i d)) wanted ≡ Equal
        → (at ≤ i) × (R (key (get_or places at d)) wanted ≡ Equal) × (get_or places at d ≤ get_or places i d)
    first_has at parts i d within has =
        ⊎_elim
        (λ before. absurd (true≢false (sym (parts.0 i d (omega arith) before) ∙ ap is_lt has)))
        (λ (h : at ≤ i).
        let first = has_too (get_or places i d) (get_or places at d) _ has refl (parts.1 at d (omega arith) (omega arith)) (far at i d h within) in
        (h, first.0, first.1))
        (cases_lt i at)
