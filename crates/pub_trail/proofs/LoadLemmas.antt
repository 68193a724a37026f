-- Loads that are all different are bounded by the places that there are.
use Rattle.std.proofs.Common.{◌≡◌, ℕ, ◌*◌, ◌<◌, ◌≤◌, ◌==◌, true, false, cond, List, [], ◌∷◌, ◌++◌, length, refl, sym, ◌∙◌, inl, inr, arith, length-append, eq-eqb, eqb-true}
use Rattle.std.specs.List.{list_any}
use Rattle.std.proofs.lemmas.Bool.{and_from, cond-false, cond-true, false≢true, false_from_ne_true, or_cases, or_left, or_right}
use Rattle.std.proofs.lemmas.List.Folds.{list_any-append}
use Rattle.std.proofs.lemmas.Nat.{mul-add-lt, same_from_place}
use Rattle.pub_trail.specs.Measure.{AreLoads, AreWithin, has_number, number_of, place_count}
use Rattle.pub_trail.specs.Invariant.{IsWithin, Limits}
use Rattle.pub_trail.specs.Turn.{same_place}
use Rattle.pub_trail.specs.declared.trail.Place.{Place}
use Rattle.pub_trail.proofs.SumLemmas.{one_le, sum_less, sum_ones}

-- a place within the limits has a number below their product
number_below : (limits : Limits) (place : Place) → IsWithin limits place → number_of limits place < limits.nodes * limits.choices
number_below limits place within = omega (arith, mul-add-lt place.node limits.choices place.choice limits.nodes within.0 within.1)

-- a place that is there has its number there
has_number_here : (limits : Limits) (places : List Place) (place : Place) → has_number limits (places ++ place ∷ []) (number_of limits place) ≡ true
has_number_here limits places place =
    list_any-append (λ other. number_of limits other == number_of limits place) places (place ∷ [])
    ∙ or_right (has_number limits places (number_of limits place)) _ (or_left (number_of limits place == number_of limits place) false (eq-eqb _ (number_of limits place) refl))

-- and the others keep theirs
has_number_before : (limits : Limits) (places : List Place) (place : Place) (number : ℕ) → has_number limits places number ≡ true
    → has_number limits (places ++ place ∷ []) number ≡ true
has_number_before limits places place number here =
    list_any-append (λ other. number_of limits other == number) places (place ∷ [])
    ∙ or_left (has_number limits places number) _ here

-- a new place has a new number
new_number : (limits : Limits) (places : List Place) (place : Place) → AreWithin limits places → IsWithin limits place
    → list_any (same_place place) places ≡ false → has_number limits places (number_of limits place) ≡ false
new_number limits places place all within new =
    false_from_ne_true (has_number limits places (number_of limits place)) (λ here. false≢true (sym new ∙ found places all here))
  where
    found : (others : List Place) → AreWithin limits others → has_number limits others (number_of limits place) ≡ true
        → list_any (same_place place) others ≡ true
    found [] all here = absurd (false≢true here)
    found (other ∷ others) all here =
        elim (or_cases (number_of limits other == number_of limits place) (has_number limits others (number_of limits place)) here) [
          | inl same ↦
              (let parts = same_from_place other.node other.choice place.node place.choice limits.choices all.0.1 within.1 (eqb-true _ _ same) in
              or_left (same_place place other) (list_any (same_place place) others)
              (and_from (place.node == other.node) (place.choice == other.choice)
              (eq-eqb place.node other.node (sym parts.0)) (eq-eqb place.choice other.choice (sym parts.1))))
          | inr behind ↦ or_right (same_place place other) (list_any (same_place place) others) (found others all.1 behind)
        ]

-- one more place within the limits
AreWithin-push : (limits : Limits) (places : List Place) (place : Place) → AreWithin limits places → IsWithin limits place
    → AreWithin limits (places ++ place ∷ [])
AreWithin-push limits [] place all within = (within, tt)
AreWithin-push limits (other ∷ places) place all within = (all.0, AreWithin-push limits places place all.1 within)

-- one more load that is new
pub AreLoads-push : (limits : Limits) (places : List Place) (place : Place) → AreLoads limits places → IsWithin limits place
    → list_any (same_place place) places ≡ false → AreLoads limits (places ++ place ∷ [])
AreLoads-push limits places place are within new = record {
  within = AreWithin-push limits places place are.within within;
  apart =
      let less : place_count limits places < place_count limits (places ++ place ∷ [])
      = sum_less (λ number. cond (has_number limits places number) 1 0) (λ number. cond (has_number limits (places ++ place ∷ []) number) 1 0)
      (limits.nodes * limits.choices) (number_of limits place)
      (λ number below.
      one_le (has_number limits places number) (has_number limits (places ++ place ∷ []) number) (has_number_before limits places place number))
      (number_below limits place within)
      (omega (
        arith,
        cond-false {A = ℕ} (has_number limits places (number_of limits place)) 1 0 (new_number limits places place are.within within new),
        cond-true {A = ℕ} (has_number limits (places ++ place ∷ []) (number_of limits place)) 1 0 (has_number_here limits places place),
      )) in
      omega (arith, are.apart, less, length-append places (place ∷ []));
}

-- different loads within the limits are at most as many as there are places
pub loads_bound : (limits : Limits) (places : List Place) → AreLoads limits places → length places ≤ limits.nodes * limits.choices
loads_bound limits places are =
    omega (
      arith,
      are.apart,
      sum_ones (λ number. cond (has_number limits places number) 1 0) (limits.nodes * limits.choices)
          (λ number below. one_le (has_number limits places number) true (λ _. refl)),
    )
