-- A number that falls at each turn that loads nothing. Each level has a digit: twice the choices that are left at it, and one more, but for a
-- present level at which some incompatibility holds or is almost satisfied. The digits stand in a base above all of them, and the
-- levels that aren't there have the greatest.
use Rattle.std.specs.Prelude.{◌≡◌, ℕ, true, zero, suc, ◌+◌, ◌-◌, ◌*◌, ◌^◌, ◌||◌, List, [], ◌∷◌, length, slice_index, Bool, cond, is_some, ◌≤◌, ◌==◌}
use Rattle.std.specs.List.{list_any}
use Rattle.pub_trail.specs.Invariant.{AreRules, IsState, IsWithin, Limits}
use Rattle.pub_term.specs.declared.term.Term.{Term}
use Rattle.pub_trail.specs.Trail.{accum, by_reason, holds, level_of}
use Rattle.pub_trail.specs.Turn.{Rules, State, Turn, Went, Needs, TooWide, Selected, Refuted, newest_forced, newest_from, run_on, turn_of}
use Rattle.pub_trail.specs.declared.trail.Place.{Place}
use Rattle.pub_trail.specs.declared.trail.Assigned.{Assigned}

-- the sum over the numbers below one
abbrev pub sum_below : (ℕ → ℕ) → ℕ → ℕ
sum_below f zero = 0
sum_below f (suc n) = sum_below f n + f n

-- how many choices are left for all nodes
abbrev pub choices_left : List ℕ → List Assigned → ℕ
choices_left sizes trail = sum_below (λ node. length (accum sizes trail node).members) (length sizes)

-- the digits of the levels below the present one
abbrev pub digits_below : ℕ → List ℕ → List Assigned → ℕ
digits_below base sizes [] = 0
digits_below base sizes (entry ∷ before) =
    by_reason entry.reason (digits_below base sizes before * base + (2 * choices_left sizes before + 1)) (λ number. digits_below base sizes before)

-- all digits, where the present one is this
abbrev pub all_digits : ℕ → ℕ → List ℕ → List Assigned → ℕ → ℕ
all_digits base levels sizes trail digit = (digits_below base sizes trail * base + (digit + 1)) * base ^ (levels - level_of trail)

-- ---- of a state

-- all choices of all nodes
abbrev pub all_choices : List ℕ → ℕ
all_choices sizes = sum_below (λ node. slice_index sizes node) (length sizes)

-- some incompatibility holds or is almost satisfied
abbrev pub is_busy : State → Bool
is_busy state =
    is_some (newest_from (holds state.sizes state.trail) 0 state.incompats)
    || is_some (newest_forced state.sizes state.trail 0 state.incompats)

-- the digit of the present level
abbrev pub present_digit : State → ℕ
present_digit state = 2 * choices_left state.sizes state.trail + cond (is_busy state) 0 1

-- the number that falls
abbrev pub measure_of : State → ℕ
measure_of state = all_digits (2 * all_choices state.sizes + 3) (length state.sizes) state.sizes state.trail (present_digit state)

-- ---- loads

-- each place is within the limits
abbrev pub AreWithin : Limits → List Place → Type 0
AreWithin limits [] = Unit {0}
AreWithin limits (place ∷ places) = IsWithin limits place × AreWithin limits places

-- the number of a place
abbrev pub number_of : Limits → Place → ℕ
number_of limits place = place.node * limits.choices + place.choice

-- one of the places has this number
abbrev pub has_number : Limits → List Place → ℕ → Bool
has_number limits places number = list_any (λ place. number_of limits place == number) places

-- how many numbers the places have
abbrev pub place_count : Limits → List Place → ℕ
place_count limits places = sum_below (λ number. cond (has_number limits places number) 1 0) (limits.nodes * limits.choices)

-- loads that are different and within the limits
pub record AreLoads (limits : Limits) (places : List Place) : Type 0 where
  pub within : AreWithin limits places
  pub apart : length places ≤ place_count limits places

-- ---- the end

-- the turn is the last
abbrev pub IsLast : Turn → Type 0
IsLast (Went state) = ⊥
IsLast (Needs key) = Unit {0}
IsLast (TooWide wide) = Unit {0}
IsLast Selected = Unit {0}
IsLast (Refuted terms first steps) = Unit {0}

-- there is a number of turns after which the solver has ended, or asks for a key
pub record Ends (rules : Rules) (state : State) : Type 0 where
  pub turns : ℕ
  pub last : IsLast (run_on rules turns (Went state))

-- the rules are right at each state that a run comes to
pub record AreRunRules (limits : Limits) (rules : Rules) (real : State → Bool) : Type 0 where
  pub each : (facts : List (List Term)) (state : State) → real state ≡ true → IsState facts state → AreRules limits rules facts state
  pub kept : (state next : State) → real state ≡ true → turn_of rules state ≡ Went next → real next ≡ true
