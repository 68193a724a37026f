-- Every run ends: each turn loads, or lowers the measure.
use Rattle.std.proofs.Common.{◌≡◌, ◌⊎◌, ℕ, zero, suc, ◌+◌, ◌*◌, ◌<◌, ◌≤◌, Bool, true, false, ◌||◌, is_some, List, [], ◌∷◌, ◌++◌, length, slice_index, slice_index_or, Option, Some, None, refl, sym, ap, ap₂, subst, inl, inr, arith, length-append}
use Rattle.std.proofs.lemmas.Bool.{cases_Bool, cond-false, cond-true, or_right}
use Rattle.std.proofs.lemmas.List.{get_or_at}
use Rattle.pub_set.specs.Choices.{ChoiceSet, choices_of, opposite}
use Rattle.pub_term.specs.declared.term.Term.{Term}
use Rattle.pub_trail.specs.Invariant.{AreRules, IsAlmost, IsFormed, IsReason, IsSettled, IsSmall, IsState, IsWithin, Limits}
use Rattle.pub_trail.specs.Measure.{Ends, IsLast, all_choices, all_digits, choices_left, is_busy, measure_of, present_digit}
use Rattle.pub_trail.specs.Trail.{holds, level_of, up_to}
use Rattle.pub_trail.specs.Turn.{Conflict, Refutes, Learns, Forced, Loading, Lacks, Passes, Brings, Next, Rules, State, Step, Turn, Went, Needs, TooWide, Selected, Refuted, after_conflict, after_forced, after_load, conflict, decided, is_loaded, learned, learned_origin, newest_forced, newest_from, root_place, run_on, turn_of}
use Rattle.pub_trail.specs.declared.origin.Origin.{Origin}
use Rattle.pub_trail.specs.declared.trail.Assigned.{Assigned}
use Rattle.pub_trail.specs.declared.trail.Place.{Place}
use Rattle.pub_trail.specs.declared.trail.Reason.TheVariants.{Decided, Derived}
use Rattle.pub_trail.proofs.ConflictLemmas.{IsUnchanged, conflict_outcome, unchanged}
use Rattle.pub_trail.specs.Measure.{AreLoads, AreRunRules}
use Rattle.pub_trail.specs.Outcome.{IsAfter, IsOutcome}
use Rattle.pub_trail.proofs.LoadLemmas.{AreLoads-push, loads_bound}
use Rattle.pub_trail.proofs.MeasureLemmas.{back_falls, decided_falls, derived_falls}
use Rattle.pub_trail.proofs.NewestLemmas.{almost_from, forced_none, newest_is}
use Rattle.pub_trail.proofs.SumLemmas.{derived_left, left_bound, levels_bound}
use Rattle.pub_trail.proofs.TurnLemmas.{conflict_asked, decided_keeps, forced_almost, turn_cases, turn_keeps}

-- what a turn that goes on has done: loaded a place, or lowered the measure and no more
abbrev pub Lowers : State → State → Type 0
Lowers state next = (next.sizes ≡ state.sizes) × (next.loads ≡ state.loads) × (measure_of next < measure_of state)

-- the turn loaded a place that wasn't loaded
pub record IsLoad (limits : Limits) (state next : State) : Type 0 where
  pub place : Place
  pub loads : next.loads ≡ state.loads ++ place ∷ []
  pub new : is_loaded state place ≡ false
  pub within : IsWithin limits place
  pub small : IsSmall limits next.sizes

-- a turn that goes on has done one of the two
abbrev pub Goes : Limits → State → Turn → Type 0
Goes limits state (Went next) = IsLoad limits state next ⊎ Lowers state next
Goes limits state (Needs key) = Unit {0}
Goes limits state (TooWide wide) = Unit {0}
Goes limits state Selected = Unit {0}
Goes limits state (Refuted terms first steps) = Unit {0}

-- the base isn't 0
base_some : (sizes : List ℕ) → 0 < 2 * all_choices sizes + 3
base_some sizes = omega arith

-- a present digit is at most twice the choices left, and one more
pub digit_within : (state : State) → present_digit state ≤ 2 * choices_left state.sizes state.trail + 1
digit_within state =
    elim (cases_Bool (is_busy state)) [
      | inl busy ↦ omega (arith, cond-true {A = ℕ} (is_busy state) 0 1 busy)
      | inr idle ↦ omega (arith, cond-false {A = ℕ} (is_busy state) 0 1 idle)
    ]

-- the digit of a busy state
busy_digit : (state : State) → is_busy state ≡ true → present_digit state ≡ 2 * choices_left state.sizes state.trail
busy_digit state busy = omega (arith, cond-true {A = ℕ} (is_busy state) 0 1 busy)

-- the digit of a state that isn't busy
idle_digit : (state : State) → is_busy state ≡ false → present_digit state ≡ 2 * choices_left state.sizes state.trail + 1
idle_digit state idle = omega (arith, cond-false {A = ℕ} (is_busy state) 0 1 idle)

-- ---- a load

-- a load is new
load_goes : (facts : List (List Term)) (limits : Limits) (rules : Rules) (state : State) (place : Place) → AreRules limits rules facts state → is_loaded state place ≡ false → IsWithin limits place
    → (loaded : Loading) → rules.load state place ≡ loaded → Goes limits state (after_load state place loaded)
load_goes facts limits rules state place are new within (Lacks key) at = tt
load_goes facts limits rules state place are new within (Passes wide) at = tt
load_goes facts limits rules state place are new within (Brings loaded) at =
    inl (record { place = place; loads = refl; new = new; within = within; small = are.small place loaded at })

-- ---- a derivation

-- a derivation lowers the measure
forced_goes : (facts : List (List Term)) (limits : Limits) (state : State) (forced : Forced) → IsState facts state
    → newest_forced state.sizes state.trail 0 state.incompats ≡ Some forced → Goes limits state (after_forced state forced)
forced_goes facts limits state forced is found =
    let almost_at = forced_almost facts state forced is found in
    let entry : Assigned = record {
      node = forced.term.node;
      choices = opposite forced.term.choices;
      level = level_of state.trail;
      reason = Derived forced.number;
    } in
    let next : State = record { names = state.names; sizes = state.sizes; incompats = state.incompats; origins = state.origins; loads = state.loads; trail = entry ∷ state.trail } in
    let base = 2 * all_choices state.sizes + 3 in
    let by : IsReason (Derived forced.number) state.sizes state.incompats state.trail entry
    = (almost_at.0, record { set = forced.term.choices; almost = almost_at.1; choices = refl; level = refl }) in
    let less : choices_left state.sizes (entry ∷ state.trail) < choices_left state.sizes state.trail
    = derived_left state.sizes state.incompats state.trail entry forced.number is.formed by in
    let busy : is_busy state ≡ true
    = or_right (is_some (newest_from (holds state.sizes state.trail) 0 state.incompats)) (is_some (newest_forced state.sizes state.trail 0 state.incompats)) (ap is_some found) in
    let falls = derived_falls base (length state.sizes) state.sizes state.trail entry forced.number (present_digit next) (base_some state.sizes) refl refl
    (omega (arith, less, digit_within next)) in
    inr (
      refl,
      refl,
      subst (λ digit. measure_of next < all_digits base (length state.sizes) state.sizes state.trail digit) (sym (busy_digit state busy)) falls,
    )

-- ---- a decision

-- a settled state isn't busy
idle_state : (state : State) → IsSettled state → is_busy state ≡ false
idle_state state settled = ap₂ (λ a b. is_some a || is_some b) settled.none_holds settled.none_forces

-- a decision lowers the measure
decided_goes : (facts : List (List Term)) (limits : Limits) (rules : Rules) (state : State) (next : Next) → IsState facts state → AreRules limits rules facts state
    → IsSettled state → rules.next state ≡ Some next → IsAfter facts state (decided state next) → Goes limits state (decided state next)
decided_goes facts limits rules state next is are settled at after =
    let entry : Assigned = record {
      node = next.node;
      choices = choices_of (slice_index state.sizes next.node) (next.choice ∷ []);
      level = level_of state.trail + 1;
      reason = Decided;
    } in
    let later : State = record { names = state.names; sizes = state.sizes; incompats = state.incompats; origins = state.origins; loads = state.loads; trail = entry ∷ state.trail } in
    let base = 2 * all_choices state.sizes + 3 in
    let within : level_of state.trail + 1 ≤ length state.sizes = levels_bound state.sizes state.incompats (entry ∷ state.trail) after.1.stands in
    let falls = decided_falls base (length state.sizes) state.sizes state.trail entry (present_digit later) (base_some state.sizes) refl refl within
    (omega (arith, digit_within later, left_bound state.sizes (entry ∷ state.trail))) in
    inr (
      refl,
      refl,
      subst (λ digit. measure_of later < all_digits base (length state.sizes) state.sizes state.trail digit) (sym (idle_digit state (idle_state state settled))) falls,
    )

-- ---- a conflict

-- what is almost satisfied keeps a state busy
busy_at : (state : State) (place node : ℕ) (set : ChoiceSet) → place < length state.incompats
    → IsFormed state.sizes (slice_index_or state.incompats place [])
    → IsAlmost state.sizes state.trail (slice_index_or state.incompats place []) node set → is_busy state ≡ true
busy_at state place node set within formed is =
    or_right (is_some (newest_from (holds state.sizes state.trail) 0 state.incompats)) (is_some (newest_forced state.sizes state.trail 0 state.incompats))
    (some_forced (newest_forced state.sizes state.trail 0 state.incompats) refl)
  where
    some_forced : (forced : Option Forced) → newest_forced state.sizes state.trail 0 state.incompats ≡ forced → is_some forced ≡ true
    some_forced (Some forced) at = refl
    some_forced None at =
        let none = forced_none state.sizes state.trail 0 state.incompats at place within in
        let some = almost_from state.sizes state.trail (slice_index_or state.incompats place []) node set formed is in
        cc

-- the terms that were learned, or that were in conflict, stand in the list
learned_busy : (state : State) (origins : List Origin) (number : ℕ) (terms : List Term) (steps : List Step) (level node : ℕ) (set : ChoiceSet) → number < length state.incompats
    → (steps ≡ [] → slice_index_or state.incompats number [] ≡ terms) → IsFormed state.sizes terms
    → IsAlmost state.sizes (up_to level state.trail) terms node set
    → is_busy (record {
      names = state.names;
      sizes = state.sizes;
      incompats = learned state.incompats terms steps;
      origins = origins;
      loads = state.loads;
      trail = up_to level state.trail;
    }) ≡ true
learned_busy state origins number terms [] level node set within same formed is =
    busy_at (record { names = state.names; sizes = state.sizes; incompats = state.incompats; origins = origins; loads = state.loads; trail = up_to level state.trail }) number node set within
    (subst (IsFormed state.sizes) (sym (same refl)) formed)
    (subst (λ ts. IsAlmost state.sizes (up_to level state.trail) ts node set) (sym (same refl)) is)
learned_busy state origins number terms (step ∷ steps) level node set within same formed is =
    let place = length state.incompats in
    let at : slice_index_or (state.incompats ++ terms ∷ []) place [] ≡ terms = get_or_at state.incompats terms [] [] place refl in
    busy_at (record { names = state.names; sizes = state.sizes; incompats = state.incompats ++ terms ∷ []; origins = origins; loads = state.loads; trail = up_to level state.trail }) place node set
    (omega (arith, length-append state.incompats (terms ∷ [])))
    (subst (IsFormed state.sizes) (sym at) formed)
    (subst (λ ts. IsAlmost state.sizes (up_to level state.trail) ts node set) (sym at) is)

-- a conflict lowers the measure
outcome_goes : (facts : List (List Term)) (limits : Limits) (state : State) (first : ℕ) → IsState facts state → first < length state.incompats
    → (outcome : Conflict) → IsUnchanged (slice_index_or state.incompats first []) outcome
    → IsOutcome state.sizes state.incompats state.trail outcome → Goes limits state (after_conflict state first outcome)
outcome_goes facts limits state first is within (Refutes terms steps) same out = tt
outcome_goes facts limits state first is within (Learns terms steps level) same out =
    let next : State = record {
      names = state.names;
      sizes = state.sizes;
      incompats = learned state.incompats terms steps;
      origins = learned_origin state.origins first steps;
      loads = state.loads;
      trail = up_to level state.trail;
    } in
    let base = 2 * all_choices state.sizes + 3 in
    let busy : is_busy next ≡ true = learned_busy state (learned_origin state.origins first steps) first terms steps level out.node out.set within same out.formed out.almost in
    let falls = back_falls base (length state.sizes) state.sizes state.incompats level (present_digit state) state.trail (base_some state.sizes) is.stands
    out.lower (levels_bound state.sizes state.incompats state.trail is.stands) in
    inr (
      refl,
      refl,
      subst (λ digit. all_digits base (length state.sizes) state.sizes (up_to level state.trail) digit < measure_of state) (sym (busy_digit next busy)) falls,
    )

-- ---- all turns

-- each turn loads or lowers the measure
pub turn_goes : (facts : List (List Term)) (limits : Limits) (rules : Rules) (state : State) → IsState facts state → IsSmall limits state.sizes
    → AreRules limits rules facts state → Goes limits state (turn_of rules state)
turn_goes facts limits rules state is small are = turn_cases rules state (Goes limits state) (record {
  loads_root = λ new. load_goes facts limits rules state root_place are new are.root (rules.load state root_place) refl;
  loads = λ next settled at new.
      load_goes facts limits rules state next.place are new (are.places next settled small at) (rules.load state next.place) refl;
  conflicts = λ number found.
      let at = newest_is (holds state.sizes state.trail) 0 state.incompats number found in
      let first = slice_index_or state.incompats number [] in
      outcome_goes facts limits state number is (omega (arith, at.is, at.within)) (conflict state.sizes state.incompats state.trail first [])
      (unchanged state.sizes state.incompats state.trail first first [] (λ _. refl))
      (conflict_outcome state.sizes state.incompats state.trail first [] (conflict_asked facts state number is found));
  forces = λ forced quiet found. forced_goes facts limits state forced is found;
  decides = λ next settled at loaded.
      decided_goes facts limits rules state next is are settled at (decided_keeps facts limits rules state next is are settled at);
  selects = λ settled at. tt;
})

-- what a run keeps: for some facts, the lists are as they are, and the loads are different and within the limits
record IsRun (limits : Limits) (real : State → Bool) (state : State) : Type 0 where
  facts : List (List Term)
  is : IsState facts state
  is_real : real state ≡ true
  small : IsSmall limits state.sizes
  loads : AreLoads limits state.loads

-- one more turn
one_more : (rules : Rules) (state : State) (turn : Turn) → turn_of rules state ≡ turn → (n : ℕ) → IsLast (run_on rules n turn) → Ends rules state
one_more rules state turn at n last = record { turns = suc n; last = subst (λ t. IsLast (run_on rules n t)) (sym at) last }

-- with so much measure left, where a run with more loads ends
ends_between : (limits : Limits) (rules : Rules) (real : State → Bool) (k : ℕ) (state : State) → AreRunRules limits rules real → IsRun limits real state
    → measure_of state < k → ((next : State) → IsRun limits real next → length state.loads < length next.loads → Ends rules next) → Ends rules state
ends_between limits rules real zero state are run less next = absurd (omega arith)
ends_between limits rules real (suc k) state are run less next =
    let here = are.each run.facts state run.is_real run.is in
    go (turn_of rules state) refl (turn_keeps run.facts limits rules state run.is here) (turn_goes run.facts limits rules state run.is run.small here)
    (λ other again lower more. ends_between limits rules real k other are again lower more)
  where
    on_load : (other : State) → turn_of rules state ≡ Went other → IsLoad limits state other → (after : IsAfter run.facts state (Went other)) → Ends rules other
    on_load other at load after =
        next other (record {
          facts = run.facts ++ after.0;
          is = after.1;
          is_real = are.kept state other run.is_real at;
          small = load.small;
          loads = subst (AreLoads limits) (sym load.loads) (AreLoads-push limits state.loads load.place run.loads load.within load.new);
        }) (omega (arith, ap (λ (ps : List Place). length ps) load.loads, length-append state.loads (load.place ∷ [])))

    go : (turn : Turn) → turn_of rules state ≡ turn → IsAfter run.facts state turn → Goes limits state turn
        → ((other : State) → IsRun limits real other → measure_of other < k
        → ((after : State) → IsRun limits real after → length other.loads < length after.loads → Ends rules after) → Ends rules other)
        → Ends rules state
    go (Needs key) at after goes again = one_more rules state (Needs key) at 0 tt
    go (TooWide wide) at after goes again = one_more rules state (TooWide wide) at 0 tt
    go Selected at after goes again = one_more rules state Selected at 0 tt
    go (Refuted terms first steps) at after goes again = one_more rules state (Refuted terms first steps) at 0 tt
    go (Went other) at after (inl load) again =
        let ends = on_load other at load after in
        one_more rules state (Went other) at ends.turns ends.last
    go (Went other) at after (inr lowers) again =
        let ends = again other
        (record {
          facts = run.facts ++ after.0;
          is = after.1;
          is_real = are.kept state other run.is_real at;
          small = subst (IsSmall limits) (sym lowers.0) run.small;
          loads = subst (AreLoads limits) (sym lowers.1) run.loads;
        })
        (omega (arith, lowers.2, less))
        (λ later is more. next later is (subst (λ (ps : List Place). length ps < length later.loads) lowers.1 more)) in
        one_more rules state (Went other) at ends.turns ends.last

-- with so many loads left, every run ends
ends_within : (limits : Limits) (rules : Rules) (real : State → Bool) (l : ℕ) (state : State) → AreRunRules limits rules real → IsRun limits real state
    → limits.nodes * limits.choices < l + length state.loads → Ends rules state
ends_within limits rules real zero state are run less = absurd (omega (arith, loads_bound limits state.loads run.loads))
ends_within limits rules real (suc l) state are run less =
    ends_between limits rules real (suc (measure_of state)) state are run (omega arith)
    (λ next again more. ends_within limits rules real l next are again (omega (arith, more, less)))

-- every run ends
pub run_ends : (limits : Limits) (rules : Rules) (real : State → Bool) (facts : List (List Term)) (state : State) → AreRunRules limits rules real
    → real state ≡ true → IsState facts state → IsSmall limits state.sizes → AreLoads limits state.loads → Ends rules state
run_ends limits rules real facts state are is_real is small loads =
    ends_within limits rules real (limits.nodes * limits.choices + 1) state are
    (record { facts = facts; is = is; is_real = is_real; small = small; loads = loads }) (omega arith)
