-- A resolution ends: the turns that are left fall at each turn.
use Rattle.std.proofs.Common.{◌≡◌, ℕ, zero, suc, ◌+◌, ◌-◌, ◌*◌, ◌^◌, ◌<◌, ◌≤◌, List, [], ◌∷◌, ◌++◌, length, slice_index, refl, sym, ap, ◌∙◌, subst, inl, inr, arith, length-append}
use Rattle.std.proofs.Math.Nat.{pow-le-pow_left, pow-le-pow_right, pow-suc, pow-zero}
use Rattle.std.proofs.lemmas.Nat.{pow-add}
use Rattle.pub_facts.specs.Catalogue.{Job}
use Rattle.pub_term.specs.declared.term.Term.{Term}
use Rattle.pub_trail.specs.Invariant.{AreRules, IsReason, IsSmall, IsState, IsTrail, Limits}
use Rattle.pub_trail.specs.Measure.{AreLoads, Ends, IsLast, all_choices, choices_left, digits_below, measure_of, place_count, present_digit, sum_below}
use Rattle.pub_trail.specs.Outcome.{IsAfter}
use Rattle.pub_trail.specs.Trail.{by_reason, level_of}
use Rattle.pub_trail.specs.Turn.{Rules, State, Turn, Went, Needs, TooWide, Selected, Refuted, run_on, turn_of}
use Rattle.pub_trail.specs.declared.trail.Assigned.{Assigned}
use Rattle.pub_trail.specs.declared.trail.Place.{Place}
use Rattle.pub_trail.specs.declared.trail.Reason.{Reason}
use Rattle.pub_trail.specs.declared.trail.Reason.TheVariants.{Decided, Derived}
use Rattle.pub_trail.proofs.EndLemmas.{Goes, IsLoad, Lowers, digit_within, turn_goes}
use Rattle.pub_trail.proofs.LoadLemmas.{AreLoads-push, loads_bound}
use Rattle.pub_trail.proofs.SumLemmas.{left_bound, levels_bound}
use Rattle.pub_trail.proofs.TurnLemmas.{turn_keeps}
use Rattle.pub_plain.specs.Answers.{Answers, AreShort, Carries}
use Rattle.pub_plain.specs.Choosing.{Pins}
use Rattle.pub_plain.specs.Ending.{IsRunning, most_measure, turns_left}
use Rattle.pub_plain.specs.Invariant.{IsSolver}
use Rattle.pub_plain.specs.Plain.{opening, plain_after, plain_limits, rules_of}
use Rattle.pub_plain.proofs.BroughtLemmas.{sizes_small}
use Rattle.pub_plain.proofs.KeptLemmas.{solver_kept}
use Rattle.pub_plain.proofs.MoreLemmas.{still_solver}
use Rattle.pub_plain.proofs.OpeningLemmas.{opening_solver}
use Rattle.pub_plain.proofs.RulesLemmas.{rules_right}
use Rattle.pub_plain.proofs.RunLemmas.{run_before}

-- ---- a bound of the measure

-- one more digit, below the next power of the base
one_digit : (u p base d : ℕ) → u + 1 ≤ p → d + 1 ≤ base → u * base + (d + 1) ≤ p * base
one_digit u p base d few small =
    let e : p ≡ u + 1 + (p - (u + 1)) = omega arith in
    subst (λ n. u * base + (d + 1) ≤ n * base) (sym e) (omega (arith, small))

-- the digits below the present one are fewer than the base's power of the level
digits_bound : (base : ℕ) (sizes : List ℕ) (incompats : List (List Term)) (trail : List Assigned) → 2 * all_choices sizes + 2 ≤ base
    → IsTrail sizes incompats trail → digits_below base sizes trail + 1 ≤ base ^ level_of trail
digits_bound base sizes incompats [] wide is = omega (arith, pow-zero base)
digits_bound base sizes incompats (entry ∷ before) wide is =
    go entry.reason refl is.0 (digits_bound base sizes incompats before wide is.1)
  where
    go : (reason : Reason) → entry.reason ≡ reason → IsReason reason sizes incompats before entry
        → digits_below base sizes before + 1 ≤ base ^ level_of before → digits_below base sizes (entry ∷ before) + 1 ≤ base ^ entry.level
    go Decided reason by few =
        let u = digits_below base sizes before in
        let l = choices_left sizes before in
        let same : digits_below base sizes (entry ∷ before) ≡ u * base + (2 * l + 1)
        = ap (λ r. by_reason r (u * base + (2 * l + 1)) (λ n. u)) reason in
        let power : base ^ entry.level ≡ base ^ level_of before * base
        = ap (λ n. base ^ n) by.level ∙ ap (λ n. base ^ n) (omega arith) ∙ pow-suc base (level_of before) in
        let digit : (2 * l + 1) + 1 ≤ base = omega (arith, left_bound sizes before, wide) in
        let less = one_digit u (base ^ level_of before) base (2 * l + 1) few digit in
        subst (λ n. digits_below base sizes (entry ∷ before) + 1 ≤ n) (sym power)
        (subst (λ v. v + 1 ≤ base ^ level_of before * base) (sym same) (omega (arith, less)))
    go (Derived number) reason by few =
        let u = digits_below base sizes before in
        let same : digits_below base sizes (entry ∷ before) ≡ u
        = ap (λ r. by_reason r (u * base + (2 * choices_left sizes before + 1)) (λ n. u)) reason in
        subst (λ v. v + 1 ≤ base ^ entry.level) (sym same) (subst (λ n. digits_below base sizes before + 1 ≤ base ^ n) (sym by.1.level) few)

-- a sum of parts of at most so much
sum_most : (f : ℕ → ℕ) (n most : ℕ) → ((k : ℕ) → k < n → f k ≤ most) → sum_below f n ≤ n * most
sum_most f zero most each = omega arith
sum_most f (suc n) most each = omega (arith, sum_most f n most (λ k below. each k (omega arith)), each n (omega arith))

-- a product grows with its first part
more_times : (a b c : ℕ) → a ≤ b → a * c ≤ b * c
more_times a b c less =
    let e : b ≡ a + (b - a) = omega arith in
    subst (λ n. a * c ≤ n * c) (sym e) (omega arith)

-- all choices of all nodes are within the limits
choices_bound : (limits : Limits) (sizes : List ℕ) → IsSmall limits sizes → all_choices sizes ≤ limits.nodes * limits.choices
choices_bound limits sizes small =
    omega (
      arith,
      sum_most (λ node. slice_index sizes node) (length sizes) limits.choices small.choices,
      more_times (length sizes) limits.nodes limits.choices small.nodes,
    )

-- powers of greater bases by greater numbers
power_grows : (a b i j : ℕ) → 0 < a → a ≤ b → i ≤ j → a ^ i ≤ b ^ j
power_grows a b i j some bases powers =
    le_trans (pow-le-pow_left {n = a} {m = b} bases i) (pow-le-pow_right {n = b} (omega arith) {i = i} {j = j} powers)
  where
    le_trans : {a b c : ℕ} → a ≤ b → b ≤ c → a ≤ c
    le_trans h k = omega arith

-- digits up to a level and the present one, in the place of the level, are at most the base's power of all levels and one more
digits_power : (base below digit level levels : ℕ) → below + 1 ≤ base ^ level → digit + 1 ≤ base → level ≤ levels
    → (below * base + (digit + 1)) * base ^ (levels - level) ≤ base ^ (levels + 1)
digits_power base below digit level levels few small within =
    let most = more_times (below * base + (digit + 1)) (base ^ level * base) (base ^ (levels - level))
    (one_digit below (base ^ level) base digit few small) in
    let e : base ^ (levels + 1) ≡ base ^ level * base * base ^ (levels - level)
    = ap (λ n. base ^ n) (omega arith)
    ∙ pow-add base (suc level) (levels - level)
    ∙ ap (λ n. n * base ^ (levels - level)) (pow-suc base level) in
    subst (λ n. (below * base + (digit + 1)) * base ^ (levels - level) ≤ n) (sym e) most

-- the present digit is below the base
digit_below : (state : State) → present_digit state + 1 ≤ 2 * all_choices state.sizes + 3
digit_below state = omega (arith, digit_within state, left_bound state.sizes state.trail)

-- the measure of a state within the limits
measure_bound : (limits : Limits) (facts : List (List Term)) (state : State) → IsState facts state → IsSmall limits state.sizes
    → measure_of state ≤ most_measure limits
unfolding most_measure
measure_bound limits facts state is small =
    let base = 2 * all_choices state.sizes + 3 in
    let most = digits_power base (digits_below base state.sizes state.trail) (present_digit state) (level_of state.trail) (length state.sizes)
    (digits_bound base state.sizes state.incompats state.trail (omega arith) is.stands) (digit_below state)
    (levels_bound state.sizes state.incompats state.trail is.stands) in
    le_trans most
    (power_grows base (2 * (limits.nodes * limits.choices) + 3) (length state.sizes + 1) (limits.nodes + 1) (omega arith)
    (omega (arith, choices_bound limits state.sizes small)) (omega (arith, small.nodes)))
  where
    le_trans : {a b c : ℕ} → a ≤ b → b ≤ c → a ≤ c
    le_trans h k = omega arith

-- ---- the turns that are left

-- a load leaves one load less, whatever the measure is then
load_less : (all done more most before after : ℕ) → more ≡ done + 1 → more ≤ all → after ≤ most
    → (all - more) * (most + 1) + after < (all - done) * (most + 1) + before
load_less all done more most before after one within few =
    let e : all - done ≡ (all - more) + 1 = omega arith in
    subst (λ n. (all - more) * (most + 1) + after < n * (most + 1) + before) (sym e) (omega arith)

-- a turn that goes on leaves less, and its loads are different and within the limits
pub record IsLess (limits : Limits) (state next : State) : Type 0 where
  pub less : turns_left limits next < turns_left limits state
  pub loads : AreLoads limits next.loads

-- by a load
load_leaves : (limits : Limits) (facts : List (List Term)) (state next : State) → IsState facts next → AreLoads limits state.loads
    → IsLoad limits state next → IsLess limits state next
unfolding turns_left
load_leaves limits facts state next is loads load =
    let after : AreLoads limits next.loads
    = subst (AreLoads limits) (sym load.loads) (AreLoads-push limits state.loads load.place loads load.within load.new) in
    let one : length next.loads ≡ length state.loads + 1
    = ap (λ (places : List Place). length places) load.loads ∙ length-append state.loads (load.place ∷ []) in
    record {
      less = load_less (limits.nodes * limits.choices) (length state.loads) (length next.loads) (most_measure limits) (measure_of state)
          (measure_of next)
          one (loads_bound limits next.loads after) (measure_bound limits facts next is load.small);
      loads = after;
    }

-- by a lower measure
lower_leaves : (limits : Limits) (state next : State) → AreLoads limits state.loads → Lowers state next → IsLess limits state next
unfolding turns_left
lower_leaves limits state next loads lowers =
    record {
      less = subst (λ (places : List Place). (limits.nodes * limits.choices - length places) * (most_measure limits + 1) + measure_of next
          < (limits.nodes * limits.choices - length state.loads) * (most_measure limits + 1) + measure_of state) (sym lowers.1)
          (add_less ((limits.nodes * limits.choices - length state.loads) * (most_measure limits + 1)) (measure_of next) (measure_of state) lowers.2);
      loads = subst (AreLoads limits) (sym lowers.1) loads;
    }
  where
    add_less : (n a b : ℕ) → a < b → n + a < n + b
    add_less n a b less = omega arith

-- each turn that goes on leaves less
turn_leaves : (limits : Limits) (facts : List (List Term)) (rules : Rules) (state next : State) → IsState facts state → IsSmall limits state.sizes
    → AreRules limits rules facts state → AreLoads limits state.loads → turn_of rules state ≡ Went next → IsLess limits state next
turn_leaves limits facts rules state next is small are loads went =
    go (subst (IsAfter facts state) went (turn_keeps facts limits rules state is are))
    (subst (Goes limits state) went (turn_goes facts limits rules state is small are))
  where
    go : IsAfter facts state (Went next) → Goes limits state (Went next) → IsLess limits state next
    go after (inl load) = load_leaves limits (facts ++ after.0) state next after.1 loads load
    go after (inr lowers) = lower_leaves limits state next loads lowers

-- ---- runs of a solver

-- a solver's nodes and their choices are within the limits
solver_small : (answers : Answers) (state : State) → IsSolver answers state → IsSmall plain_limits state.sizes
solver_small answers state is = subst (IsSmall plain_limits) (sym is.sizes) (sizes_small answers state.names is.short is.nodes)

-- a turn of a solver leaves less
pub solver_leaves : (job : Job) (pins : Pins) (answers : Answers) (state next : State) → IsRunning answers state
    → turn_of (rules_of job pins answers) state ≡ Went next → IsLess plain_limits state next
solver_leaves job pins answers state next is went =
    turn_leaves plain_limits is.solver.facts (rules_of job pins answers) state next is.solver.is (solver_small answers state is.solver)
    (rules_right job pins answers state is.solver) is.loads went

-- no loads are different and within the limits
no_loads : (limits : Limits) → AreLoads limits []
no_loads limits = record { within = tt; apart = none (place_count limits []) }
  where
    none : (n : ℕ) → 0 ≤ n
    none n = omega arith

-- the opening has none
pub opening_running : (answers : Answers) → AreShort answers → IsRunning answers opening
opening_running answers short = record { solver = opening_solver answers short; loads = no_loads plain_limits }

-- a turn that goes on keeps what a solver is
pub turned_running : (job : Job) (pins : Pins) (answers : Answers) (state next : State) → IsRunning answers state
    → turn_of (rules_of job pins answers) state ≡ Went next → IsRunning answers next
turned_running job pins answers state next is went = record {
  solver = solver_kept job pins answers state next is.solver went;
  loads = (solver_leaves job pins answers state next is went).loads;
}

-- and so do replies
pub more_running : (answers more : Answers) (state : State) → Carries answers more → AreShort more → IsRunning answers state → IsRunning more state
more_running answers more state carries short is = record {
  solver = still_solver answers more carries state is.solver short;
  loads = is.loads;
}

-- so each state that a run goes to is so
pub run_running : (job : Job) (pins : Pins) (answers : Answers) (n : ℕ) (state : State) → AreShort answers
    → plain_after job pins answers n ≡ Went state → IsRunning answers state
run_running job pins answers zero state short went =
    let same : opening ≡ state = cc in
    subst (IsRunning answers) same (opening_running answers short)
run_running job pins answers (suc n) state short went =
    let before = run_before (rules_of job pins answers) n (Went opening) state went in
    turned_running job pins answers before.state state (run_running job pins answers n before.state short before.went) before.goes

-- ---- the end

-- with so many turns left, a run ends
ends_within : (job : Job) (pins : Pins) (answers : Answers) (n : ℕ) (state : State) → IsRunning answers state → turns_left plain_limits state < n
    → Ends (rules_of job pins answers) state
ends_within job pins answers zero state is few = absurd (omega arith)
ends_within job pins answers (suc n) state is few =
    go (λ next running less. ends_within job pins answers n next running less) (turn_of (rules_of job pins answers) state) refl
  where
    one_more : (turn : Turn) → turn_of (rules_of job pins answers) state ≡ turn → (k : ℕ) → IsLast (run_on (rules_of job pins answers) k turn)
        → Ends (rules_of job pins answers) state
    one_more turn at k last = record { turns = suc k; last = subst (λ t. IsLast (run_on (rules_of job pins answers) k t)) (sym at) last }

    go : ((next : State) → IsRunning answers next → turns_left plain_limits next < n → Ends (rules_of job pins answers) next)
        → (turn : Turn) → turn_of (rules_of job pins answers) state ≡ turn → Ends (rules_of job pins answers) state
    go later (Went next) at =
        let less = (solver_leaves job pins answers state next is at).less in
        let rest = later next (turned_running job pins answers state next is at) (omega (arith, less, few)) in
        one_more (Went next) at rest.turns rest.last
    go later (Needs key) at = one_more (Needs key) at 0 tt
    go later (TooWide wide) at = one_more (TooWide wide) at 0 tt
    go later Selected at = one_more Selected at 0 tt
    go later (Refuted terms first steps) at = one_more (Refuted terms first steps) at 0 tt

-- each run of a solver ends, or asks for a key
pub solver_ends : (job : Job) (pins : Pins) (answers : Answers) → AreShort answers → Ends (rules_of job pins answers) opening
solver_ends job pins answers short =
    ends_within job pins answers (turns_left plain_limits opening + 1) opening (opening_running answers short) (omega arith)
