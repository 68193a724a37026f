-- Runs of a solver: a turn more goes on from the last, and the states are a solver's, whatever more is said of keys.
use Rattle.std.proofs.Common.{◌≡◌, ℕ, zero, suc, refl, sym, ap, ◌∙◌, subst}
use Rattle.pub_facts.specs.Catalogue.{Job}
use Rattle.pub_trail.specs.Measure.{IsLast}
use Rattle.pub_trail.specs.Turn.{Rules, State, Turn, Went, Needs, TooWide, Selected, Refuted, run_from, run_on, turn_of}
use Rattle.pub_plain.specs.Answers.{Answers, AreShort, Carries}
use Rattle.pub_plain.specs.Choosing.{Pins}
use Rattle.pub_plain.specs.Invariant.{IsSolver}
use Rattle.pub_plain.specs.Plain.{opening, plain_after, rules_of}
use Rattle.pub_plain.specs.Stops.{IsStill}
use Rattle.pub_plain.proofs.KeptLemmas.{solver_kept}
use Rattle.pub_plain.proofs.MoreLemmas.{same_turn}
use Rattle.pub_plain.proofs.OpeningLemmas.{opening_solver}

-- ---- runs by any rules

-- one turn more can as well be done at the end
pub run_more : (rules : Rules) (n : ℕ) (turn : Turn) → run_on rules (suc n) turn ≡ run_from (run_on rules n turn) (turn_of rules)
run_more rules zero turn = refl
run_more rules (suc n) (Went state) = run_more rules n (turn_of rules state)
run_more rules (suc n) (Needs key) = refl
run_more rules (suc n) (TooWide wide) = refl
run_more rules (suc n) Selected = refl
run_more rules (suc n) (Refuted terms first steps) = refl

-- the turn after a run that goes to a state is the turn of that state
pub run_step : (rules : Rules) (n : ℕ) (turn : Turn) (state : State) → run_on rules n turn ≡ Went state
    → run_on rules (suc n) turn ≡ turn_of rules state
run_step rules n turn state went = run_more rules n turn ∙ ap (λ run. run_from run (turn_of rules)) went

-- a run goes to a state, and the turn of that state goes to the next one
pub record IsBefore (rules : Rules) (n : ℕ) (turn : Turn) (next : State) : Type 0 where
  pub state : State
  pub went : run_on rules n turn ≡ Went state
  pub goes : turn_of rules state ≡ Went next

-- a run of a turn more that goes to a state went to one before
pub run_before : (rules : Rules) (n : ℕ) (turn : Turn) (next : State) → run_on rules (suc n) turn ≡ Went next → IsBefore rules n turn next
run_before rules n turn next went = go (run_on rules n turn) refl (sym (run_more rules n turn) ∙ went)
  where
    go : (run : Turn) → run_on rules n turn ≡ run → run_from run (turn_of rules) ≡ Went next → IsBefore rules n turn next
    go (Went state) is goes = record { state = state; went = is; goes = goes }
    go (Needs key) is goes = cc
    go (TooWide wide) is goes = cc
    go Selected is goes = cc
    go (Refuted terms first steps) is goes = cc

-- a run from a last turn ends there
run_last : (rules : Rules) (n : ℕ) (turn : Turn) → IsLast turn → run_on rules n turn ≡ turn
run_last rules zero turn last = refl
run_last rules (suc n) (Went state) last = absurd last
run_last rules (suc n) (Needs key) last = refl
run_last rules (suc n) (TooWide wide) last = refl
run_last rules (suc n) Selected last = refl
run_last rules (suc n) (Refuted terms first steps) last = refl

-- behind a state whose turn is the last no run goes to another
none_behind : (rules : Rules) (n : ℕ) (state next : State) → IsLast (turn_of rules state) → run_on rules n (turn_of rules state) ≡ Went next → ⊥
none_behind rules n state next last went = subst IsLast (sym (run_last rules n (turn_of rules state) last) ∙ went) last

-- two runs from one turn to states whose turns are the last are one
pub run_once : (rules : Rules) (n m : ℕ) (turn : Turn) (state other : State) → run_on rules n turn ≡ Went state → run_on rules m turn ≡ Went other
    → IsLast (turn_of rules state) → IsLast (turn_of rules other) → (n ≡ m) × (state ≡ other)
run_once rules zero zero turn state other first second ends stops = (refl, cc)
run_once rules zero (suc m) turn state other first second ends stops =
    absurd (none_behind rules m state other ends
    (sym (ap (λ run. run_from run (λ now. run_on rules m (turn_of rules now))) first) ∙ second))
run_once rules (suc n) zero turn state other first second ends stops =
    absurd (none_behind rules n other state stops
    (sym (ap (λ run. run_from run (λ now. run_on rules n (turn_of rules now))) second) ∙ first))
run_once rules (suc n) (suc m) (Went now) state other first second ends stops =
    let rest = run_once rules n m (turn_of rules now) state other first second ends stops in (ap (λ k. suc k) rest.0, rest.1)
run_once rules (suc n) (suc m) (Needs key) state other first second ends stops = cc
run_once rules (suc n) (suc m) (TooWide wide) state other first second ends stops = cc
run_once rules (suc n) (suc m) Selected state other first second ends stops = cc
run_once rules (suc n) (suc m) (Refuted terms first_line steps) state other first second ends stops = cc

-- ---- runs of a solver

-- the states that a run goes to are a solver's
pub run_solver : (job : Job) (pins : Pins) (answers : Answers) (n : ℕ) (state : State) → AreShort answers
    → plain_after job pins answers n ≡ Went state → IsSolver answers state
run_solver job pins answers zero state short went =
    let same : opening ≡ state = cc in
    subst (IsSolver answers) same (opening_solver answers short)
run_solver job pins answers (suc n) state short went =
    let before = run_before (rules_of job pins answers) n (Went opening) state went in
    solver_kept job pins answers before.state state (run_solver job pins answers n before.state short before.went) before.goes

-- what is said of more keys changes no state that a run goes to
pub run_same : (job : Job) (pins : Pins) (answers more : Answers) (n : ℕ) (state : State) → AreShort answers → AreShort more
    → Carries answers more → plain_after job pins answers n ≡ Went state → plain_after job pins more n ≡ Went state
run_same job pins answers more zero state short small carries went = went
run_same job pins answers more (suc n) state short small carries went =
    let before = run_before (rules_of job pins answers) n (Went opening) state went in
    let is : IsSolver answers before.state = run_solver job pins answers n before.state short before.went in
    run_step (rules_of job pins more) n (Went opening) before.state
    (run_same job pins answers more n before.state short small carries before.went)
    ∙ same_turn job pins answers more carries before.state is (subst (IsStill more) (sym before.goes) tt)
    ∙ before.goes
