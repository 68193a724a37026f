-- Each turn keeps what the three lists are.
use Rattle.std.proofs.Common.{◌≡◌, ℕ, ◌+◌, ◌<◌, ◌==◌, Bool, true, false, not, List, [], ◌∷◌, ◌++◌, length, slice_index, slice_index_or, Option, Some, None, refl, sym, ap, ap₂, ◌∙◌, subst, inl, inr, arith, ◌&&◌, ◌||◌, append-nil, eq-eqb, lt-ltb, ne_eqb}
use Rattle.std.proofs.lemmas.Bool.{cases_eq, cond_both, not-true}
use Rattle.pub_set.specs.Choices.{choices_of, has, is_among, opposite}
use Rattle.pub_set.proofs.AscendingLemmas.{is_among-where}
use Rattle.pub_term.specs.Term.{violates}
use Rattle.pub_term.specs.declared.term.Term.{Term}
use Rattle.pub_trail.specs.Invariant.{AreFormed, AreRules, Begins, IsAlmost, IsFormed, IsSettled, IsState, Limits, ViolatesNone}
use Rattle.pub_trail.specs.Trail.{holds, level_of, up_to}
use Rattle.pub_trail.specs.Turn.{Conflict, Refutes, Learns, Forced, Loading, Lacks, Passes, Brings, Next, Rules, State, Step, Turn, Selected, after_conflict, after_forced, after_load, after_next, almost, conflict, conflict_or_force, decided, force_or_next, is_loaded, learned, learned_origin, newest_forced, newest_from, root_place, turn_of}
use Rattle.pub_trail.specs.declared.trail.Assigned.{Assigned}
use Rattle.pub_trail.specs.declared.trail.Place.{Place}
use Rattle.pub_trail.specs.declared.trail.Reason.TheVariants.{Decided, Derived}
use Rattle.pub_trail.proofs.BackLemmas.{Begins-up_to, IsTrail-up_to}
use Rattle.pub_trail.proofs.ConflictLemmas.{conflict_outcome}
use Rattle.pub_trail.specs.Outcome.{IsAfter, IsAsked, IsOutcome}
use Rattle.pub_trail.proofs.GrowLemmas.{AreFormed-append, AreFormed-grow, Extends, Extends-append, Extends-same, IsAssignment-shrink, IsTrail-grow, ViolatesNone-append, ViolatesNone-parts, some_append}
use Rattle.pub_trail.proofs.LieLemmas.{formed_at, unviolated_at}
use Rattle.pub_trail.proofs.NewestLemmas.{almost_is, forced_is, newest_is}

-- ---- the cases of a turn

-- no incompatibility holds
pub record IsQuiet (state : State) : Type 0 where
  pub none_holds : newest_from (holds state.sizes state.trail) 0 state.incompats ≡ None

-- what a turn may be, by its cases
pub record TurnCases (rules : Rules) (state : State) (P : Turn → Type 0) : Type 0 where
  pub loads_root : is_loaded state root_place ≡ false → P (after_load state root_place (rules.load state root_place))
  pub loads : (next : Next) → IsSettled state → rules.next state ≡ Some next → is_loaded state next.place ≡ false
      → P (after_load state next.place (rules.load state next.place))
  pub conflicts : (number : ℕ) → newest_from (holds state.sizes state.trail) 0 state.incompats ≡ Some number
      → P (after_conflict state number (conflict state.sizes state.incompats state.trail (slice_index_or state.incompats number []) []))
  pub forces : (forced : Forced) → IsQuiet state → newest_forced state.sizes state.trail 0 state.incompats ≡ Some forced → P (after_forced state forced)
  pub decides : (next : Next) → IsSettled state → rules.next state ≡ Some next → is_loaded state next.place ≡ true → P (decided state next)
  pub selects : IsSettled state → rules.next state ≡ None → P Selected

-- the cases where nothing is almost satisfied
next_cases : (rules : Rules) (state : State) (P : Turn → Type 0) → TurnCases rules state P → IsSettled state → (next : Option Next)
    → rules.next state ≡ next → P (after_next rules state next)
next_cases rules state P cases settled None is = cases.selects settled is
next_cases rules state P cases settled (Some next) is =
    cond_both (is_loaded state next.place) (decided state next) (after_load state next.place (rules.load state next.place)) P
    (λ loaded. cases.decides next settled is loaded) (λ other. cases.loads next settled is other)

-- the cases where nothing holds
force_cases : (rules : Rules) (state : State) (P : Turn → Type 0) → TurnCases rules state P → IsQuiet state → (forced : Option Forced)
    → newest_forced state.sizes state.trail 0 state.incompats ≡ forced → P (force_or_next rules state forced)
force_cases rules state P cases quiet (Some forced) is = cases.forces forced quiet is
force_cases rules state P cases quiet None is =
    next_cases rules state P cases (record { none_holds = quiet.none_holds; none_forces = is }) (rules.next state) refl

-- the cases where the root is loaded
conflict_cases : (rules : Rules) (state : State) (P : Turn → Type 0) → TurnCases rules state P → (number : Option ℕ)
    → newest_from (holds state.sizes state.trail) 0 state.incompats ≡ number → P (conflict_or_force rules state number)
conflict_cases rules state P cases (Some number) is = cases.conflicts number is
conflict_cases rules state P cases None is =
    force_cases rules state P cases (record { none_holds = is }) (newest_forced state.sizes state.trail 0 state.incompats) refl

-- a predicate of all cases holds of the turn
pub turn_cases : (rules : Rules) (state : State) (P : Turn → Type 0) → TurnCases rules state P → P (turn_of rules state)
turn_cases rules state P cases =
    cond_both (not (is_loaded state root_place)) (after_load state root_place (rules.load state root_place))
    (conflict_or_force rules state (newest_from (holds state.sizes state.trail) 0 state.incompats)) P
    (λ other. cases.loads_root (not-true (is_loaded state root_place) other))
    (λ loaded. conflict_cases rules state P cases (newest_from (holds state.sizes state.trail) 0 state.incompats) refl)

-- ---- what is kept

-- no more facts change nothing
no_more_facts : (facts : List (List Term)) (state : State) → IsState facts state → IsState (facts ++ []) state
no_more_facts facts state is = subst (λ all. IsState all state) (sym (append-nil facts)) is

-- a load keeps what the lists are
load_keeps : (facts : List (List Term)) (limits : Limits) (rules : Rules) (state : State) (place : Place) → IsState facts state → AreRules limits rules facts state → (loaded : Loading)
    → rules.load state place ≡ loaded → IsAfter facts state (after_load state place loaded)
load_keeps facts limits rules state place is are (Lacks key) at = tt
load_keeps facts limits rules state place is are (Passes wide) at = tt
load_keeps facts limits rules state place is are (Brings loaded) at =
    let grown = Extends-append 0 state.sizes loaded.sizes in (
      loaded.facts,
      record {
        some = some_append state.sizes loaded.sizes is.some (are.sizes place loaded at);
        formed = AreFormed-append (state.sizes ++ loaded.sizes) state.incompats loaded.facts
            (AreFormed-grow state.sizes (state.sizes ++ loaded.sizes) state.incompats grown is.formed) (are.formed place loaded at);
        stands = IsTrail-grow state.sizes (state.sizes ++ loaded.sizes) state.incompats (state.incompats ++ loaded.facts) state.trail
            grown (Extends-append [] state.incompats loaded.facts) is.formed is.stands;
        begins = is.begins;
        follows = λ assignment assigns none.
            let parts = ViolatesNone-parts facts loaded.facts assignment none in
            ViolatesNone-append state.incompats loaded.facts assignment
            (is.follows assignment (IsAssignment-shrink state.sizes (state.sizes ++ loaded.sizes) assignment grown assigns) parts.0) parts.1;
      },
    )

-- what is learned comes last
pub learned_extends : (incompats : List (List Term)) (terms : List Term) (steps : List Step) → Extends [] incompats (learned incompats terms steps)
learned_extends incompats terms [] = Extends-same [] incompats
learned_extends incompats terms (step ∷ steps) = Extends-append [] incompats (terms ∷ [])

-- and is well formed
pub learned_formed : (sizes : List ℕ) (incompats : List (List Term)) (terms : List Term) (steps : List Step) → AreFormed sizes incompats → IsFormed sizes terms
    → AreFormed sizes (learned incompats terms steps)
learned_formed sizes incompats terms [] formed here = formed
learned_formed sizes incompats terms (step ∷ steps) formed here = AreFormed-append sizes incompats (terms ∷ []) formed (here, tt)

-- and follows
pub learned_none : (incompats : List (List Term)) (terms : List Term) (steps : List Step) (assignment : ℕ → ℕ) → ViolatesNone incompats assignment
    → violates assignment terms ≡ false → ViolatesNone (learned incompats terms steps) assignment
learned_none incompats terms [] assignment none here = none
learned_none incompats terms (step ∷ steps) assignment none here = ViolatesNone-append incompats (terms ∷ []) assignment none (here, tt)

-- a conflict keeps what the lists are
outcome_keeps : (facts : List (List Term)) (state : State) (first : ℕ) → IsState facts state → (outcome : Conflict)
    → IsOutcome state.sizes state.incompats state.trail outcome → IsAfter facts state (after_conflict state first outcome)
outcome_keeps facts state first is (Refutes terms steps) out = record {
  formed = out.formed;
  follows = λ assignment assigns none. out.follows assignment assigns (is.follows assignment assigns none);
  root = out.root;
}
outcome_keeps facts state first is (Learns terms steps level) out = (
  [],
  no_more_facts facts (record {
    names = state.names;
    sizes = state.sizes;
    incompats = learned state.incompats terms steps;
    origins = learned_origin state.origins first steps;
    loads = state.loads;
    trail = up_to level state.trail;
  }) (record {
    some = is.some;
    formed = learned_formed state.sizes state.incompats terms steps is.formed out.formed;
    stands = IsTrail-grow state.sizes state.sizes state.incompats (learned state.incompats terms steps) (up_to level state.trail)
        (Extends-same 0 state.sizes) (learned_extends state.incompats terms steps) is.formed
        (IsTrail-up_to state.sizes state.incompats level state.trail is.stands);
    begins = Begins-up_to state.sizes state.incompats level state.trail out.some is.stands is.begins;
    follows = λ assignment assigns none.
        let all = is.follows assignment assigns none in
        learned_none state.incompats terms steps assignment all (out.follows assignment assigns all);
  }),
)

-- the newest that holds is what a conflict asks
pub conflict_asked : (facts : List (List Term)) (state : State) (number : ℕ) → IsState facts state
    → newest_from (holds state.sizes state.trail) 0 state.incompats ≡ Some number
    → IsAsked state.sizes state.incompats state.trail (slice_index_or state.incompats number [])
conflict_asked facts state number is found =
    let at = newest_is (holds state.sizes state.trail) 0 state.incompats number found in
    let here : number ≡ at.place = omega (arith, at.is) in
    let within : number < length state.incompats = omega (arith, at.within) in
    record {
      some = is.some;
      all_formed = is.formed;
      stands = is.stands;
      begins = is.begins;
      formed = formed_at state.sizes state.incompats number is.formed within;
      follows = λ assignment assigns none. unviolated_at state.incompats assignment number none within;
      held = ap (λ n. holds state.sizes state.trail (slice_index_or state.incompats n [])) here ∙ at.passes;
    }

-- one more assignment keeps the oldest
pub Begins-more : (entry : Assigned) (trail : List Assigned) → Begins trail → Begins (entry ∷ trail)
Begins-more entry [] begins = elim begins [ ]
Begins-more entry (next ∷ trail) begins = begins

-- what is forced is almost satisfied
pub forced_almost : (facts : List (List Term)) (state : State) (forced : Forced) → IsState facts state
    → newest_forced state.sizes state.trail 0 state.incompats ≡ Some forced
    → (forced.number < length state.incompats)
    × IsAlmost state.sizes state.trail (slice_index_or state.incompats forced.number []) forced.term.node forced.term.choices
forced_almost facts state forced is found =
    let at = forced_is state.sizes state.trail 0 state.incompats forced found in
    let here : forced.number ≡ at.place = omega (arith, at.is) in
    let within : forced.number < length state.incompats = omega (arith, at.within) in (
      within,
      almost_is state.sizes state.trail (slice_index_or state.incompats forced.number []) forced.term
          (formed_at state.sizes state.incompats forced.number is.formed within)
          (ap (λ n. almost state.sizes state.trail (slice_index_or state.incompats n [])) here ∙ at.passes),
    )

-- a derivation keeps what the lists are
forced_keeps : (facts : List (List Term)) (state : State) (forced : Forced) → IsState facts state
    → newest_forced state.sizes state.trail 0 state.incompats ≡ Some forced → IsAfter facts state (after_forced state forced)
forced_keeps facts state forced is found =
    let almost_at = forced_almost facts state forced is found in
    let entry : Assigned = record {
      node = forced.term.node;
      choices = opposite forced.term.choices;
      level = level_of state.trail;
      reason = Derived forced.number;
    } in (
      [],
      no_more_facts facts (record { names = state.names; sizes = state.sizes; incompats = state.incompats; origins = state.origins; loads = state.loads; trail = entry ∷ state.trail }) (record {
        some = is.some;
        formed = is.formed;
        stands = ((almost_at.0, record { set = forced.term.choices; almost = almost_at.1; choices = refl; level = refl }), is.stands);
        begins = Begins-more entry state.trail is.begins;
        follows = is.follows;
      }),
    )

-- the set of one choice
pub has-one : (size choice other : ℕ) → other < size → has (choices_of size (choice ∷ [])) other ≡ (other == choice)
has-one size choice other below =
    is_among-where size (is_among (choice ∷ [])) other
    ∙ ap₂ (λ a b. a && (b || false)) (lt-ltb other size below) (same_number choice other)
    ∙ or_false (other == choice)
  where
    same_number : (a b : ℕ) → (a == b) ≡ (b == a)
    same_number a b = elim (cases_eq a b) [
      | inl same ↦ eq-eqb a b same ∙ sym (eq-eqb b a (sym same))
      | inr differs ↦ ne_eqb a b differs ∙ sym (ne_eqb b a (λ e. differs (sym e)))
    ]

    or_false : (b : Bool) → (true && (b || false)) ≡ b
    or_false true = refl
    or_false false = refl

-- a decision does
pub decided_keeps : (facts : List (List Term)) (limits : Limits) (rules : Rules) (state : State) (next : Next) → IsState facts state → AreRules limits rules facts state
    → IsSettled state → rules.next state ≡ Some next → IsAfter facts state (decided state next)
decided_keeps facts limits rules state next is are settled at =
    let entry : Assigned = record {
      node = next.node;
      choices = choices_of (slice_index state.sizes next.node) (next.choice ∷ []);
      level = level_of state.trail + 1;
      reason = Decided;
    } in (
      [],
      no_more_facts facts (record { names = state.names; sizes = state.sizes; incompats = state.incompats; origins = state.origins; loads = state.loads; trail = entry ∷ state.trail }) (record {
        some = is.some;
        formed = is.formed;
        stands = (
          record {
            choice = next.choice;
            known = are.known next settled at;
            fresh = are.fresh next settled at;
            left = are.left next settled at;
            choices = λ other below. has-one (slice_index state.sizes next.node) next.choice other below;
            level = refl;
          },
          is.stands,
        );
        begins = Begins-more entry state.trail is.begins;
        follows = is.follows;
      }),
    )

-- each turn does
pub turn_keeps : (facts : List (List Term)) (limits : Limits) (rules : Rules) (state : State) → IsState facts state → AreRules limits rules facts state
    → IsAfter facts state (turn_of rules state)
turn_keeps facts limits rules state is are = turn_cases rules state (IsAfter facts state) (record {
  loads_root = λ other. load_keeps facts limits rules state root_place is are (rules.load state root_place) refl;
  loads = λ next settled at other. load_keeps facts limits rules state next.place is are (rules.load state next.place) refl;
  conflicts = λ number found.
      outcome_keeps facts state number is (conflict state.sizes state.incompats state.trail (slice_index_or state.incompats number []) [])
      (conflict_outcome state.sizes state.incompats state.trail (slice_index_or state.incompats number []) [] (conflict_asked facts state number is found));
  forces = λ forced quiet found. forced_keeps facts state forced is found;
  decides = λ next settled at loaded. decided_keeps facts limits rules state next is are settled at;
  selects = λ settled at. tt;
})
