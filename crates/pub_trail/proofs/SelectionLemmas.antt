-- Each turn keeps that decisions are first choices, and where none is next the decisions are a selection.
use Rattle.std.proofs.Common.{◌≡◌, ℕ, ◌+◌, ◌<◌, ◌==◌, true, false, not, nat_lt, List, [], ◌∷◌, ◌++◌, length, slice_index, slice_index_or, Contains, Some, None, refl, sym, ap, ◌∙◌, subst, inl, inr, append-nil, eqb-true, eq-eqb}
use Rattle.std.specs.List.{filter}
use Rattle.std.proofs.lemmas.Bool.{and_from, false≢true, lt-ltb, or_cases, or_left}
use Rattle.std.proofs.lemmas.List.Elements.{Contains-append_cases, Contains-append_left}
use Rattle.std.proofs.lemmas.List.{get_or_default}
use Rattle.pub_set.specs.Choices.{choices_of, has, is_among, numbers_below}
use Rattle.pub_set.proofs.AscendingLemmas.{is_among-where}
use Rattle.pub_term.specs.declared.term.Term.{Term}
use Rattle.pub_trail.specs.Derived.{IsHistory}
use Rattle.pub_trail.specs.First.{AreBound, AreChoices, AreFirstRules, IsBest, IsChoice, IsChosen, IsSelection, NothingBetter, Preference, first_or, is_asked}
use Rattle.pub_trail.specs.Invariant.{AreFormed, AreRules, IsAlmost, IsAssignment, IsFormed, IsReason, IsSettled, IsState, IsTrail, Limits, ViolatesNone}
use Rattle.pub_trail.specs.Selection.{IsChosenAfter}
use Rattle.pub_trail.specs.Trail.{allows, holds, level_of, up_to}
use Rattle.pub_trail.specs.Turn.{Conflict, Refutes, Learns, Forced, Loading, Lacks, Passes, Brings, Next, Rules, State, after_conflict, after_forced, after_load, conflict, decided, root_place, turn_of}
use Rattle.pub_trail.specs.declared.trail.Assigned.{Assigned}
use Rattle.pub_trail.specs.declared.trail.Place.{Place}
use Rattle.pub_trail.specs.declared.trail.Reason.{Reason}
use Rattle.pub_trail.specs.declared.trail.Reason.TheVariants.{Decided, Derived}
use Rattle.pub_trail.proofs.BackLemmas.{up_to_both}
use Rattle.pub_trail.proofs.FirstLemmas.{chosen_violates_none, first_of_one, skipped}
use Rattle.pub_trail.proofs.GrowLemmas.{Extends, Extends-append}
use Rattle.pub_trail.proofs.LieLemmas.{formed_at, sized_at}
use Rattle.pub_trail.proofs.NewestLemmas.{newest_none}
use Rattle.pub_trail.proofs.TestLemmas.{passes-where}
use Rattle.pub_trail.proofs.TurnLemmas.{forced_almost, turn_cases}

-- ---- over more nodes and facts

-- the node of an assignment is there
known_of : (reason : Reason) (sizes : List ℕ) (incompats : List (List Term)) (before : List Assigned) (entry : Assigned) → AreFormed sizes incompats
    → IsReason reason sizes incompats before entry → entry.node < length sizes
known_of Decided sizes incompats before entry formed by = by.known
known_of (Derived number) sizes incompats before entry formed by =
    (sized_at sizes (slice_index_or incompats number []) entry.node by.1.set (formed_at sizes incompats number formed by.0).sized by.1.almost.at).0

-- sets stay below their sizes over more nodes
bound_grow : (sizes more : List ℕ) (incompats : List (List Term)) (trail : List Assigned) → Extends 0 sizes more → AreFormed sizes incompats
    → IsTrail sizes incompats trail → AreBound sizes trail → AreBound more trail
bound_grow sizes more incompats [] extends formed is bound = tt
bound_grow sizes more incompats (entry ∷ before) extends formed is bound =
    let known = known_of entry.reason sizes incompats before entry formed is.0 in
    (λ k here. subst (λ size. k < size) (sym (extends.same entry.node known)) (bound.0 k here), bound_grow sizes more incompats before extends formed is.1 bound.1)

-- a decision stays a first choice over more facts
choice_grow : (reason : Reason) (prefers : Preference) (sizes more : List ℕ) (facts given : List (List Term)) (before : List Assigned) (entry : Assigned)
    → slice_index more entry.node ≡ slice_index sizes entry.node → ((fact : List Term) → Contains facts fact → Contains given fact)
    → IsChoice reason prefers sizes facts before entry → IsChoice reason prefers more given before entry
choice_grow Decided prefers sizes more facts given [] entry same keeps is = tt
choice_grow Decided prefers sizes more facts given (next ∷ before) entry same keeps is = record {
  skips = λ other below preferred. is.skips other (subst (λ size. other < size) same below) preferred;
  fact = is.fact;
  given = keeps is.fact is.given;
  asked = is.asked;
}
choice_grow (Derived number) prefers sizes more facts given before entry same keeps is = tt

-- and so do all
choices_grow : (prefers : Preference) (sizes more : List ℕ) (incompats facts given : List (List Term)) (trail : List Assigned) → Extends 0 sizes more
    → AreFormed sizes incompats → IsTrail sizes incompats trail → ((fact : List Term) → Contains facts fact → Contains given fact)
    → AreChoices prefers sizes facts trail → AreChoices prefers more given trail
choices_grow prefers sizes more incompats facts given [] extends formed is keeps are = tt
choices_grow prefers sizes more incompats facts given (entry ∷ before) extends formed is keeps are =
    let known = known_of entry.reason sizes incompats before entry formed is.0 in (
      choice_grow entry.reason prefers sizes more facts given before entry (extends.same entry.node known) keeps are.0,
      choices_grow prefers sizes more incompats facts given before extends formed is.1 keeps are.1,
    )

-- going back keeps the sets
bound_up_to : (sizes : List ℕ) (level : ℕ) (trail : List Assigned) → AreBound sizes trail → AreBound sizes (up_to level trail)
bound_up_to sizes level [] bound = tt
bound_up_to sizes level (entry ∷ before) bound = up_to_both (AreBound sizes) level entry before bound (bound_up_to sizes level before bound.1)

-- and the decisions
choices_up_to : (prefers : Preference) (sizes : List ℕ) (facts : List (List Term)) (level : ℕ) (trail : List Assigned) → AreChoices prefers sizes facts trail
    → AreChoices prefers sizes facts (up_to level trail)
choices_up_to prefers sizes facts level [] are = tt
choices_up_to prefers sizes facts level (entry ∷ before) are =
    up_to_both (AreChoices prefers sizes facts) level entry before are (choices_up_to prefers sizes facts level before are.1)

-- ---- the turns

-- no more facts change nothing
same_chosen : (prefers : Preference) (facts : List (List Term)) (state : State) → IsChosen prefers facts state → IsChosen prefers (facts ++ []) state
same_chosen prefers facts state was = subst (λ all. IsChosen prefers all state) (sym (append-nil facts)) was

-- a load keeps the decisions
load_chosen : (prefers : Preference) (facts : List (List Term)) (rules : Rules) (state : State) (place : Place) → IsState facts state
    → IsChosen prefers facts state → AreFirstRules prefers rules facts state → (loaded : Loading) → rules.load state place ≡ loaded
    → IsChosenAfter prefers facts state (after_load state place loaded)
load_chosen prefers facts rules state place is was are (Lacks key) at = tt
load_chosen prefers facts rules state place is was are (Passes wide) at = tt
load_chosen prefers facts rules state place is was are (Brings loaded) at =
    let grown = Extends-append 0 state.sizes loaded.sizes in (
      loaded.facts,
      record {
        bound = bound_grow state.sizes (state.sizes ++ loaded.sizes) state.incompats state.trail grown is.formed is.stands was.bound;
        choices = choices_grow prefers state.sizes (state.sizes ++ loaded.sizes) state.incompats facts (facts ++ loaded.facts) state.trail grown is.formed is.stands
            (λ fact there. Contains-append_left facts loaded.facts fact there) was.choices;
        shaped = λ fact there.
            elim (Contains-append_cases facts loaded.facts fact there) [
              | inl old ↦ was.shaped fact old
              | inr new ↦ are.shaped place loaded at fact new
            ];
      },
    )

-- a conflict keeps those that are left
outcome_chosen : (prefers : Preference) (facts : List (List Term)) (state : State) (first : ℕ) → IsChosen prefers facts state → (outcome : Conflict)
    → IsChosenAfter prefers facts state (after_conflict state first outcome)
outcome_chosen prefers facts state first was (Refutes terms steps) = tt
outcome_chosen prefers facts state first was (Learns terms steps level) = (
  [],
  record {
    bound = bound_up_to state.sizes level state.trail was.bound;
    choices = subst (λ all. AreChoices prefers state.sizes all (up_to level state.trail)) (sym (append-nil facts))
        (choices_up_to prefers state.sizes facts level state.trail was.choices);
    shaped = λ fact there. was.shaped fact (subst (λ all. Contains all fact) (append-nil facts) there);
  },
)

-- a derivation keeps them
forced_chosen : (prefers : Preference) (facts : List (List Term)) (state : State) (forced : Forced) → IsState facts state → IsChosen prefers facts state
    → (forced.number < length state.incompats)
    × IsAlmost state.sizes state.trail (slice_index_or state.incompats forced.number []) forced.term.node forced.term.choices
    → IsChosenAfter prefers facts state (after_forced state forced)
forced_chosen prefers facts state forced is was almost_at =
    let sized = sized_at state.sizes (slice_index_or state.incompats forced.number []) forced.term.node forced.term.choices
    (formed_at state.sizes state.incompats forced.number is.formed almost_at.0).sized almost_at.1.at in (
      [],
      record {
        bound = (
          λ k here.
              subst (λ size. k < size) sized.1 (passes-where forced.term.choices.size k (λ j. not (has forced.term.choices j)) here).0,
          was.bound,
        );
        choices = (tt, subst (λ all. AreChoices prefers state.sizes all state.trail) (sym (append-nil facts)) was.choices);
        shaped = λ fact there. was.shaped fact (subst (λ all. Contains all fact) (append-nil facts) there);
      },
    )

-- the set of one choice has that choice first
first_or-one : (size choice : ℕ) → choice < size → first_or (choices_of size (choice ∷ [])).members 0 ≡ choice
first_or-one size choice below =
    first_of_one (filter (is_among (choice ∷ [])) (numbers_below size)) choice
    (is_among-where size (is_among (choice ∷ [])) choice
    ∙ and_from (nat_lt choice size) (is_among (choice ∷ []) choice) (lt-ltb choice size below) (or_left (choice == choice) false (eq-eqb choice choice refl)))
    (λ k here.
    elim (or_cases (choice == k) false (passes-where size k (is_among (choice ∷ [])) here).1) [
      | inl same ↦ sym (eqb-true choice k same)
      | inr never ↦ absurd (false≢true never)
    ])

-- a decision is a first choice
decided_chosen : (prefers : Preference) (facts : List (List Term)) (limits : Limits) (rules : Rules) (state : State) (next : Next) → IsState facts state
    → IsHistory facts state → IsChosen prefers facts state → AreRules limits rules facts state → AreFirstRules prefers rules facts state → IsSettled state → rules.next state ≡ Some next
    → IsChosenAfter prefers facts state (decided state next)
decided_chosen prefers facts limits rules state next is history was are firsts settled at =
    let left = are.left next settled at in
    let below : next.choice < slice_index state.sizes next.node
    = subst (λ c. c < slice_index state.sizes next.node) (eqb-true left.choice next.choice left.passes) left.below in
    let one = first_or-one (slice_index state.sizes next.node) next.choice below in
    let asked = firsts.asked next settled at in (
      [],
      record {
        bound = (λ k here. (passes-where (slice_index state.sizes next.node) k (is_among (next.choice ∷ [])) here).0, was.bound);
        choices = subst (λ all. AreChoices prefers state.sizes all (later ∷ state.trail)) (sym (append-nil facts)) (
          here state.trail
              (λ other under preferred.
              firsts.skips next settled at other under (subst (λ c. prefers next.node other c ≡ true) one preferred)) asked,
          was.choices,
        );
        shaped = λ fact there. was.shaped fact (subst (λ all. Contains all fact) (append-nil facts) there);
      },
    )
  where
    later : Assigned
    later = record {
      node = next.node;
      choices = choices_of (slice_index state.sizes next.node) (next.choice ∷ []);
      level = level_of state.trail + 1;
      reason = Decided;
    }

    here : (trail : List Assigned)
        → ((other : ℕ) → other < slice_index state.sizes next.node
        → prefers next.node other (first_or (choices_of (slice_index state.sizes next.node) (next.choice ∷ [])).members 0) ≡ true → allows trail next.node other ≡ false)
        → (fact : List Term) × Contains facts fact × (is_asked trail next.node fact ≡ true)
        → IsChoice Decided prefers state.sizes facts trail (record {
          node = next.node;
          choices = choices_of (slice_index state.sizes next.node) (next.choice ∷ []);
          level = level_of state.trail + 1;
          reason = Decided;
        })
    here [] skips asked = tt
    here (entry ∷ before) skips asked = record { skips = skips; fact = asked.0; given = asked.1; asked = asked.2 }

-- ---- the end

-- a decision is the best
best_here : (reason : Reason) (prefers : Preference) (sizes : List ℕ) (incompats facts : List (List Term)) (before : List Assigned) (entry : Assigned)
    → AreFormed sizes incompats → IsReason reason sizes incompats before entry → IsTrail sizes incompats before
    → ((assignment : ℕ → ℕ) → IsAssignment sizes assignment → ViolatesNone facts assignment → ViolatesNone incompats assignment)
    → IsChoice reason prefers sizes facts before entry → IsBest reason prefers sizes facts before entry
best_here Decided prefers sizes incompats facts [] entry formed by is follows choice = tt
best_here Decided prefers sizes incompats facts (next ∷ before) entry formed by is follows choice = λ assignment assigns none agrees.
    skipped prefers sizes incompats facts entry (next ∷ before) assignment formed is choice by.known assigns (follows assignment assigns none) agrees
best_here (Derived number) prefers sizes incompats facts before entry formed by is follows choice = tt

-- and so is each of them
best : (prefers : Preference) (sizes : List ℕ) (incompats facts : List (List Term)) (trail : List Assigned) → AreFormed sizes incompats
    → IsTrail sizes incompats trail
    → ((assignment : ℕ → ℕ) → IsAssignment sizes assignment → ViolatesNone facts assignment → ViolatesNone incompats assignment)
    → AreChoices prefers sizes facts trail → NothingBetter prefers sizes facts trail
best prefers sizes incompats facts [] formed is follows are = tt
best prefers sizes incompats facts (entry ∷ before) formed is follows are = (
  best_here entry.reason prefers sizes incompats facts before entry formed is.0 is.1 follows are.0,
  best prefers sizes incompats facts before formed is.1 follows are.1,
)

-- what is selected is the first selection
pub selection_is : (prefers : Preference) (facts : List (List Term)) (rules : Rules) (state : State) → IsState facts state → IsHistory facts state
    → IsChosen prefers facts state → AreFirstRules prefers rules facts state → IsSettled state → rules.next state ≡ None → IsSelection prefers facts state
selection_is prefers facts rules state is history was firsts settled at = record {
  violates_none = λ fact there.
      let place = history.given fact there in
      let same : slice_index_or state.incompats place.0 [] ≡ fact
      = get_or_default state.incompats place.0 [] fact place.1 ∙ place.2 in
      let formed : IsFormed state.sizes fact = subst (IsFormed state.sizes) same (history.are.formed place.0 place.1) in
      let open_fact : holds state.sizes state.trail fact ≡ false
      = ap (holds state.sizes state.trail) (sym same) ∙ newest_none (holds state.sizes state.trail) 0 state.incompats settled.none_holds place.0 place.1 in
      chosen_violates_none state.sizes state.incompats state.trail fact is.stands formed (was.shaped fact there) open_fact
      (λ node asked. firsts.all settled at fact there node asked);
  choices = was.choices;
  first = best prefers state.sizes state.incompats facts state.trail is.formed is.stands is.follows was.choices;
}

-- each turn keeps the decisions, or selects the first
pub turn_chosen : (prefers : Preference) (facts : List (List Term)) (limits : Limits) (rules : Rules) (state : State) → IsState facts state → IsHistory facts state
    → IsChosen prefers facts state → AreRules limits rules facts state → AreFirstRules prefers rules facts state → IsChosenAfter prefers facts state (turn_of rules state)
turn_chosen prefers facts limits rules state is history was are firsts = turn_cases rules state (IsChosenAfter prefers facts state) (record {
  loads_root = λ other. load_chosen prefers facts rules state root_place is was firsts (rules.load state root_place) refl;
  loads = λ next settled at other. load_chosen prefers facts rules state next.place is was firsts (rules.load state next.place) refl;
  conflicts = λ number found.
      outcome_chosen prefers facts state number was
      (conflict state.sizes state.incompats state.trail (slice_index_or state.incompats number []) []);
  forces = λ forced quiet found. forced_chosen prefers facts state forced is was (forced_almost facts state forced is found);
  decides = λ next settled at loaded. decided_chosen prefers facts limits rules state next is history was are firsts settled at;
  selects = λ settled at. selection_is prefers facts rules state is history was firsts settled at;
})
