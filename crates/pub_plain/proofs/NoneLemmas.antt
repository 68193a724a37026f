-- Where a solver refutes, there is no valid selection: the assignment that shows one would violate no fact of the loads, and so not the
-- refutation, which each assignment with the root chosen violates.
use Rattle.std.proofs.Common.{◌≡◌, ℕ, ◌<◌, true, false, List, [], ◌∷◌, length, slice_index, slice_index_or, Contains, is_some, Option, Some, None, refl, sym, ap, ◌∙◌, subst, arith, eqb-true}
use Rattle.std.proofs.lemmas.Bool.{and_parts, cond_both, false≢true}
use Rattle.pub_set.specs.Choices.{ChoiceSet}
use Rattle.pub_facts.specs.Assigns.{Shows}
use Rattle.pub_facts.specs.Catalogue.{Catalogue, Job, Lookups, Owner, contents_at, release_at, version_in}
use Rattle.pub_facts.specs.Enabled.{Selection, world_of}
use Rattle.pub_facts.specs.Facts.{Load, facts_of}
use Rattle.pub_facts.specs.Known.{IsThere}
use Rattle.pub_facts.specs.Numbered.{number_in, sizes_of}
use Rattle.pub_facts.specs.Valid.{IsValid}
use Rattle.pub_facts.specs.declared.fact.Fact.{Fact}
use Rattle.pub_facts.proofs.FactLemmas.{sizes_length}
use Rattle.pub_facts.proofs.FirstLaw.{first_law}
use Rattle.pub_facts.proofs.Members.{contains_head, contains_nothing, contains_tail}
use Rattle.pub_term.specs.Term.{violates}
use Rattle.pub_term.specs.declared.cause.Cause.{Cause}
use Rattle.pub_term.specs.declared.node.NodeName.{NodeName}
use Rattle.pub_term.specs.declared.term.Term.{Term}
use Rattle.pub_trail.specs.Invariant.{IsAssignment, ViolatesNone}
use Rattle.pub_trail.specs.Required.{loaded_facts}
use Rattle.pub_trail.specs.Trail.{allows}
use Rattle.pub_trail.specs.Turn.{Refuted, State, Step, Went, turn_of}
use Rattle.pub_trail.proofs.OpeningLemmas.{refutation_violated}
use Rattle.pub_trail.proofs.TurnLemmas.{conflict_asked}
use Rattle.spm_version.specs.Release.{Parts}
use Rattle.pub_plain.specs.Answers.{Answers, AreShort, Carries, catalogue_by, lookups_by}
use Rattle.pub_plain.specs.Choosing.{Pins}
use Rattle.pub_plain.specs.Invariant.{IsSolver}
use Rattle.pub_plain.specs.Loading.{facts_at, is_loadable, is_there, is_usable_under, load_at, name_at}
use Rattle.pub_plain.specs.Plain.{plain_after, rules_of}
use Rattle.pub_plain.specs.Stops.{IsStill}
use Rattle.pub_plain.proofs.BroughtLemmas.{size_named}
use Rattle.pub_plain.proofs.LoadedLemmas.{AreLoaded, IsOfLoad, loaded_given, run_loaded}
use Rattle.pub_plain.proofs.MoreLemmas.{same_turn}
use Rattle.pub_plain.proofs.NumberedLemmas.{fact_violated}
use Rattle.pub_plain.proofs.RefutedLemmas.{refuted_by}
use Rattle.pub_plain.proofs.RootLemmas.{EndsAtRoot, IsHeldAtRoot, conflict_ends, root_left}
use Rattle.pub_plain.proofs.RulesLemmas.{name_of_number}
use Rattle.pub_plain.proofs.RunLemmas.{run_same, run_solver}
use Rattle.pub_plain.proofs.SameFactLemmas.{at_where}
use Rattle.pub_plain.proofs.ShownLemmas.{IsEnabled, IsNamed, shown, shows, told_of}

-- ---- a fact that a load brings

-- a choice that passes the test of the range is in range
there_from : (l : Lookups) (owner : Owner) (choice : ℕ) → is_there l owner choice ≡ true → IsThere l owner choice
there_from l None choice is = eqb-true choice 1 is
there_from l (Some identity) choice is = go (release_at (l.list identity) choice) refl is
  where
    go : (found : Option Parts) → release_at (l.list identity) choice ≡ found → is_some found ≡ true → IsThere l (Some identity) choice
    go None at none = absurd (false≢true none)
    go (Some release) at some = (release, at)

-- a load that brings a fact is in range, and the fact is one of its own
pub record IsOwnFact (job : Job) (c : Catalogue) (load : Load) (one : Fact) : Type 0 where
  pub there : IsThere c.lookups load.owner load.choice
  pub given : Contains (facts_of job c load) one

-- each fact that it brings is so
pub own_fact : (job : Job) (c : Catalogue) (load : Load) (one : Fact) → Contains (facts_at job c load) one → IsOwnFact job c load one
own_fact job c load one =
    cond_both (is_loadable job c load) (facts_of job c load) [] (λ facts. Contains facts one → IsOwnFact job c load one)
    (λ loadable here. record {
      there = there_from c.lookups load.owner load.choice
          (and_parts (is_there c.lookups load.owner load.choice)
          (is_usable_under load.under (contents_at job c load.owner (version_in c.lookups load.owner load.choice))) loadable).0;
      given = here;
    })
    (λ _ none. absurd (contains_nothing one none))

-- ---- an assignment by numbers

-- the choice of the node of a number
abbrev pub by_number : List NodeName → (NodeName → ℕ) → ℕ → ℕ
by_number names at number = at (name_at names number)

-- where each of some facts isn't violated, none is
all_unviolated : (facts : List (List Term)) (assignment : ℕ → ℕ) → ((terms : List Term) → Contains facts terms → violates assignment terms ≡ false)
    → ViolatesNone facts assignment
all_unviolated [] assignment each = tt
all_unviolated (terms ∷ facts) assignment each =
    (each terms (contains_head terms facts), all_unviolated facts assignment (λ other there. each other (contains_tail terms other facts there)))

module _ (job : Job) (answers : Answers) (state : State) (is : IsSolver answers state) (are : AreLoaded job answers state) (selection : Selection)
    (valid : IsValid job (catalogue_by answers) selection) (at : NodeName → ℕ)
    (shown_by : Shows job (catalogue_by answers) selection (IsNamed state.names) at) where
  -- each number has one of the choices of its node
  pub number_below : IsAssignment state.sizes (by_number state.names at)
  number_below node known =
      let l = lookups_by answers in
      let long : length state.sizes ≡ length state.names = ap (λ (s : List ℕ). length s) is.sizes ∙ sizes_length l state.names in
      let named : node < length state.names = omega (arith, known, long) in
      subst (λ sizes. at (name_at state.names node) < slice_index sizes node) (sym is.sizes)
      (subst (λ size. at (name_at state.names node) < size) (sym (size_named l state.names node named)) (shown_by.sized (name_at state.names node)))

  -- no fact of a load that was done is violated
  fact_unviolated : (terms : List Term) (cause : Cause) → IsOfLoad job answers state.names state.loads terms cause
      → violates (by_number state.names at) terms ≡ false
  fact_unviolated terms cause it =
      let c = catalogue_by answers in
      let load = load_at state.names it.place in
      let own = own_fact job c load it.fact it.given in
      fact_violated (number_in state.names) (by_number state.names at) at it.fact terms
      (λ term there. (
        ap at (name_of_number state.names term.node (it.named term there)),
        subst (λ size. at term.node < size)
            (sym (ap (λ (set : ChoiceSet). set.size) (at_where job c load it.fact term it.given there).is)) (shown_by.sized term.node),
      )) it.is
      ∙ first_law job c selection (IsNamed state.names) at valid shown_by load own.there it.fact own.given (λ term there. it.named term there)

  -- so none of the incompatibilities is
  pub none_violated : ViolatesNone state.incompats (by_number state.names at)
  none_violated =
      are.follows (by_number state.names at) number_below
      (all_unviolated (loaded_facts state.incompats state.origins) (by_number state.names at)
      (λ terms there.
      let loaded = loaded_given (IsOfLoad job answers state.names state.loads) state.incompats state.origins terms are.given there in
      fact_unviolated terms loaded.0 loaded.1))

  -- and the turn doesn't refute
  never_refuted : (pins : Pins) (terms : List Term) (first : ℕ) (steps : List Step)
      → turn_of (rules_of job pins answers) state ≡ Refuted terms first steps → ⊥
  never_refuted pins terms first steps refutes =
      let assignment = by_number state.names at in
      let by = refuted_by (rules_of job pins answers) state terms first steps refutes in
      let ended : IsHeldAtRoot state.sizes state.incompats terms
      = subst (EndsAtRoot state.sizes state.incompats) by.refutes
      (conflict_ends state.sizes state.incompats state.trail (slice_index_or state.incompats first []) []
      (conflict_asked is.facts state first is.is by.found) (root_left answers state is)) in
      let root : assignment 0 ≡ 1 = ap (λ names. at (name_at names 0)) is.rooted ∙ shown_by.root in
      let some : 0 < length state.sizes
      = subst (λ (sizes : List ℕ). 0 < length sizes) (sym (is.sizes ∙ ap (sizes_of (lookups_by answers)) is.rooted)) (omega arith) in
      false≢true (sym (ended.asked.follows assignment number_below none_violated)
      ∙ refutation_violated state.sizes state.incompats ended.trail terms assignment ended.asked ended.root (number_below 0 some)
      (subst (λ choice. allows ended.trail 0 choice ≡ true) (sym root) ended.left))

-- ---- the law

-- where a solver refutes, no selection is valid, whatever more is said of keys
pub none_valid : (job : Job) (pins : Pins) (answers more : Answers) (n : ℕ) (state : State) (terms : List Term) (first : ℕ) (steps : List Step)
    (selection : Selection) → AreShort answers → AreShort more → Carries answers more → plain_after job pins answers n ≡ Went state
    → turn_of (rules_of job pins answers) state ≡ Refuted terms first steps → IsValid job (catalogue_by more) selection → ⊥
none_valid job pins answers more n state terms first steps selection short small carries went refutes valid =
    let c = catalogue_by more in
    let same : plain_after job pins more n ≡ Went state = run_same job pins answers more n state short small carries went in
    let refutes_too : turn_of (rules_of job pins more) state ≡ Refuted terms first steps
    = same_turn job pins answers more carries state (run_solver job pins answers n state short went) (subst (IsStill more) (sym refutes) tt) ∙ refutes in
    told_of (IsEnabled (world_of job c selection)) state.names
    (λ test tells.
    never_refuted job more state (run_solver job pins more n state small same) (run_loaded job pins more n state small same) selection valid
    (shown job c selection valid test) (shows job c selection valid test state.names tells) pins terms first steps refutes_too)
