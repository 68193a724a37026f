-- Where a solver selects, its pins are the first valid selection: over any answers that say more the run is the same, and no rival that keeps
-- the decisions before has a release that is preferred.
use Rattle.std.proofs.Common.{◌≡◌, ◌≢◌, ℕ, Bool, true, List, ◌∷◌, Some, None, sym, ap, ◌∙◌, subst, arith}
use Rattle.std.specs.List.Sorted.{IsStrictlySortedBy}
use Rattle.pub_facts.specs.Assigns.{Agrees, Shows, selection_of}
use Rattle.pub_facts.specs.Catalogue.{Catalogue, Job, Lookups, Owner, release_at}
use Rattle.pub_facts.specs.Enabled.{Enabled, Selection, world_of}
use Rattle.pub_facts.specs.Facts.{trait_node}
use Rattle.pub_facts.specs.First.{Includes, IsFirst}
use Rattle.pub_facts.specs.Numbered.{number_in}
use Rattle.pub_facts.specs.Valid.{IsValid}
use Rattle.pub_facts.proofs.Sets.{trait_below}
use Rattle.pub_term.specs.declared.node.NodeName.{NodeName}
use Rattle.pub_term.specs.declared.node.NodeName.TheVariants.{Root, RootTrait, Package, PackageTrait}
use Rattle.pub_trail.specs.Turn.{Selected, State, Went, turn_of}
use Rattle.spm_version.specs.Release.{Parts}
use Rattle.spm_version.specs.ReleaseLaws.{release_cmp}
use Rattle.pub_plain.specs.Answers.{Answers, AreShort, Carries, catalogue_by, lookups_by}
use Rattle.pub_plain.specs.Choosing.{Pins, pin_of}
use Rattle.pub_plain.specs.Derivation.{pins_in}
use Rattle.pub_plain.specs.Invariant.{IsListed, IsSolver}
use Rattle.pub_plain.specs.Plain.{plain_after, rules_of}
use Rattle.pub_plain.specs.Preferred.{AreAscending, IsWider, prefers_by}
use Rattle.pub_plain.proofs.BestLemmas.{best_of}
use Rattle.pub_plain.proofs.Decisions.{AreSteps, Decision, IsTail, chosen_at, package_decision}
use Rattle.pub_plain.proofs.GrownLemmas.{grown, some_chosen, steps_reached, steps_sized}
use Rattle.pub_plain.proofs.LoadedLemmas.{AreLoaded, run_loaded}
use Rattle.pub_plain.proofs.MoreLemmas.{each_name}
use Rattle.pub_plain.proofs.NoneLemmas.{none_violated, number_below}
use Rattle.pub_plain.proofs.PartLemmas.{NextStep, next_choice, next_step, synced, whole_valid}
use Rattle.pub_plain.proofs.PinsLemmas.{pins_selected}
use Rattle.pub_plain.proofs.PreferredLemmas.{choice_once}
use Rattle.pub_plain.proofs.ReachedLemmas.{in_trait}
use Rattle.pub_plain.proofs.RulesLemmas.{name_of_number}
use Rattle.pub_plain.proofs.RunLemmas.{run_same, run_solver}
use Rattle.pub_plain.proofs.SameReadLemmas.{listed_same}
use Rattle.pub_plain.proofs.SelectsLemmas.{selected_agrees}
use Rattle.pub_plain.proofs.SettledLemmas.{choices_made, decided_named, some_decided, steps_made, within_names}
use Rattle.pub_plain.proofs.ShownLemmas.{IsEnabled, IsNamed, Tells, shown, shows, told_of}
use Rattle.pub_plain.proofs.SkipRuns.{AreSkips, lists_ascend, run_skips}
use Rattle.pub_plain.proofs.StateLemmas.{AreMore}
use Rattle.pub_plain.proofs.StepRuns.{run_steps}
use Rattle.pub_plain.proofs.TailLemmas.{keeps_tail, release_some, tail_steps}
use Rattle.pub_plain.proofs.TrailLemmas.{decisions_of}

-- ---- a rival, over answers that say more

module _ (job : Job) (pins : Pins) (answers wide : Answers) (state : State) (ascend : AreAscending answers) (carries : Carries answers wide)
    (is : IsSolver answers state) (more : AreMore job answers state) (skips : AreSkips pins (lookups_by answers) state.names state.trail)
    (is_wide : IsSolver wide state) (loaded_wide : AreLoaded job wide state) (more_wide : AreMore job wide state) (rival : Selection)
    (valid : IsValid job (catalogue_by wide) rival) (test : NodeName → Bool)
    (tells : Tells (IsEnabled (world_of job (catalogue_by wide) rival)) state.names test) where
  -- the catalogue that says more
  abbrev d : Catalogue
  d = catalogue_by wide

  -- what the lists that were said are
  abbrev l : Lookups
  l = lookups_by answers

  -- the decisions of the state
  abbrev decisions : List Decision
  decisions = decisions_of state.names state.trail

  -- the rival's assignment
  abbrev at_rival : NodeName → ℕ
  at_rival = shown job d rival valid test

  -- shows it
  shows_rival : Shows job d rival (IsNamed state.names) at_rival
  shows_rival = shows job d rival valid test state.names tells

  -- a package that is named has one list
  same_list : (identity : List ℕ) → IsNamed state.names (Package identity) → l.list identity ≡ d.lookups.list identity
  same_list identity named =
      listed_same answers wide carries (Some identity)
      (subst (IsListed answers) (name_of_number state.names (Package identity) named)
      (each_name (IsListed answers) state.names is.listed tt (number_in state.names (Package identity))))

  -- what is decided at the end is named
  end_named : (node : NodeName) → chosen_at decisions node ≢ 0 → IsNamed state.names node
  end_named node some =
      decided_named job answers state is more node
      (some_decided job answers state is more node
      (λ none. some (ap (λ (choices : NodeName → ℕ). choices node) (choices_made job answers state is more) ∙ none)))

  module _ (one : Decision) (before : List Decision) (tail : IsTail decisions (one ∷ before))
      (includes : (identity : List ℕ) (release : Parts)
      → release_at (l.list identity) (chosen_at (one ∷ before) (Package identity)) ≡ Some release → rival identity ≡ Some release) where
    -- the choices then
    abbrev at_then : NodeName → ℕ
    at_then = chosen_at (one ∷ before)

    -- they were decided step by step, over what says more too
    steps_then : AreSteps job d (one ∷ before)
    steps_then = tail_steps job d decisions (steps_made job wide state is_wide more_wide) one before tail

    -- what was decided then is named
    then_named : (node : NodeName) → at_then node ≢ 0 → IsNamed state.names node
    then_named node some =
        end_named node
        (λ none. some (sym (keeps_tail job d decisions (steps_made job wide state is_wide more_wide) one before tail node some) ∙ none))

    -- the rival includes what was selected then
    includes_then : Includes rival (selection_of d at_then)
    includes_then identity release selected =
        includes identity release
        (ap (λ list. release_at list (at_then (Package identity)))
        (same_list identity (then_named (Package identity) (some_chosen (d.lookups.list identity) (at_then (Package identity)) release selected)))
        ∙ selected)

    -- a trait that was on is on
    switch_kept : (owner : Owner) (name : List ℕ) → at_then (trait_node owner name) ≢ 0
        → at_rival (trait_node owner name) ≡ at_then (trait_node owner name)
    switch_kept owner name some =
        let reached = steps_reached job d (one ∷ before) steps_then in
        let enabled = in_trait (world_of job d (selection_of d at_then)) owner name (reached.nodes (trait_node owner name) some) in
        let over = grown job d (selection_of d at_then) rival includes_then (Enabled owner name) enabled in
        let is_on : at_rival (trait_node owner name) ≡ 1
        = shows_rival.switched owner name (then_named (trait_node owner name) some) over in
        let below = trait_below d at_then owner name (steps_sized job d (one ∷ before) steps_then) in
        let now : at_then (trait_node owner name) ≡ 1 = omega (arith, below, some) in
        is_on ∙ sym now

    -- and a package that was decided is at its release
    package_kept : (identity : List ℕ) → at_then (Package identity) ≢ 0 → at_rival (Package identity) ≡ at_then (Package identity)
    package_kept identity some =
        let list = d.lookups.list identity in
        let sorted : IsStrictlySortedBy release_cmp list
        = subst (IsStrictlySortedBy release_cmp) (same_list identity (then_named (Package identity) some)) (lists_ascend answers ascend identity) in
        let there = release_some list (at_then (Package identity)) some (steps_sized job d (one ∷ before) steps_then (Package identity)) in
        choice_once list there.0 (at_rival (Package identity)) (at_then (Package identity)) sorted
        (shows_rival.versions identity ∙ includes_then identity there.0 there.1) there.1

    -- so the rival keeps what was decided
    keeps_then : (node : NodeName) → at_then node ≢ 0 → at_rival node ≡ at_then node
    keeps_then Root some = shows_rival.root ∙ sym (steps_reached job d (one ∷ before) steps_then).root
    keeps_then (RootTrait name) some = switch_kept None name some
    keeps_then (Package identity) some = package_kept identity some
    keeps_then (PackageTrait identity name) some = switch_kept (Some identity) name some

    -- and has no release that is preferred to the next
    pub rival_refuted : (identity : List ℕ) (choice : ℕ) (release other : Parts) → IsTail decisions (package_decision identity choice ∷ one ∷ before)
        → chosen_at decisions (Package identity) ≡ choice → release_at (l.list identity) choice ≡ Some release → rival identity ≡ Some other
        → prefers_by pins identity other release ≡ true → ⊥
    rival_refuted identity choice release other tail_after at_end at_choice has preferred =
        let named = end_named (Package identity)
        (λ none. some_chosen (l.list identity) choice release at_choice (sym at_end ∙ none)) in
        best_of job (catalogue_by answers) state.names is.apart state.sizes state.incompats pins l is.is.formed state.trail is.is.stands
        (within_names job answers state is more) more.steps skips identity choice one before tail_after at_rival
        (number_below job wide state is_wide loaded_wide rival valid at_rival shows_rival)
        (none_violated job wide state is_wide loaded_wide rival valid at_rival shows_rival) keeps_then release other at_choice
        (ap (λ list. release_at list (at_rival (Package identity))) (same_list identity named) ∙ shows_rival.versions identity ∙ has) preferred

-- ---- the law

-- where a solver selects, its pins are the first valid selection
pub selection_first : (job : Job) (pins : Pins) (answers : Answers) (n : ℕ) (state : State) → AreShort answers → AreAscending answers
    → plain_after job pins answers n ≡ Went state → turn_of (rules_of job pins answers) state ≡ Selected
    → IsFirst (prefers_by pins) (IsWider answers) job (catalogue_by answers) (pin_of (pins_in (lookups_by answers) state))
selection_first job pins answers n state short ascend went selects = record {
  valid = whole_valid job c decisions steps agrees whole same_whole;
  skips = λ part identity release other is_part is_next selected listed preferred wider extends rival valid includes has.
      let found = next_step job c decisions steps agrees whole same_whole part identity release is_next selected
      (synced job c decisions steps agrees whole same_whole part is_part) in
      refuted part identity release other found selected preferred extends.more extends.carries extends.short rival
      (subst (λ d. IsValid job d rival) extends.is valid) includes has;
}
  where
    c : Catalogue
    c = catalogue_by answers

    whole : Selection
    whole = pin_of (pins_in (lookups_by answers) state)

    decisions : List Decision
    decisions = decisions_of state.names state.trail

    is : IsSolver answers state
    is = run_solver job pins answers n state short went

    more : AreMore job answers state
    more = run_steps job pins answers n state short went

    steps : AreSteps job c decisions
    steps = steps_made job answers state is more

    agrees : Agrees job c (chosen_at decisions)
    agrees = selected_agrees job pins answers state is more selects

    same_whole : (identity : List ℕ) → whole identity ≡ selection_of c (chosen_at decisions) identity
    same_whole = pins_selected job answers state is more

    refuted : (part : Selection) (identity : List ℕ) (release other : Parts)
        → (found : NextStep job c decisions steps agrees whole same_whole part identity) → whole identity ≡ Some release
        → prefers_by pins identity other release ≡ true → (wide : Answers) → Carries answers wide → AreShort wide → (rival : Selection)
        → IsValid job (catalogue_by wide) rival → Includes rival part → rival identity ≡ Some other → ⊥
    refuted part identity release other found selected preferred wide carries small rival valid includes has =
        let same : plain_after job pins wide n ≡ Went state = run_same job pins answers wide n state short small carries went in
        let at_end : chosen_at decisions (Package identity) ≡ found.choice
        = next_choice job c decisions steps agrees whole same_whole part identity found in
        told_of (IsEnabled (world_of job (catalogue_by wide) rival)) state.names
        (λ test tells.
        rival_refuted job pins answers wide state ascend carries is more (run_skips job pins answers n state short ascend went)
        (run_solver job pins wide n state small same) (run_loaded job pins wide n state small same) (run_steps job pins wide n state small same) rival
        valid test tells found.one found.before found.tail
        (λ other_identity its there. includes other_identity its (found.equal other_identity ∙ there))
        identity found.choice release other found.tail_after at_end
        (ap (release_at ((lookups_by answers).list identity)) (sym at_end) ∙ sym (same_whole identity) ∙ selected) has preferred)
