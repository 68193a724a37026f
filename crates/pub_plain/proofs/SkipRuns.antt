-- Along a run no release that is preferred to a decided one is left where it is decided.
use Rattle.std.proofs.Common.{◌≡◌, ℕ, zero, suc, true, false, List, [], ◌∷◌, ◌++◌, length, slice_index_or, Contains, Option, Some, None, refl, sym, ap, ◌∙◌, subst, inl, inr, not}
use Rattle.std.specs.List.Sorted.{IsStrictlySortedBy}
use Rattle.std.proofs.lemmas.Bool.{cases_Bool, cond-true}
use Rattle.std.proofs.lemmas.List.{get_or_append_left}
use Rattle.pub_facts.specs.Catalogue.{Job, Lookups, release_at}
use Rattle.pub_term.specs.declared.node.NodeName.{NodeName}
use Rattle.pub_term.specs.declared.node.NodeName.TheVariants.{Root, Package}
use Rattle.pub_trail.specs.First.{first_or}
use Rattle.pub_trail.specs.Invariant.{IsSettled}
use Rattle.pub_trail.specs.Trail.{allows, holds}
use Rattle.pub_trail.specs.Turn.{Brings, Conflict, Lacks, Learns, Loading, Needs, Next, Passes, Refuted, Refutes, Selected, State, TooWide, Turn, Went, after_conflict, after_load, conflict, conflict_or_force, is_loaded, newest_from, root_place, turn_of}
use Rattle.pub_trail.specs.declared.trail.Assigned.{Assigned}
use Rattle.pub_trail.specs.declared.trail.Place.{Place}
use Rattle.pub_trail.specs.declared.trail.Reason.TheVariants.{Decided}
use Rattle.pub_trail.proofs.TurnLemmas.{turn_cases}
use Rattle.spm_api.specs.declared.replies.Said.{Said}
use Rattle.spm_api.specs.declared.replies.Said.TheVariants as said
use Rattle.spm_key.specs.declared.key.Key.TheVariants as key
use Rattle.spm_version.specs.Release.{Parts}
use Rattle.spm_version.specs.ReleaseLaws.{release_cmp}
use Rattle.pub_plain.specs.Answers.{Answers, AreShort, lookups_by, releases_in}
use Rattle.pub_plain.specs.Choosing.{Pins, next_in, next_named}
use Rattle.pub_plain.specs.Invariant.{IsSolver}
use Rattle.pub_plain.specs.Loading.{name_at}
use Rattle.pub_plain.specs.Plain.{opening, plain_after, rules_of}
use Rattle.pub_plain.specs.Preferred.{AreAscending, prefers_by}
use Rattle.pub_plain.proofs.LoadedLemmas.{AreLoaded, run_loaded}
use Rattle.pub_plain.proofs.PreferredLemmas.{none_preferred}
use Rattle.pub_plain.proofs.RunLemmas.{run_before, run_solver}
use Rattle.pub_plain.proofs.SaidLemmas.{nothing_ascends}
use Rattle.pub_plain.proofs.SettledLemmas.{within_names}
use Rattle.pub_plain.proofs.StateLemmas.{AreMore, loaded_there}
use Rattle.pub_plain.proofs.StepKept.{choice_now, entry_of, found_named, next_found, package_first}
use Rattle.pub_plain.proofs.StepRuns.{derived_not, run_steps}
use Rattle.pub_plain.proofs.TrailLemmas.{AreEach, AreWithin, each_up_to}

-- no release that is preferred to the decided one is left
abbrev pub SkipsOf : Pins → Lookups → List NodeName → List Assigned → Assigned → Type 0
SkipsOf pins l names before entry = (identity : List ℕ) → name_at names entry.node ≡ Package identity → (release other : Parts) (k : ℕ)
    → release_at (l.list identity) (first_or entry.choices.members 0) ≡ Some release → release_at (l.list identity) k ≡ Some other
    → prefers_by pins identity other release ≡ true → allows before entry.node k ≡ false

-- so it is of each decision
abbrev pub AreSkips : Pins → Lookups → List NodeName → List Assigned → Type 0
AreSkips pins l names trail = AreEach (λ before entry. entry.reason ≡ Decided → SkipsOf pins l names before entry) trail

-- it is so over more names
skips_more : (pins : Pins) (l : Lookups) (names new : List NodeName) (trail : List Assigned) → AreWithin (length names) trail
    → AreSkips pins l names trail → AreSkips pins l (names ++ new) trail
skips_more pins l names new [] within are = tt
skips_more pins l names new (entry ∷ before) within are = (
  λ reason identity named. are.0 reason identity (sym (get_or_append_left names new Root entry.node within.0) ∙ named),
  skips_more pins l names new before within.1 are.1,
)

-- each list ascends
pub lists_ascend : (answers : Answers) → AreAscending answers → (identity : List ℕ)
    → IsStrictlySortedBy release_cmp ((lookups_by answers).list identity)
lists_ascend answers ascend identity = go (answers (key.List identity)) refl
  where
    go : (found : Option Said) → answers (key.List identity) ≡ found → IsStrictlySortedBy release_cmp (releases_in found)
    go None at = nothing_ascends
    go (Some (said.Releases list)) at = ascend identity list at
    go (Some said.TooMany) at = nothing_ascends
    go (Some (said.Package other)) at = nothing_ascends
    go (Some (said.Manifest contents)) at = nothing_ascends
    go (Some (said.FaultyManifest place kind)) at = nothing_ascends
    go (Some said.NoManifest) at = nothing_ascends
    go (Some said.Nothing) at = nothing_ascends

-- a decision skips what is preferred
skips_now : (job : Job) (pins : Pins) (answers : Answers) (state : State) (is : IsSolver answers state) → AreAscending answers
    → (loaded : AreLoaded job answers state) (more : AreMore job answers state) (settled : IsSettled state) (root : Contains state.loads root_place)
    (next : Next) → next_in pins (lookups_by answers) state ≡ Some next → SkipsOf pins (lookups_by answers) state.names state.trail
    (entry_of state next)
skips_now job pins answers state is ascend loaded more settled root next at identity named release other k at_choice at_k preferred =
    let l = lookups_by answers in
    let it = next_found pins l state next at in
    let same : it.found.1 ≡ Package identity = found_named job pins answers state is loaded more settled root next at ∙ named in
    let first = package_first pins l state.names state.trail it.found.0 identity next
    (ap (λ name. next_named pins l state.names state.trail it.found.0 name) (sym same) ∙ it.comes) in
    let choice = choice_now job pins answers state is loaded more settled root next at in
    ap (λ n. allows state.trail n k) first.node
    ∙ none_preferred pins identity (l.list identity) (allows state.trail it.found.0) next.choice k release other
    (lists_ascend answers ascend identity)
    first.first (ap (release_at (l.list identity)) (sym choice) ∙ at_choice) at_k preferred

-- ---- along a run

-- it is so after a turn that goes on
abbrev AreSkipsAfter : Pins → Lookups → Turn → Type 0
AreSkipsAfter pins l (Went next) = AreSkips pins l next.names next.trail
AreSkipsAfter pins l (Needs asked) = Unit {0}
AreSkipsAfter pins l (TooWide wide) = Unit {0}
AreSkipsAfter pins l Selected = Unit {0}
AreSkipsAfter pins l (Refuted terms first steps) = Unit {0}

-- a load keeps it
load_skips : (pins : Pins) (l : Lookups) (state : State) (place : Place) → AreWithin (length state.names) state.trail
    → AreSkips pins l state.names state.trail → (loading_it : Loading) → AreSkipsAfter pins l (after_load state place loading_it)
load_skips pins l state place within are (Lacks asked) = tt
load_skips pins l state place within are (Passes wide) = tt
load_skips pins l state place within are (Brings brings) = skips_more pins l state.names brings.names state.trail within are

-- a conflict does
conflict_skips : (pins : Pins) (l : Lookups) (state : State) (first : ℕ) → AreSkips pins l state.names state.trail → (outcome : Conflict)
    → AreSkipsAfter pins l (after_conflict state first outcome)
conflict_skips pins l state first are (Refutes terms steps) = tt
conflict_skips pins l state first are (Learns terms steps level) = each_up_to _ level state.trail are

-- each turn does
turn_skips : (job : Job) (pins : Pins) (answers : Answers) (state : State) → IsSolver answers state → AreAscending answers
    → AreLoaded job answers state
    → AreMore job answers state → AreSkips pins (lookups_by answers) state.names state.trail
    → AreSkipsAfter pins (lookups_by answers) (turn_of (rules_of job pins answers) state)
turn_skips job pins answers state is ascend loaded more are = elim (cases_Bool (is_loaded state root_place)) [
  | inl root ↦ turn_cases (rules_of job pins answers) state (AreSkipsAfter pins l) (record {
    loads_root = λ other. load_skips pins l state root_place within are ((rules_of job pins answers).load state root_place);
    loads = λ next settled at other. load_skips pins l state next.place within are ((rules_of job pins answers).load state next.place);
    conflicts = λ number found.
        conflict_skips pins l state number are
        (conflict state.sizes state.incompats state.trail (slice_index_or state.incompats number []) []);
    forces = λ forced quiet found. (λ reason. absurd (derived_not forced.number reason), are);
    decides = λ next settled at there. (
      λ reason. skips_now job pins answers state is ascend loaded more settled (loaded_there state.loads root_place root) next at,
      are,
    );
    selects = λ settled at. tt;
  })
  | inr other ↦
      subst (AreSkipsAfter pins l)
      (sym (cond-true (not (is_loaded state root_place)) _
      (conflict_or_force (rules_of job pins answers) state (newest_from (holds state.sizes state.trail) 0 state.incompats)) (ap not other)))
      (load_skips pins l state root_place within are ((rules_of job pins answers).load state root_place))
]
  where
    l : Lookups
    l = lookups_by answers

    within : AreWithin (length state.names) state.trail
    within = within_names job answers state is more

-- so it is at each state that a run goes to
pub run_skips : (job : Job) (pins : Pins) (answers : Answers) (n : ℕ) (state : State) → AreShort answers → AreAscending answers
    → plain_after job pins answers n ≡ Went state → AreSkips pins (lookups_by answers) state.names state.trail
run_skips job pins answers zero state short ascend went =
    let same : opening ≡ state = cc in
    subst (λ (s : State). AreSkips pins (lookups_by answers) s.names s.trail) same
    (λ reason identity named. let e : Root ≡ Package identity = named in cc, tt)
run_skips job pins answers (suc n) state short ascend went =
    let before = run_before (rules_of job pins answers) n (Went opening) state went in
    subst (AreSkipsAfter pins (lookups_by answers)) before.goes
    (turn_skips job pins answers before.state (run_solver job pins answers n before.state short before.went) ascend
    (run_loaded job pins answers n before.state short before.went) (run_steps job pins answers n before.state short before.went)
    (run_skips job pins answers n before.state short ascend before.went))
