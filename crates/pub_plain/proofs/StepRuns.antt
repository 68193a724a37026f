-- Along a run each decision is a step whose load is done, what loads bring is among the facts, and no release that is preferred is left.
use Rattle.std.proofs.Common.{◌≡◌, ℕ, zero, suc, ◌<◌, true, not, List, [], ◌∷◌, ◌++◌, map, length, slice_index_or, Contains, refl, sym, ap, ◌∙◌, subst, inl, inr, arith, length-append}
use Rattle.std.proofs.lemmas.Bool.{cases_Bool, cond-true, false≢true}
use Rattle.std.proofs.lemmas.List.{get_or_append_left}
use Rattle.std.proofs.lemmas.List.Elements.{Contains-append_cases, Contains-append_left, Contains-append_right}
use Rattle.pub_facts.specs.Catalogue.{Catalogue, Job}
use Rattle.pub_facts.specs.Facts.{load_of, owner_node}
use Rattle.pub_facts.specs.Numbered.{incompat_in, number_in, numbered}
use Rattle.pub_facts.specs.declared.fact.Fact.{Fact}
use Rattle.pub_facts.proofs.FactLemmas.{written_there}
use Rattle.pub_facts.proofs.Members.{contains_map, contains_nothing, contains_one}
use Rattle.pub_facts.proofs.NamedLemmas.{facts_are_named}
use Rattle.pub_term.specs.Node.{package_of}
use Rattle.pub_term.specs.declared.node.NodeName.{NodeName}
use Rattle.pub_term.specs.declared.node.NodeName.TheVariants.{Root}
use Rattle.pub_term.specs.declared.term.Term.{Term}
use Rattle.pub_trail.specs.First.{chosen}
use Rattle.pub_trail.specs.Required.{loaded_facts}
use Rattle.pub_trail.specs.Trail.{holds, is_decided}
use Rattle.pub_trail.specs.Turn.{Brings, Conflict, Lacks, Learns, Loading, Needs, Passes, Refuted, Refutes, Selected, State, TooWide, Turn, Went, after_conflict, after_load, conflict, conflict_or_force, is_loaded, newest_from, root_place, turn_of}
use Rattle.pub_trail.specs.declared.origin.Origin.TheVariants.{OfLoad}
use Rattle.pub_trail.specs.declared.trail.Assigned.{Assigned}
use Rattle.pub_trail.specs.declared.trail.Place.{Place}
use Rattle.pub_trail.specs.declared.trail.Reason.TheVariants.{Decided, Derived}
use Rattle.pub_trail.proofs.TurnLemmas.{turn_cases}
use Rattle.pub_plain.specs.Answers.{Answers, AreShort, catalogue_by, lookups_by}
use Rattle.pub_plain.specs.Choosing.{Pins, owner_number}
use Rattle.pub_plain.specs.Invariant.{IsSolver}
use Rattle.pub_plain.specs.Loading.{brought, cause_of, facts_at, load_at, loading, name_at, named_first, terms_of}
use Rattle.pub_plain.specs.Plain.{opening, plain_after, rules_of}
use Rattle.pub_plain.proofs.ApartLemmas.{number_more}
use Rattle.pub_plain.proofs.DoneLemmas.{IsAmong}
use Rattle.pub_plain.proofs.LoadedLemmas.{AreLoaded, IsOfLoad, loaded_all, loaded_append, loaded_learned, run_loaded, some_names, terms_more, to_numbered}
use Rattle.pub_plain.proofs.NextLemmas.{next_is}
use Rattle.pub_plain.proofs.ReadLemmas.{loading_read}
use Rattle.pub_plain.proofs.RunLemmas.{run_before, run_solver}
use Rattle.pub_plain.proofs.SettledLemmas.{within_names}
use Rattle.pub_plain.proofs.StateLemmas.{AreDoneOf, AreMore, IsDoneAt, IsPlaceBrought, decided_cases, loaded_there, place_of}
use Rattle.pub_plain.proofs.StepKept.{done_kept, step_kept}
use Rattle.pub_plain.proofs.TrailLemmas.{AreWithin, each_up_to, steps_more}

-- ---- over more names and loads

-- what is decided is on one of so many nodes
decided_within : (count : ℕ) (trail : List Assigned) (node : ℕ) → AreWithin count trail → is_decided trail node ≡ true → node < count
decided_within count [] node within decided = absurd (false≢true decided)
decided_within count (entry ∷ before) node within decided = elim (decided_cases entry before node decided) [
  | inl its ↦ subst (λ n. n < count) its.1 within.0
  | inr earlier ↦ decided_within count before node within.1 earlier
]

-- the owner of a decided node keeps its number
owner_more : (names new : List NodeName) (trail : List Assigned) (node : ℕ) → node < length names → AreWithin (length names) trail
    → is_decided trail (owner_number names (name_at names node)) ≡ true
    → owner_number (names ++ new) (name_at (names ++ new) node) ≡ owner_number names (name_at names node)
owner_more names new trail node below within owned =
    ap (owner_number (names ++ new)) (get_or_append_left names new Root node below)
    ∙ number_more names new (owner_node (package_of (name_at names node)))
    (decided_within (length names) trail (owner_number names (name_at names node)) within owned)

-- a load that is done stays so
done_at_more : (names new : List NodeName) (loads others : List Place) (trail : List Assigned) (node : ℕ) → node < length names
    → AreWithin (length names) trail → IsDoneAt names loads trail node → IsDoneAt (names ++ new) (loads ++ others) trail node
done_at_more names new loads others trail node below within done =
    let same = owner_more names new trail node below within done.owned in
    record {
      owned = ap (is_decided trail) same ∙ done.owned;
      there = subst (λ choice. Contains (loads ++ others) (record { node = node; choice = choice })) (sym (ap (chosen trail) same))
          (Contains-append_left loads others (place_of names trail node) done.there);
    }

-- and so do all
done_more : (names new : List NodeName) (loads others : List Place) (trail : List Assigned) → AreWithin (length names) trail
    → AreDoneOf names loads trail → AreDoneOf (names ++ new) (loads ++ others) trail
done_more names new loads others [] within are = tt
done_more names new loads others (entry ∷ []) within are = (λ reason. tt, tt)
done_more names new loads others (entry ∷ next ∷ before) within are = (
  λ reason. done_at_more names new loads others (entry ∷ next ∷ before) entry.node within.0 within (are.0 reason),
  done_more names new loads others (next ∷ before) within.1 are.1,
)

-- a fact stays among more
among_more : (names new : List NodeName) (facts others : List (List Term)) (one : Fact) → IsAmong names facts one
    → IsAmong (names ++ new) (facts ++ others) one
among_more names new facts others one among = record {
  named = λ term there.
      let below = among.named term there in
      omega (arith, below, number_more names new term.node below, length-append names new);
  given = λ terms is.
      Contains-append_left facts others terms
      (among.given terms (sym (ap incompat_in (terms_more names new one.terms among.named)) ∙ is));
}

-- what a place brought stays among more
place_more : (job : Job) (c : Catalogue) (names new : List NodeName) (facts others : List (List Term)) (place : Place)
    → IsPlaceBrought job c names facts place → IsPlaceBrought job c (names ++ new) (facts ++ others) place
place_more job c names new facts others place is =
    let known = is.known in
    record {
      known = omega (arith, known, length-append names new);
      each = λ one here.
          among_more names new facts others one
          (is.each one (subst (λ name. Contains (facts_at job c (load_of name place.choice)) one)
          (get_or_append_left names new Root place.node is.known) here));
    }

-- what a place brings is among the facts
place_new : (job : Job) (c : Catalogue) (names : List NodeName) (facts : List (List Term)) (place : Place) → place.node < length names
    → IsPlaceBrought job c (names ++ named_first job c names (load_at names place))
    (facts ++ map terms_of
    (numbered (number_in (names ++ named_first job c names (load_at names place))) (facts_at job c (load_at names place)))) place
place_new job c names facts place known =
    let new = named_first job c names (load_at names place) in
    let its = facts_at job c (load_at names place) in
    let all = numbered (number_in (names ++ new)) its in
    record {
      known = omega (arith, known, length-append names new);
      each = λ one here.
          let there : Contains its one
          = subst (λ name. Contains (facts_at job c (load_of name place.choice)) one) (get_or_append_left names new Root place.node known) here in
          record {
            named = λ term in_terms. facts_are_named names its term.node (written_there its one term there in_terms);
            given = λ terms is.
                Contains-append_right facts (map terms_of all) terms
                (contains_map terms_of all (record { terms = terms }, one.cause) (to_numbered (number_in (names ++ new)) its one terms there is));
          };
    }

-- ---- along a run

-- it is so after a turn that goes on
abbrev AreMoreAfter : Job → Answers → Turn → Type 0
AreMoreAfter job answers (Went next) = AreMore job answers next
AreMoreAfter job answers (Needs asked) = Unit {0}
AreMoreAfter job answers (TooWide wide) = Unit {0}
AreMoreAfter job answers Selected = Unit {0}
AreMoreAfter job answers (Refuted terms first steps) = Unit {0}

-- a load keeps it, by what it brings
brought_more : (job : Job) (answers : Answers) (state : State) (place : Place) → IsSolver answers state → AreLoaded job answers state
    → AreMore job answers state → place.node < length state.names
    → AreMoreAfter job answers
    (after_load state place
    (Brings (brought (lookups_by answers) (named_first job (catalogue_by answers) state.names (load_at state.names place))
    (numbered (number_in (state.names ++ named_first job (catalogue_by answers) state.names (load_at state.names place)))
    (facts_at job (catalogue_by answers) (load_at state.names place))))))
brought_more job answers state place is loaded more known =
    let c = catalogue_by answers in
    let load = load_at state.names place in
    let new = named_first job c state.names load in
    let all = numbered (number_in (state.names ++ new)) (facts_at job c load) in
    let within = within_names job answers state is more in
    let facts : loaded_facts (state.incompats ++ map terms_of all) (state.origins ++ map OfLoad (map cause_of all))
    ≡ loaded_facts state.incompats state.origins ++ map terms_of all
    = loaded_append (IsOfLoad job answers state.names state.loads) state.incompats (map terms_of all) state.origins (map OfLoad (map cause_of all))
    loaded.given
    ∙ ap (λ others. loaded_facts state.incompats state.origins ++ others) (loaded_all all) in
    record {
      steps = steps_more job c state.names new state.trail within more.steps;
      done = done_more state.names new state.loads (place ∷ []) state.trail within more.done;
      brought = λ other there.
          subst (λ fs. IsPlaceBrought job c (state.names ++ new) fs other) (sym facts)
          (elim (Contains-append_cases state.loads (place ∷ []) other there) [
            | inl earlier ↦ place_more job c state.names new (loaded_facts state.incompats state.origins) (map terms_of all) other
                (more.brought other earlier)
            | inr now ↦
                subst
                (IsPlaceBrought job c (state.names ++ new) (loaded_facts state.incompats state.origins ++ map terms_of all))
                (contains_one place other now) (place_new job c state.names (loaded_facts state.incompats state.origins) place known)
          ]);
    }

-- a load keeps it
load_more : (job : Job) (answers : Answers) (state : State) (place : Place) → IsSolver answers state → AreLoaded job answers state
    → AreMore job answers state → place.node < length state.names → (loading_it : Loading)
    → loading job answers state.names (load_at state.names place) ≡ loading_it → AreMoreAfter job answers (after_load state place loading_it)
load_more job answers state place is loaded more known (Lacks asked) at = tt
load_more job answers state place is loaded more known (Passes wide) at = tt
load_more job answers state place is loaded more known (Brings brings) at =
    let it = loading_read job answers state.names (load_at state.names place) brings at in
    subst (λ all. AreMoreAfter job answers (after_load state place (Brings all))) (sym it.is)
    (brought_more job answers state place is loaded more known)

-- a conflict does
conflict_more : (job : Job) (answers : Answers) (state : State) (first : ℕ) → AreLoaded job answers state → AreMore job answers state
    → (outcome : Conflict) → AreMoreAfter job answers (after_conflict state first outcome)
conflict_more job answers state first loaded more (Refutes terms steps) = tt
conflict_more job answers state first loaded more (Learns terms steps level) = record {
  steps = each_up_to _ level state.trail more.steps;
  done = each_up_to _ level state.trail more.done;
  brought = λ place there.
      subst (λ facts. IsPlaceBrought job (catalogue_by answers) state.names facts place)
      (sym (loaded_learned (IsOfLoad job answers state.names state.loads) state.incompats state.origins terms first steps loaded.given))
      (more.brought place there);
}

-- a derivation is no decision
pub derived_not : (number : ℕ) → Derived number ≡ Decided → ⊥
derived_not number is = cc

-- each turn does
turn_more : (job : Job) (pins : Pins) (answers : Answers) (state : State) → IsSolver answers state → AreLoaded job answers state
    → AreMore job answers state → AreMoreAfter job answers (turn_of (rules_of job pins answers) state)
turn_more job pins answers state is loaded more = elim (cases_Bool (is_loaded state root_place)) [
  | inl root ↦ turn_cases (rules_of job pins answers) state (AreMoreAfter job answers) (record {
    loads_root = λ other. load_root;
    loads = λ next settled at other.
        let it = next_is pins (lookups_by answers) state next at in
        let known : next.place.node < length state.names = omega (arith, it.place_node, it.known) in
        load_more job answers state next.place is loaded more known (loading job answers state.names (load_at state.names next.place)) refl;
    conflicts = λ number found.
        conflict_more job answers state number loaded more
        (conflict state.sizes state.incompats state.trail (slice_index_or state.incompats number []) []);
    forces = λ forced quiet found. record {
      steps = (λ reason. absurd (derived_not forced.number reason), more.steps);
      done = (λ reason. absurd (derived_not forced.number reason), more.done);
      brought = more.brought;
    };
    decides = λ next settled at there.
        let root_there = loaded_there state.loads root_place root in
        record {
          steps = (λ reason. step_kept job pins answers state is loaded more settled root_there next at, more.steps);
          done = (
            λ reason. done_kept job pins answers state is loaded more settled root_there next at (loaded_there state.loads next.place there),
            more.done,
          );
          brought = more.brought;
        };
    selects = λ settled at. tt;
  })
  | inr other ↦
      subst (AreMoreAfter job answers)
      (sym (cond-true (not (is_loaded state root_place)) _
      (conflict_or_force (rules_of job pins answers) state (newest_from (holds state.sizes state.trail) 0 state.incompats)) (ap not other)))
      load_root
]
  where
    load_root : AreMoreAfter job answers (after_load state root_place ((rules_of job pins answers).load state root_place))
    load_root =
        load_more job answers state root_place is loaded more (some_names state.names is.rest is.rooted)
        (loading job answers state.names (load_at state.names root_place)) refl

-- so it is at each state that a run goes to
pub run_steps : (job : Job) (pins : Pins) (answers : Answers) (n : ℕ) (state : State) → AreShort answers → plain_after job pins answers n ≡ Went state
    → AreMore job answers state
run_steps job pins answers zero state short went =
    let same : opening ≡ state = cc in
    subst (AreMore job answers) same (record {
      steps = (λ reason. (refl, refl), tt);
      done = (λ reason. tt, tt);
      brought = λ place there. absurd (contains_nothing place there);
    })
run_steps job pins answers (suc n) state short went =
    let before = run_before (rules_of job pins answers) n (Went opening) state went in
    subst (AreMoreAfter job answers) before.goes
    (turn_more job pins answers before.state (run_solver job pins answers n before.state short before.went)
    (run_loaded job pins answers n before.state short before.went) (run_steps job pins answers n before.state short before.went))
