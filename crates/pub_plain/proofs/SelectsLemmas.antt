-- Where a solver selects, all that is asked is decided, so the decided choices violate no fact of their own loads; and its pins are what they
-- select.
use Rattle.std.proofs.Common.{◌≡◌, ◌≢◌, ◌⊎◌, ℕ, suc, ◌<◌, true, not, ◌&&◌, List, [], length, slice_index, slice_index_or, Contains, Option, Some, None, refl, sym, ap, ◌∙◌, subst, inl, inr, arith, eq-eqb}
use Rattle.std.specs.List.{list_any}
use Rattle.std.proofs.lemmas.Bool.{and_parts, cases_Bool, cond-true, false≢true}
use Rattle.pub_facts.specs.Assigns.{Agrees}
use Rattle.pub_facts.specs.Catalogue.{Job, Lookups}
use Rattle.pub_facts.specs.Facts.{size_of}
use Rattle.pub_facts.proofs.FactLemmas.{sizes_length}
use Rattle.pub_term.specs.declared.node.NodeName.{NodeName}
use Rattle.pub_term.specs.declared.node.NodeName.TheVariants.{Root, RootTrait, Package, PackageTrait}
use Rattle.pub_term.specs.declared.term.Term.{Term}
use Rattle.pub_trail.specs.First.{is_asked}
use Rattle.pub_trail.specs.Invariant.{IsSettled}
use Rattle.pub_trail.specs.Required.{is_open, loaded_facts}
use Rattle.pub_trail.specs.Trail.{allows, holds, is_decided}
use Rattle.pub_trail.specs.Turn.{Brings, Conflict, Lacks, Learns, Loading, Passes, Refutes, Rules, Selected, State, after_conflict, after_load, conflict, conflict_or_force, is_loaded, newest_from, or_some, root_place, turn_of}
use Rattle.pub_trail.specs.declared.trail.Place.{Place}
use Rattle.pub_trail.proofs.TurnLemmas.{turn_cases}
use Rattle.pub_plain.specs.Answers.{Answers, catalogue_by, lookups_by}
use Rattle.pub_plain.specs.Choosing.{Pins, first_that, is_needed, is_ready, is_trait, least_from, next_at, next_in, next_named, next_node, next_package, owner_number, pin_of, ranked_in}
use Rattle.pub_plain.specs.Invariant.{IsSolver}
use Rattle.pub_plain.specs.Loading.{is_package, name_at}
use Rattle.pub_plain.specs.Plain.{rules_of}
use Rattle.pub_plain.proofs.AskedLemmas.{left_of_asked}
use Rattle.pub_plain.proofs.BroughtLemmas.{size_named}
use Rattle.pub_plain.proofs.Decisions.{chosen_at}
use Rattle.pub_plain.proofs.DoneLemmas.{own_agrees}
use Rattle.pub_plain.proofs.MoreLemmas.{least_found, next_owned}
use Rattle.pub_plain.proofs.NextNodeLemmas.{none_next}
use Rattle.pub_plain.proofs.PreferredLemmas.{choice_there, first_none, ranked_there}
use Rattle.pub_plain.proofs.SettledLemmas.{choices_made, state_done}
use Rattle.pub_plain.proofs.StateLemmas.{AreMore, decided_some, loaded_there}
use Rattle.pub_plain.proofs.TailLemmas.{release_some}
use Rattle.pub_plain.proofs.TrailLemmas.{decisions_of}

-- ---- where a turn selects

-- the state is settled, the root loaded, and no node next
pub record IsSelecting (rules : Rules) (state : State) : Type 0 where
  pub settled : IsSettled state
  pub root : Contains state.loads root_place
  pub none : rules.next state ≡ None

-- a load selects nothing
load_not : (state : State) (place : Place) (loading : Loading) → after_load state place loading ≡ Selected → ⊥
load_not state place (Lacks key) is = cc
load_not state place (Passes wide) is = cc
load_not state place (Brings loaded) is = cc

-- nor does a conflict
conflict_not : (state : State) (first : ℕ) (outcome : Conflict) → after_conflict state first outcome ≡ Selected → ⊥
conflict_not state first (Refutes terms steps) is = cc
conflict_not state first (Learns terms steps level) is = cc

-- it is so where a turn selects
pub selecting : (rules : Rules) (state : State) → turn_of rules state ≡ Selected → IsSelecting rules state
selecting rules state = elim (cases_Bool (is_loaded state root_place)) [
  | inl root ↦ turn_cases rules state (λ turn. turn ≡ Selected → IsSelecting rules state) (record {
    loads_root = λ other is. absurd (load_not state root_place (rules.load state root_place) is);
    loads = λ next settled at other is. absurd (load_not state next.place (rules.load state next.place) is);
    conflicts = λ number found is.
        absurd (conflict_not state number (conflict state.sizes state.incompats state.trail (slice_index_or state.incompats number []) []) is);
    forces = λ forced quiet found is. cc;
    decides = λ next settled at there is. cc;
    selects = λ settled at is. record { settled = settled; root = loaded_there state.loads root_place root; none = at };
  })
  | inr other ↦ λ is. absurd (load_not state root_place (rules.load state root_place)
      (sym (cond-true (not (is_loaded state root_place)) (after_load state root_place (rules.load state root_place))
      (conflict_or_force rules state (newest_from (holds state.sizes state.trail) 0 state.incompats)) (ap not other)) ∙ is))
]

-- ---- no node is next

-- an open node is asked
opened_asked : (facts : List (List Term)) (state : State) (n : ℕ) → is_open facts state.trail n ≡ true
    → list_any (is_asked state.trail n) facts ≡ true
opened_asked facts state n is = (and_parts (list_any (is_asked state.trail n) facts) (not (is_decided state.trail n)) is).0

-- an open package has a release that is left
package_left : (pins : Pins) (answers : Answers) (state : State) → (is : IsSolver answers state) → IsSettled state → (n : ℕ) (identity : List ℕ)
    → n < length state.names → name_at state.names n ≡ Package identity
    → list_any (is_asked state.trail n) (loaded_facts state.incompats state.origins) ≡ true
    → first_that (allows state.trail n) (ranked_in (pin_of pins identity) ((lookups_by answers).list identity)) ≡ None → ⊥
package_left pins answers state is settled n identity known named asked none =
    let l = lookups_by answers in
    let list = l.list identity in
    let long : length state.sizes ≡ length state.names = ap (λ (s : List ℕ). length s) is.sizes ∙ sizes_length l state.names in
    let left = left_of_asked is.facts state n is.is settled (omega (arith, known, long)) asked in
    let size : slice_index state.sizes n ≡ suc (length list)
    = ap (λ (s : List ℕ). slice_index s n) is.sizes ∙ size_named l state.names n known ∙ ap (size_of l) named in
    let some : left.choice ≢ 0 = λ zero. false≢true (sym (ap not (eq-eqb left.choice 0 zero)) ∙ left.passes) in
    let release = release_some list left.choice some (subst (λ n. left.choice < n) size left.below) in
    first_none (allows state.trail n) (ranked_in (pin_of pins identity) list) left.choice none
    (ranked_there (pin_of pins identity) list left.choice (choice_there list left.choice release.0 release.1)) left.allowed

-- what is found next is named and open, and a trait or a package
record IsFoundOpen (answers : Answers) (state : State) (found : ℕ × NodeName) : Type 0 where
  known : found.0 < length state.names
  named : name_at state.names found.0 ≡ found.1
  is_opened : is_open (loaded_facts state.incompats state.origins) state.trail found.0 ≡ true
  kind : (is_trait found.1 ≡ true) ⊎ (is_package found.1 ≡ true)

-- so it is
found_open : (answers : Answers) (state : State) → IsSolver answers state → (found : ℕ × NodeName)
    → next_node state.names (loaded_facts state.incompats state.origins) state.trail ≡ Some found → IsFoundOpen answers state found
found_open answers state is found at = go (least_from (is_ready state.names facts state.trail) 0 state.names) refl at
  where
    facts : List (List Term)
    facts = loaded_facts state.incompats state.origins

    go : (first : Option (ℕ × NodeName)) → least_from (is_ready state.names facts state.trail) 0 state.names ≡ first
        → or_some first (least_from (is_needed facts state.trail) 0 state.names) ≡ Some found → IsFoundOpen answers state found
    go (Some other) at_first e =
        let it = least_found (is_ready state.names facts state.trail) 0 state.names found (at_first ∙ e) in
        let parts
        = and_parts (is_trait found.1) (is_open facts state.trail found.0 && is_decided state.trail (owner_number state.names found.1)) it.passes in
        record {
          known = omega (arith, it.within, it.place);
          named = (next_owned answers state is found at).name;
          is_opened = (and_parts (is_open facts state.trail found.0) (is_decided state.trail (owner_number state.names found.1)) parts.1).0;
          kind = inl parts.0;
        }
    go None at_first e =
        let it = least_found (is_needed facts state.trail) 0 state.names found e in
        let parts = and_parts (is_package found.1) (is_open facts state.trail found.0) it.passes in
        record {
          known = omega (arith, it.within, it.place);
          named = (next_owned answers state is found at).name;
          is_opened = parts.1;
          kind = inr parts.0;
        }

-- where nothing is next no node is found
none_found : (pins : Pins) (answers : Answers) (state : State) → IsSolver answers state → IsSettled state
    → next_in pins (lookups_by answers) state ≡ None → next_node state.names (loaded_facts state.incompats state.origins) state.trail ≡ None
none_found pins answers state is settled none =
    go (next_node state.names (loaded_facts state.incompats state.origins) state.trail) refl none
  where
    l : Lookups
    l = lookups_by answers

    never : (found : ℕ × NodeName) → IsFoundOpen answers state found → (name : NodeName) → found.1 ≡ name
        → next_named pins l state.names state.trail found.0 name ≡ None → ⊥
    never found it Root same e = elim it.kind [
      | inl trait ↦ false≢true (ap is_trait (sym same) ∙ trait)
      | inr package_is ↦ false≢true (ap is_package (sym same) ∙ package_is)
    ]
    never found it (RootTrait name) same e = cc
    never found it (Package identity) same e =
        package_none (first_that (allows state.trail found.0) (ranked_in (pin_of pins identity) (l.list identity))) refl e
      where
        package_none : (first : Option ℕ) → first_that (allows state.trail found.0) (ranked_in (pin_of pins identity) (l.list identity)) ≡ first
            → next_package found.0 first ≡ None → ⊥
        package_none None at f =
            package_left pins answers state is settled found.0 identity it.known (it.named ∙ same)
            (opened_asked (loaded_facts state.incompats state.origins) state found.0 it.is_opened) at
        package_none (Some choice) at f = cc
    never found it (PackageTrait identity name) same e = cc

    go : (found : Option (ℕ × NodeName)) → next_node state.names (loaded_facts state.incompats state.origins) state.trail ≡ found
        → next_at pins l state.names state.trail found ≡ None → next_node state.names (loaded_facts state.incompats state.origins) state.trail ≡ None
    go None at e = at
    go (Some found) at e = absurd (never found (found_open answers state is found at) found.1 refl e)

-- so the decided choices violate no fact of their own loads
pub selected_agrees : (job : Job) (pins : Pins) (answers : Answers) (state : State) → (is : IsSolver answers state)
    → (more : AreMore job answers state)
    → turn_of (rules_of job pins answers) state ≡ Selected → Agrees job (catalogue_by answers) (chosen_at (decisions_of state.names state.trail))
selected_agrees job pins answers state is more selects =
    let it = selecting (rules_of job pins answers) state selects in
    let c = catalogue_by answers in
    let facts = loaded_facts state.incompats state.origins in
    let done = state_done job answers state is more it.settled it.root in
    subst (Agrees job c) (sym (choices_made job answers state is more))
    (own_agrees job c state.names facts state.trail done
    (none_next job c state.names facts state.trail done (decided_some job c state.names state.trail more.steps)
    (none_found pins answers state is it.settled it.none)))
