-- A decision that a solver makes is a step, and its load is done.
use Rattle.std.proofs.Common.{◌≡◌, ◌≢◌, ℕ, ◌+◌, ◌<◌, ◌==◌, true, List, [], ◌∷◌, length, slice_index, Contains, Option, Some, None, refl, sym, ap, ap₂, ◌∙◌, subst, arith, eq-eqb}
use Rattle.std.proofs.lemmas.Bool.{cond-false, false≢true, ne_eqb, or_left}
use Rattle.std.proofs.lemmas.Option.{same_Some}
use Rattle.pub_set.specs.Choices.{choices_of}
use Rattle.pub_facts.specs.Catalogue.{Catalogue, Job, Lookups}
use Rattle.pub_facts.specs.Facts.{size_of}
use Rattle.pub_facts.specs.Numbered.{number_in}
use Rattle.pub_facts.proofs.KnownLemmas.{choice_below}
use Rattle.pub_facts.proofs.Sets.{has_only, only_has}
use Rattle.pub_term.specs.declared.node.NodeName.{NodeName}
use Rattle.pub_term.specs.declared.node.NodeName.TheVariants.{Root, RootTrait, Package, PackageTrait}
use Rattle.pub_term.specs.declared.term.Term.{Term}
use Rattle.pub_trail.specs.First.{chosen, first_or, is_asked}
use Rattle.pub_trail.specs.Invariant.{Begins, IsSettled}
use Rattle.pub_trail.specs.Required.{loaded_facts}
use Rattle.pub_trail.specs.Trail.{allows, is_decided, level_of}
use Rattle.pub_trail.specs.Turn.{Next, State, root_place}
use Rattle.pub_trail.specs.declared.trail.Assigned.{Assigned}
use Rattle.pub_trail.specs.declared.trail.Reason.TheVariants.{Decided}
use Rattle.pub_trail.proofs.FirstLemmas.{first_of_one, open_chosen}
use Rattle.pub_plain.specs.Answers.{Answers, catalogue_by, lookups_by}
use Rattle.pub_plain.specs.Choosing.{Pins, first_that, next_at, next_in, next_named, next_node, next_package, owner_number, pin_of, ranked_in}
use Rattle.pub_plain.specs.Invariant.{IsSolver}
use Rattle.pub_plain.specs.Loading.{load_at, name_at}
use Rattle.pub_plain.proofs.AsksLemmas.{at_of, load_asks}
use Rattle.pub_plain.proofs.BroughtLemmas.{size_named}
use Rattle.pub_plain.proofs.Decisions.{IsAsked, IsLeastIf, IsStep, chosen_at}
use Rattle.pub_plain.proofs.GrownLemmas.{some_chosen}
use Rattle.pub_plain.proofs.LoadedLemmas.{AreLoaded, IsOfLoad, loaded_given}
use Rattle.pub_plain.proofs.MergedLemmas.{any_there}
use Rattle.pub_plain.proofs.MoreLemmas.{next_owned}
use Rattle.pub_plain.proofs.NextLemmas.{IsNextAt, next_is}
use Rattle.pub_plain.proofs.NextNodeLemmas.{next_least}
use Rattle.pub_plain.proofs.RulesLemmas.{name_of_number}
use Rattle.pub_plain.proofs.SettledLemmas.{choices_made, state_done}
use Rattle.pub_plain.proofs.StateLemmas.{AreMore, IsDoneAt, IsDoneOf, chosen_now, decided_more, decided_some}
use Rattle.pub_plain.proofs.TrailLemmas.{IsStepOf, decision_of, decisions_of}

-- ---- what is next

-- the node that is found next, with what it comes to
pub record IsFoundNext (pins : Pins) (l : Lookups) (state : State) (next : Next) : Type 0 where
  pub found : ℕ × NodeName
  pub is : next_node state.names (loaded_facts state.incompats state.origins) state.trail ≡ Some found
  pub comes : next_named pins l state.names state.trail found.0 found.1 ≡ Some next

-- what is next is found
pub next_found : (pins : Pins) (l : Lookups) (state : State) (next : Next) → next_in pins l state ≡ Some next → IsFoundNext pins l state next
next_found pins l state next is = go (next_node state.names (loaded_facts state.incompats state.origins) state.trail) refl is
  where
    go : (found : Option (ℕ × NodeName)) → next_node state.names (loaded_facts state.incompats state.origins) state.trail ≡ found
        → next_at pins l state.names state.trail found ≡ Some next → IsFoundNext pins l state next
    go None at e = cc
    go (Some found) at e = record { found = found; is = at; comes = e }

-- the package that is next has its number, and its choice is the first that is left
pub record IsFirstLeft (pins : Pins) (l : Lookups) (trail : List Assigned) (number : ℕ) (identity : List ℕ) (next : Next) : Type 0 where
  pub node : next.node ≡ number
  pub first : first_that (allows trail number) (ranked_in (pin_of pins identity) (l.list identity)) ≡ Some next.choice

-- so it is
pub package_first : (pins : Pins) (l : Lookups) (names : List NodeName) (trail : List Assigned) (number : ℕ) (identity : List ℕ) (next : Next)
    → next_named pins l names trail number (Package identity) ≡ Some next → IsFirstLeft pins l trail number identity next
package_first pins l names trail number identity next is =
    go (first_that (allows trail number) (ranked_in (pin_of pins identity) (l.list identity))) refl is
  where
    go : (found : Option ℕ) → first_that (allows trail number) (ranked_in (pin_of pins identity) (l.list identity)) ≡ found
        → next_package number found ≡ Some next → IsFirstLeft pins l trail number identity next
    go None at e = cc
    go (Some choice) at e =
        let same : record { node = number; choice = choice; place = record { node = number; choice = choice } } ≡ next = same_Some _ next e in
        record { node = sym (ap (λ (n : Next). n.node) same); first = at ∙ ap (λ (n : Next). Some n.choice) same }

-- each name that is next has its number
named_number : (pins : Pins) (l : Lookups) (names : List NodeName) (trail : List Assigned) (number : ℕ) (name : NodeName) (next : Next)
    → next_named pins l names trail number name ≡ Some next → next.node ≡ number
named_number pins l names trail number Root next is = cc
named_number pins l names trail number (RootTrait name) next is = sym (ap (λ (n : Next). n.node) (same_Some _ next is))
named_number pins l names trail number (Package identity) next is = (package_first pins l names trail number identity next is).node
named_number pins l names trail number (PackageTrait identity name) next is = sym (ap (λ (n : Next). n.node) (same_Some _ next is))

-- ---- the entry

-- the assignment of a decision
abbrev pub entry_of : State → Next → Assigned
entry_of state next = record {
  node = next.node;
  choices = choices_of (slice_index state.sizes next.node) (next.choice ∷ []);
  level = level_of state.trail + 1;
  reason = Decided;
}

-- the first of one choice is it
first_choice : (size choice : ℕ) → choice < size → first_or (choices_of size (choice ∷ [])).members 0 ≡ choice
first_choice size choice below =
    first_of_one (choices_of size (choice ∷ [])).members choice (only_has size choice choice below refl) (λ k here. has_only size choice k here)

module _ (job : Job) (pins : Pins) (answers : Answers) (state : State) (is : IsSolver answers state) (loaded : AreLoaded job answers state)
    (more : AreMore job answers state) (settled : IsSettled state) (root : Contains state.loads root_place) (next : Next)
    (at_next : next_in pins (lookups_by answers) state ≡ Some next) where
  -- the catalogue
  abbrev c : Catalogue
  c = catalogue_by answers

  -- and its lists
  abbrev l : Lookups
  l = lookups_by answers

  -- the facts of the loads
  abbrev facts : List (List Term)
  facts = loaded_facts state.incompats state.origins

  -- the decided choices
  abbrev at : NodeName → ℕ
  at = at_of state.names state.trail

  -- the name of what is next
  abbrev name : NodeName
  name = name_at state.names next.node

  -- the node that is found
  abbrev it : IsFoundNext pins l state next
  it = next_found pins l state next at_next

  -- the name that is found is that of the number
  pub found_named : it.found.1 ≡ name
  found_named =
      sym (next_owned answers state is it.found it.is).name
      ∙ ap (name_at state.names) (sym (named_number pins l state.names state.trail it.found.0 it.found.1 next it.comes))

  -- the number of the name
  number_back : number_in state.names name ≡ next.node
  number_back = is.apart next.node (next_is pins l state next at_next).known

  -- what is next is a choice of its node, and not 0
  choice_fits : (name : NodeName) → IsNextAt l state.names state.trail next name → (next.choice ≢ 0) × (next.choice < size_of l name)
  choice_fits Root next_at = absurd next_at
  choice_fits (RootTrait name) next_at =
      (λ none. (let on = next_at.on in absurd (omega (arith, on, none))), (let on = next_at.on in omega (arith, on)))
  choice_fits (Package identity) next_at = (
    some_chosen (l.list identity) next.choice next_at.release next_at.there,
    choice_below l (Some identity) next.choice (next_at.release, next_at.there),
  )
  choice_fits (PackageTrait identity name) next_at =
      (λ none. (let on = next_at.on in absurd (omega (arith, on, none))), (let on = next_at.on in omega (arith, on)))

  -- so the choice fits
  fits : (next.choice ≢ 0) × (next.choice < size_of l name)
  fits = choice_fits name (next_is pins l state next at_next).at

  -- the size of its node
  size_there : slice_index state.sizes next.node ≡ size_of l name
  size_there = ap (λ (s : List ℕ). slice_index s next.node) is.sizes ∙ size_named l state.names next.node (next_is pins l state next at_next).known

  -- the first choice of the assignment is the choice
  pub choice_now : first_or (entry_of state next).choices.members 0 ≡ next.choice
  choice_now = first_choice (slice_index state.sizes next.node) next.choice (subst (λ size. next.choice < size) (sym size_there) fits.1)

  -- what is next is asked
  asked_now : IsAsked job c at name
  asked_now =
      let any = any_there (is_asked state.trail next.node) facts (next_is pins l state next at_next).asked in
      let given = loaded_given (IsOfLoad job answers state.names state.loads) state.incompats state.origins any.0 loaded.given any.1 in
      let asks
      = load_asks job c state.names state.trail (load_at state.names given.1.place) given.1.fact any.0 next.node given.1.given given.1.is any.2 in
      let same : asks.node ≡ name
      = sym (name_of_number state.names asks.node
      (subst (λ n. n < length state.names) (sym asks.number) (next_is pins l state next at_next).known))
      ∙ ap (name_at state.names) asks.number in
      subst (IsAsked job c at) same asks.asked

  -- and the least, if it is a package
  least_now : IsLeastIf job c at name
  least_now = go name found_named
    where
      go : (node : NodeName) → it.found.1 ≡ node → IsLeastIf job c at node
      go Root same = tt
      go (RootTrait other) same = tt
      go (Package identity) same =
          next_least job c state.names facts state.trail (state_done job answers state is more settled root)
          (decided_some job c state.names state.trail more.steps) it.found identity it.is same
      go (PackageTrait identity other) same = tt

  -- so its decision is a step
  step_now : IsStep job c (chosen_at (decisions_of state.names state.trail)) (decision_of state.names (entry_of state next))
  step_now =
      subst (λ (choices : NodeName → ℕ). IsStep job c choices (decision_of state.names (entry_of state next)))
      (sym (choices_made job answers state is more))
      (record {
        fresh = ap (chosen state.trail) number_back ∙ open_chosen state.trail next.node (next_is pins l state next at_next).undecided;
        some = λ none. fits.0 (sym choice_now ∙ none);
        below = subst (λ k. k < size_of l name) (sym choice_now) fits.1;
        asked = asked_now;
        least = least_now;
      })

  -- as the trail has it
  pub step_kept : IsStepOf job c state.names state.trail (entry_of state next)
  step_kept = go state.trail is.is.begins step_now
    where
      go : (trail : List Assigned) → Begins trail
          → IsStep job c (chosen_at (decisions_of state.names trail)) (decision_of state.names (entry_of state next))
          → IsStepOf job c state.names trail (entry_of state next)
      go [] begins step = absurd begins
      go (first ∷ before) begins step = step

  -- the owner of what is next is decided with it, and at the choice of its place
  record IsOwnedNow : Type 0 where
    owned : is_decided (entry_of state next ∷ state.trail) (owner_number state.names name) ≡ true
    choice : chosen (entry_of state next ∷ state.trail) (owner_number state.names name) ≡ next.place.choice

  -- a package owns itself
  package_owned : owner_number state.names name ≡ next.node → next.place.choice ≡ next.choice → IsOwnedNow
  package_owned itself place = record {
    owned = ap (is_decided (entry_of state next ∷ state.trail)) itself
        ∙ or_left (next.node == next.node) (is_decided state.trail next.node) (eq-eqb next.node next.node refl);
    choice = ap (chosen (entry_of state next ∷ state.trail)) itself ∙ chosen_now (entry_of state next) state.trail refl ∙ choice_now ∙ sym place;
  }

  -- the owner of a trait was decided
  trait_owned : is_decided state.trail (owner_number state.names name) ≡ true → next.place.choice ≡ chosen state.trail (owner_number state.names name)
      → IsOwnedNow
  trait_owned owner place =
      let differs : next.node ≡ owner_number state.names name → ⊥
      = λ e. false≢true (sym (next_is pins l state next at_next).undecided ∙ ap (is_decided state.trail) e ∙ owner) in
      record {
        owned = decided_more (entry_of state next) state.trail (owner_number state.names name) owner;
        choice = cond-false (next.node == owner_number state.names name) (first_or (entry_of state next).choices.members 0)
            (chosen state.trail (owner_number state.names name)) (ne_eqb next.node (owner_number state.names name) differs)
            ∙ sym place;
      }

  -- each has its owner
  owned_now : IsOwnedNow
  owned_now = go name refl (next_is pins l state next at_next).at
    where
      go : (node : NodeName) → name ≡ node → IsNextAt l state.names state.trail next node → IsOwnedNow
      go Root same next_at = absurd next_at
      go (RootTrait other) same next_at =
          trait_owned (ap (λ n. is_decided state.trail (owner_number state.names n)) same ∙ next_at.owner)
          (next_at.place_choice ∙ ap (λ n. chosen state.trail (owner_number state.names n)) (sym same))
      go (Package identity) same next_at =
          package_owned (ap (owner_number state.names) same ∙ ap (number_in state.names) (sym same) ∙ number_back) next_at.place_choice
      go (PackageTrait identity other) same next_at =
          trait_owned (ap (λ n. is_decided state.trail (owner_number state.names n)) same ∙ next_at.owner)
          (next_at.place_choice ∙ ap (λ n. chosen state.trail (owner_number state.names n)) (sym same))

  -- and its load is done
  pub done_kept : Contains state.loads next.place → IsDoneOf state.names state.loads state.trail (entry_of state next)
  done_kept there = go state.trail is.is.begins (record {
    owned = owned_now.owned;
    there = subst (Contains state.loads)
        (ap₂ (λ (node choice : ℕ). record { node = node; choice = choice }) (next_is pins l state next at_next).place_node
        (sym owned_now.choice)) there;
  })
    where
      go : (trail : List Assigned) → Begins trail → IsDoneAt state.names state.loads (entry_of state next ∷ trail) next.node
          → IsDoneOf state.names state.loads trail (entry_of state next)
      go [] begins done = absurd begins
      go (first ∷ before) begins done = done
