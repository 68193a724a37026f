-- In a settled state with the root loaded, the loads of the decided choices are done and no fact is decided whole.
use Rattle.std.proofs.Common.{◌≡◌, ◌≢◌, ℕ, ◌<◌, true, List, [], length, slice_index_or, Contains, Option, Some, None, refl, sym, ap, ap₂, ◌∙◌, subst, arith}
use Rattle.std.proofs.lemmas.Bool.{false≢true, true_from_ne_false}
use Rattle.pub_facts.specs.Assigns.{IsAssignment, IsOn, IsOwn}
use Rattle.pub_facts.specs.Catalogue.{Job, Owner}
use Rattle.pub_facts.specs.Facts.{Load, load_of, owner_node, trait_node}
use Rattle.pub_facts.specs.Numbered.{number_in}
use Rattle.pub_facts.proofs.FactLemmas.{sizes_length}
use Rattle.pub_term.specs.Node.{package_of, trait_of}
use Rattle.pub_term.specs.declared.node.NodeName.{NodeName}
use Rattle.pub_term.specs.declared.node.NodeName.TheVariants.{Root}
use Rattle.pub_term.specs.declared.term.Term.{Term}
use Rattle.pub_trail.specs.First.{chosen}
use Rattle.pub_trail.specs.Invariant.{IsFormed, IsSettled}
use Rattle.pub_trail.specs.Required.{loaded_facts}
use Rattle.pub_trail.specs.Trail.{holds, is_decided}
use Rattle.pub_trail.specs.Turn.{State, root_place}
use Rattle.pub_trail.specs.declared.trail.Place.{Place}
use Rattle.pub_trail.proofs.LieLemmas.{formed_at}
use Rattle.pub_trail.proofs.NewestLemmas.{newest_none}
use Rattle.pub_trail.proofs.RequiredLemmas.{get_or_same}
use Rattle.pub_trail.proofs.FirstLemmas.{open_chosen}
use Rattle.pub_plain.specs.Answers.{Answers, catalogue_by, lookups_by}
use Rattle.pub_plain.specs.Choosing.{owner_number}
use Rattle.pub_plain.specs.Invariant.{IsSolver}
use Rattle.pub_plain.specs.Loading.{facts_at, load_at, name_at}
use Rattle.pub_plain.proofs.AsksLemmas.{at_of}
use Rattle.pub_plain.proofs.Decisions.{AreSteps, chosen_at}
use Rattle.pub_plain.proofs.DoneLemmas.{AreDone}
use Rattle.pub_plain.proofs.GrownLemmas.{steps_reached, steps_sized}
use Rattle.pub_plain.proofs.MoreLemmas.{decided_there}
use Rattle.pub_plain.proofs.OwnerLemmas.{choice_some}
use Rattle.pub_plain.proofs.RulesLemmas.{name_of_number}
use Rattle.pub_plain.proofs.StateLemmas.{AreMore, brought_there, done_all, place_of, whole_holds}
use Rattle.pub_plain.proofs.TrailLemmas.{AreWithin, chosen_all, decisions_of, placed_within, steps_of}
use Rattle.pub_plain.proofs.WholeLemmas.{is_decided_whole}

-- the owner of an owner's node is itself
owner_of : (owner : Owner) → package_of (owner_node owner) ≡ owner
owner_of None = refl
owner_of (Some identity) = refl

-- and it is no trait
owner_alone : (owner : Owner) → trait_of (owner_node owner) ≡ None
owner_alone None = refl
owner_alone (Some identity) = refl

-- the owner of its trait is it
trait_owner : (owner : Owner) (name : List ℕ) → package_of (trait_node owner name) ≡ owner
trait_owner None name = refl
trait_owner (Some identity) name = refl

-- and the trait has its name
trait_name : (owner : Owner) (name : List ℕ) → trait_of (trait_node owner name) ≡ Some name
trait_name None name = refl
trait_name (Some identity) name = refl

module _ (job : Job) (answers : Answers) (state : State) (is : IsSolver answers state) (more : AreMore job answers state) where
  -- the decided choices
  abbrev at : NodeName → ℕ
  at = at_of state.names state.trail

  -- there are as many sizes as names
  pub as_many : length state.sizes ≡ length state.names
  as_many = ap (λ (s : List ℕ). length s) is.sizes ∙ sizes_length (lookups_by answers) state.names

  -- each assignment is on a named node
  pub within_names : AreWithin (length state.names) state.trail
  within_names = placed_within (lookups_by answers) state.names state.sizes state.trail as_many is.placed

  -- the decisions are made step by step
  pub steps_made : AreSteps job (catalogue_by answers) (decisions_of state.names state.trail)
  steps_made = steps_of job (catalogue_by answers) state.names state.trail is.is.begins more.steps

  -- their choices are those of the numbers
  pub choices_made : chosen_at (decisions_of state.names state.trail) ≡ at
  choices_made = chosen_all state.names state.trail is.apart within_names

  -- what is decided is named
  pub decided_named : (node : NodeName) → is_decided state.trail (number_in state.names node) ≡ true → number_in state.names node < length state.names
  decided_named node decided =
      let there = decided_there (lookups_by answers) state.names state.sizes state.trail (number_in state.names node) is.placed decided in
      omega (arith, there, as_many)

  -- the number of a decided node is decided
  pub some_decided : (node : NodeName) → at node ≢ 0 → is_decided state.trail (number_in state.names node) ≡ true
  some_decided node some =
      true_from_ne_false (is_decided state.trail (number_in state.names node))
      (λ undecided. some (open_chosen state.trail (number_in state.names node) undecided))

  module _ (settled : IsSettled state) (root : Contains state.loads root_place) where
    -- a node whose owner is at a choice: its load is done
    record IsLoadedAt (load : Load) : Type 0 where
      place : Place
      there : Contains state.loads place
      is_load : load_at state.names place ≡ load

    -- the load of a decided node at its owner's choice is done
    node_loaded : (load : Load) (node : NodeName) → package_of node ≡ load.owner → trait_of node ≡ load.under
        → at (owner_node load.owner) ≡ load.choice
        → at node ≢ 0 → IsLoadedAt load
    node_loaded load node owner under chosen_it some =
        let n = number_in state.names node in
        let decided = some_decided node some in
        let named : name_at state.names n ≡ node = name_of_number state.names node (decided_named node decided) in
        let done
        = done_all job (catalogue_by answers) state.names is.rest state.loads state.sizes state.incompats state.trail is.rooted is.is.stands
        is.is.begins more.steps root more.done n decided in
        let choice : chosen state.trail (owner_number state.names (name_at state.names n)) ≡ load.choice
        = ap (λ name. at (owner_node (package_of name))) named ∙ ap (λ o. at (owner_node o)) owner ∙ chosen_it in
        record {
          place = place_of state.names state.trail n;
          there = done.there;
          is_load = ap₂ (λ name (k : ℕ). load_of name k) named choice
              ∙ ap₂ (λ (o : Owner) (u : Option (List ℕ)). record { owner = o; choice = load.choice; under = u }) owner under;
        }

    -- so each own load is
    own_loaded : (load : Load) → IsOwn (catalogue_by answers) at load → IsLoadedAt load
    own_loaded load own = go load.under refl
      where
        go : (under : Option (List ℕ)) → load.under ≡ under → IsLoadedAt load
        go None same =
            node_loaded load (owner_node load.owner) (owner_of load.owner) (owner_alone load.owner ∙ sym same) own.chosen
            (λ none. choice_some (catalogue_by answers) load.owner load.choice own.there (sym own.chosen ∙ none))
        go (Some name) same =
            let on : at (trait_node load.owner name) ≡ 1 = subst (IsOn at load.owner) same own.on in
            node_loaded load (trait_node load.owner name) (trait_owner load.owner name) (trait_name load.owner name ∙ sym same) own.chosen
            (λ none. absurd (omega (arith, on, none)))

    -- no fact is decided whole
    never_whole : (terms : List Term) → Contains (loaded_facts state.incompats state.origins) terms → is_decided_whole state.trail terms ≡ true → ⊥
    never_whole terms there whole =
        let here = brought_there state.incompats state.origins terms there in
        let same : slice_index_or state.incompats here.0 [] ≡ terms = get_or_same state.incompats here.0 [] terms here.1 ∙ here.2 in
        let formed : IsFormed state.sizes terms
        = subst (IsFormed state.sizes) same (formed_at state.sizes state.incompats here.0 is.is.formed here.1) in
        false≢true (sym (newest_none (holds state.sizes state.trail) 0 state.incompats settled.none_holds here.0 here.1)
        ∙ ap (holds state.sizes state.trail) same
        ∙ whole_holds state.sizes state.incompats state.trail terms is.is.stands formed whole)

    -- the loads of the decided choices are done, and no fact is decided whole
    pub state_done : AreDone job (catalogue_by answers) state.names (loaded_facts state.incompats state.origins) state.trail
    state_done = record {
      sized = subst (IsAssignment (catalogue_by answers)) choices_made
          (steps_sized job (catalogue_by answers) (decisions_of state.names state.trail) steps_made);
      root = subst (λ (choices : NodeName → ℕ). choices Root ≡ 1) choices_made
          (steps_reached job (catalogue_by answers) (decisions_of state.names state.trail) steps_made).root;
      done = λ load own one here.
          let loaded = own_loaded load own in
          (more.brought loaded.place loaded.there).each one
          (subst (λ (l : Load). Contains (facts_at job (catalogue_by answers) l) one) (sym loaded.is_load) here);
      never = never_whole;
    }
