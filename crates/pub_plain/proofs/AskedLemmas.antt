-- What a fact that asks a node leaves of it where nothing holds and nothing is almost satisfied.
use Rattle.std.proofs.Common.{◌≡◌, ◌≢◌, ℕ, ◌<◌, ◌==◌, Bool, true, false, not, ◌&&◌, ◌||◌, List, [], ◌∷◌, length, slice_index_or, Contains, Some, None, sym, ap, ◌∙◌, subst, inl, inr, eqb-true}
use Rattle.std.specs.List.{list_all, list_any}
use Rattle.std.proofs.lemmas.Bool.{and_parts, cases_Bool, false≢true, false_from_ne_true, or_cases}
use Rattle.pub_set.specs.Choices.{ChoiceSet, has}
use Rattle.pub_facts.proofs.Members.{contains_head, contains_tail}
use Rattle.pub_term.specs.Term.{AreNodesAscending, set_at}
use Rattle.pub_term.specs.declared.term.Term.{Term}
use Rattle.pub_term.proofs.AboveLemmas.{AreNodesAscending-tail, set_at-head, set_at-tail}
use Rattle.pub_trail.specs.First.{is_asked, is_met}
use Rattle.pub_trail.specs.Invariant.{IsFormed, IsSettled, IsState, Leaves}
use Rattle.pub_trail.specs.Required.{loaded_facts}
use Rattle.pub_trail.specs.Trail.{holds}
use Rattle.pub_trail.specs.Turn.{State, almost}
use Rattle.pub_trail.specs.declared.origin.Origin.{Origin}
use Rattle.pub_trail.specs.declared.origin.Origin.TheVariants.{OfConflict, OfLoad}
use Rattle.pub_trail.proofs.FirstLemmas.{asked_outside}
use Rattle.pub_trail.proofs.LieLemmas.{formed_at}
use Rattle.pub_trail.proofs.NewestLemmas.{behind_differs, forced_none, newest_none}
use Rattle.pub_trail.proofs.RequiredLemmas.{get_or_same}
use Rattle.pub_trail.proofs.ResolveLemmas.{leaves_some}

-- the set of a fact on a node that has 0
record HasNone (terms : List Term) (node : ℕ) : Type 0 where
  choices : ChoiceSet
  at : set_at terms node ≡ Some choices
  none : has choices 0 ≡ true

-- a term on the node that has 0 is that of the node
has_none : (terms : List Term) (node : ℕ) → AreNodesAscending terms → list_any (λ term. term.node == node && has term.choices 0) terms ≡ true
    → HasNone terms node
has_none [] node up any = absurd (false≢true any)
has_none (term ∷ terms) node up any =
    elim (cases_Bool (term.node == node && has term.choices 0)) [
      | inl here ↦
          (let parts = and_parts (term.node == node) (has term.choices 0) here in
          record { choices = term.choices; at = set_at-head term terms node (eqb-true term.node node parts.0); none = parts.1 })
      | inr other ↦
          (let rest = has_none terms node (AreNodesAscending-tail term terms up)
          (sym (ap (λ b. b || list_any (λ t. t.node == node && has t.choices 0) terms) other) ∙ any) in
          record {
            choices = rest.choices;
            at = set_at-tail term terms node (behind_differs term terms node rest.choices up rest.at) ∙ rest.at;
            none = rest.none;
          })
    ]

-- an incompatibility that passes a test
record IsSomewhere (test : List Term → Bool) (incompats : List (List Term)) : Type 0 where
  fact : List Term
  there : Contains incompats fact
  passes : test fact ≡ true

-- the same with one more before it
somewhere_behind : (test : List Term → Bool) (terms : List Term) (others : List (List Term)) → IsSomewhere test others
    → IsSomewhere test (terms ∷ others)
somewhere_behind test terms others at = record { fact = at.fact; there = contains_tail terms at.fact others at.there; passes = at.passes }

-- what a load brought is among the incompatibilities
loaded_somewhere : (test : List Term → Bool) (incompats : List (List Term)) (origins : List Origin)
    → list_any test (loaded_facts incompats origins) ≡ true
    → IsSomewhere test incompats
loaded_somewhere test [] origins any = absurd (false≢true any)
loaded_somewhere test (terms ∷ others) [] any = absurd (false≢true any)
loaded_somewhere test (terms ∷ others) (OfLoad cause ∷ origins) any =
    elim (or_cases (test terms) (list_any test (loaded_facts others origins)) any) [
      | inl here ↦ record { fact = terms; there = contains_head terms others; passes = here }
      | inr behind ↦ somewhere_behind test terms others (loaded_somewhere test others origins behind)
    ]
loaded_somewhere test (terms ∷ others) (OfConflict first steps ∷ origins) any =
    somewhere_behind test terms others (loaded_somewhere test others origins any)

-- of a node that is asked where nothing holds and nothing is almost satisfied, some choice but 0 is left
pub left_of_asked : (facts : List (List Term)) (state : State) (node : ℕ) → IsState facts state → IsSettled state → node < length state.sizes
    → list_any (is_asked state.trail node) (loaded_facts state.incompats state.origins) ≡ true
    → Leaves state.sizes state.trail node (λ choice. not (choice == 0))
left_of_asked facts state node is settled known any =
    let found = loaded_somewhere (is_asked state.trail node) state.incompats state.origins any in
    let place = found.there.0 in
    let at : slice_index_or state.incompats place [] ≡ found.fact
    = get_or_same state.incompats place [] found.fact found.there.1 ∙ found.there.2 in
    let formed : IsFormed state.sizes found.fact
    = subst (IsFormed state.sizes) at (formed_at state.sizes state.incompats place is.formed found.there.1) in
    let idle : holds state.sizes state.trail found.fact ≡ false
    = ap (holds state.sizes state.trail) (sym at)
    ∙ newest_none (holds state.sizes state.trail) 0 state.incompats settled.none_holds place found.there.1 in
    let quiet : almost state.sizes state.trail found.fact ≡ None
    = ap (almost state.sizes state.trail) (sym at)
    ∙ forced_none state.sizes state.trail 0 state.incompats settled.none_forces place found.there.1 in
    let parts = and_parts (list_any (λ t. t.node == node && has t.choices 0) found.fact) (list_all (is_met state.trail node) found.fact) found.passes in
    let none = has_none found.fact node formed.incompat.ascending parts.0 in
    let left = leaves_some state.sizes state.incompats state.trail node is.formed is.stands (is.some node known) in
    let out : has none.choices left.choice ≡ false
    = asked_outside state.sizes state.incompats state.trail found.fact node none.choices is.stands formed found.passes none.at idle quiet
    left.choice left.below left.allowed in
    record {
      choice = left.choice;
      below = left.below;
      allowed = left.allowed;
      passes = ap not (false_from_ne_true (left.choice == 0)
          (λ zero. false≢true (sym out ∙ ap (has none.choices) (eqb-true left.choice 0 zero) ∙ none.none)));
    }
