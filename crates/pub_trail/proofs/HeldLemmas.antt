-- From the tests of a turn to what they say of each choice.
use Rattle.std.proofs.Common.{◌≡◌, ℕ, Bool, true, List, [], ◌∷◌, slice_index, Some, None, refl, sym, ap₂, ◌∙◌, inl, inr, arith}
use Rattle.std.specs.List.{list_all}
use Rattle.std.proofs.lemmas.Bool.{and_from, and_parts, cases_eq}
use Rattle.pub_set.specs.Choices.{ChoiceSet}
use Rattle.pub_term.specs.Term.{AreNodesAscending, set_at}
use Rattle.pub_term.specs.declared.term.Term.{Term}
use Rattle.pub_term.proofs.AboveLemmas.{AreAbove-tail, AreNodesAscending-tail, set_at-head, set_at-none, set_at-tail}
use Rattle.pub_trail.specs.Invariant.{Within}
use Rattle.pub_trail.specs.Trail.{allows, holds, is_held}
use Rattle.pub_trail.specs.declared.trail.Assigned.{Assigned}
use Rattle.pub_trail.proofs.TestLemmas.{within_each, within_from}

-- a node with its set
abbrev pub term_of : ℕ → ChoiceSet → Term
term_of node set = record { node = node; choices = set }

-- a term that is held has what is left within its set
pub Within-held : (sizes : List ℕ) (trail : List Assigned) (term : Term) → is_held sizes trail term ≡ true
    → Within sizes trail term.node term.choices
Within-held sizes trail term held = within_each (slice_index sizes term.node) (allows trail term.node) term.choices held

-- and the other way round
pub held-Within : (sizes : List ℕ) (trail : List Assigned) (term : Term) → Within sizes trail term.node term.choices
    → is_held sizes trail term ≡ true
held-Within sizes trail term within = within_from (slice_index sizes term.node) (allows trail term.node) term.choices within

-- what passes of all terms passes of the one on a node
pub at_node : (test : Term → Bool) (terms : List Term) (node : ℕ) (set : ChoiceSet) → list_all test terms ≡ true → set_at terms node ≡ Some set
    → test (term_of node set) ≡ true
at_node test [] node set all at = cc
at_node test (term ∷ terms) node set all at =
    let parts = and_parts (test term) (list_all test terms) all in
    elim (cases_eq term.node node) [
      | inl same ↦
          (let head : Some term.choices ≡ Some set = sym (set_at-head term terms node same) ∙ at in
          let e : term.choices ≡ set = cc in
          ap₂ (λ n s. test (term_of n s)) (sym same) (sym e) ∙ parts.0)
      | inr differs ↦ at_node test terms node set parts.1 (sym (set_at-tail term terms node differs) ∙ at)
    ]

-- terms pass where each node's set does
pub each_node : (test : Term → Bool) (terms : List Term) → AreNodesAscending terms
    → ((node : ℕ) (set : ChoiceSet) → set_at terms node ≡ Some set → test (term_of node set) ≡ true) → list_all test terms ≡ true
each_node test [] up each = refl
each_node test (term ∷ terms) up each =
    and_from (test term) (list_all test terms)
    (each term.node term.choices (set_at-head term terms term.node refl))
    (each_node test terms (AreNodesAscending-tail term terms up)
    (λ node set at.
    each node set
    (set_at-tail term terms node
    (λ same.
    let none : set_at terms node ≡ None = set_at-none term.node terms node (omega arith) (AreAbove-tail term terms up) in
    cc) ∙ at)))

-- terms that hold have what is left within each set
pub Within-holds : (sizes : List ℕ) (trail : List Assigned) (terms : List Term) (node : ℕ) (set : ChoiceSet) → holds sizes trail terms ≡ true
    → set_at terms node ≡ Some set → Within sizes trail node set
Within-holds sizes trail terms node set all at =
    Within-held sizes trail (term_of node set) (at_node (is_held sizes trail) terms node set all at)

-- and the other way round
pub holds-Within : (sizes : List ℕ) (trail : List Assigned) (terms : List Term) → AreNodesAscending terms
    → ((node : ℕ) (set : ChoiceSet) → set_at terms node ≡ Some set → Within sizes trail node set) → holds sizes trail terms ≡ true
holds-Within sizes trail terms up each =
    each_node (is_held sizes trail) terms up (λ node set at. held-Within sizes trail (term_of node set) (each node set at))
