-- Terms and incompatibilities (PubGrub's, over finite sets of choices): a term is a node with a set of its choices, and an
-- incompatibility is terms that can't all hold.
use Rattle.std.specs.Prelude.{◌≡◌, ℕ, ◌<◌, ◌==◌, List, [], ◌∷◌, Bool, false, Option, Some, None, if◌then◌else◌}
use Rattle.std.specs.List.{list_all}
use Rattle.pub_set.specs.Choices.{ChoiceSet, has, is_empty, is_whole}
use Rattle.pub_term.specs.declared.term.Term.{Term}

-- nodes strictly ascending
abbrev pub AreNodesAscending : List Term → Type 0
AreNodesAscending [] = Unit {0}
AreNodesAscending (term ∷ []) = Unit {0}
AreNodesAscending (term ∷ next ∷ terms) = (term.node < next.node) × AreNodesAscending (next ∷ terms)

-- no set is empty or whole
abbrev pub AreProper : List Term → Type 0
AreProper [] = Unit {0}
AreProper (term ∷ terms) = (is_empty term.choices ≡ false) × (is_whole term.choices ≡ false) × AreProper terms

pub record IsIncompat (terms : List Term) : Type 0 where
  pub ascending : AreNodesAscending terms
  pub proper : AreProper terms

-- the set of the term on a node, where there is one
abbrev pub set_at : List Term → ℕ → Option ChoiceSet
set_at [] node = None
set_at (term ∷ terms) node = if term.node == node then Some term.choices else set_at terms node

-- An assignment gives each node one choice. It violates an incompatibility if each term's set has the node's choice.
abbrev pub violates : (ℕ → ℕ) → List Term → Bool
violates assignment terms = list_all (λ term. has term.choices (assignment term.node)) terms
