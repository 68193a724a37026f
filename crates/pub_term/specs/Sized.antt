-- Terms whose sets have the sizes of their nodes, and are sets.
use Rattle.std.specs.Prelude.{◌≡◌, ℕ, ◌<◌, List, [], ◌∷◌, length, slice_index}
use Rattle.pub_set.specs.Choices.{ChoiceSet, IsSet}
use Rattle.pub_term.specs.declared.term.Term.{Term}

-- the node is there, and the set has its size
abbrev pub IsSized : List ℕ → ℕ → ChoiceSet → Type 0
IsSized sizes node set = (node < length sizes) × (set.size ≡ slice_index sizes node)

abbrev pub AreSized : List ℕ → List Term → Type 0
AreSized sizes [] = Unit {0}
AreSized sizes (term ∷ terms) = IsSized sizes term.node term.choices × AreSized sizes terms

-- each term's choices are a set
abbrev pub AreSets : List Term → Type 0
AreSets [] = Unit {0}
AreSets (term ∷ terms) = IsSet term.choices × AreSets terms
