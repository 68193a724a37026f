-- What each line that was checked is: an incompatibility over the sizes of the nodes.
use Rattle.std.specs.Prelude.{◌≡◌, ℕ, List, [], ◌∷◌, IfSome}
use Rattle.pub_term.specs.Sized.{AreSized}
use Rattle.pub_term.specs.Term.{IsIncompat, set_at}
use Rattle.pub_term.specs.declared.term.Term.{Term}

-- the nodes ascend, no set is empty or whole, and each set has its node's size
pub record IsFormed (sizes : List ℕ) (terms : List Term) : Type 0 where
  pub incompat : IsIncompat terms
  pub sized : AreSized sizes terms

abbrev pub AreFormed : List ℕ → List (List Term) → Type 0
AreFormed sizes [] = Unit {0}
AreFormed sizes (terms ∷ others) = IsFormed sizes terms × AreFormed sizes others

-- each set has the size of the other line's set on its node
abbrev pub SizesAgree : List Term → List Term → Type 0
SizesAgree [] second = Unit {0}
SizesAgree (term ∷ first) second = IfSome (set_at second term.node) (λ set. term.choices.size ≡ set.size) × SizesAgree first second
