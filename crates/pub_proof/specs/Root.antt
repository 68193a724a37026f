-- The root of a derivation, and what refutes it.
use Rattle.std.specs.Prelude.{ℕ, ◌==◌, List, position, Bool, true, false, Option, Some, None}
use Rattle.std.specs.List.{list_all}
use Rattle.pub_set.specs.Choices.{has}
use Rattle.pub_term.specs.declared.node.NodeName.{NodeName}
use Rattle.pub_term.specs.declared.node.NodeName.TheVariants.{Root}
use Rattle.pub_term.specs.declared.term.Term.{Term}

abbrev pub is_root : NodeName → Bool
is_root Root = true
is_root _ = false

-- the root is the first node that is named so, if there is one
abbrev pub root_of : List NodeName → Option ℕ
root_of nodes = position is_root nodes

abbrev pub is_on_root : Option ℕ → ℕ → Bool
is_on_root None node = false
is_on_root (Some root) node = node == root

-- no term, or one on the root alone
abbrev pub is_refutation : Option ℕ → List Term → Bool
is_refutation root terms = list_all (λ term. is_on_root root term.node) terms

-- the term's set has the assignment's choice on the root; without a root there is nothing to choose
abbrev pub has_root_choice : Option ℕ → (ℕ → ℕ) → Term → Bool
has_root_choice None assignment term = true
has_root_choice (Some root) assignment term = has term.choices (assignment root)
