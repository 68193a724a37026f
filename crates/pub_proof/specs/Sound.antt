-- What a checked derivation means: an assignment that violates its last line violates one of the facts.
use Rattle.std.specs.Prelude.{◌≡◌, ℕ, ◌<◌, List, length, Option, true, slice_index, Contains}
use Rattle.std.specs.List.{list_all}
use Rattle.pub_term.specs.Term.{violates}
use Rattle.pub_term.specs.declared.term.Term.{Term}
use Rattle.pub_proof.specs.Root.{has_root_choice}

-- each node has one of its choices
abbrev pub IsAssignment : List ℕ → (ℕ → ℕ) → Type 0
IsAssignment sizes assignment = (node : ℕ) → node < length sizes → assignment node < slice_index sizes node

-- some fact is violated
pub record ViolatesOne (facts : List (List Term)) (assignment : ℕ → ℕ) : Type 0 where
  pub fact : List Term
  pub given : Contains facts fact
  pub violated : violates assignment fact ≡ true

-- wherever the terms are violated, one of the facts is
abbrev pub Follows : List ℕ → List (List Term) → List Term → Type 0
Follows sizes facts terms = (assignment : ℕ → ℕ) → IsAssignment sizes assignment → violates assignment terms ≡ true → ViolatesOne facts assignment

-- The terms are all on the root: so no assignment whose root has one of their choices leaves every fact unviolated. In a derivation that
-- there is no selection, the choice is the root's being chosen, or there is no term, and so no assignment at all.
abbrev pub RefutesRoot : Option ℕ → List ℕ → List (List Term) → List Term → Type 0
RefutesRoot root sizes facts terms = (assignment : ℕ → ℕ) → IsAssignment sizes assignment
    → list_all (has_root_choice root assignment) terms ≡ true → ViolatesOne facts assignment
