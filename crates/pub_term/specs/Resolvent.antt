-- The resolution of two incompatibilities on a node (PubGrub's rule of resolution, said over sets): on the other nodes
-- the terms are intersected; on that node the union stands, dropped if it is all choices.
use Rattle.std.specs.Prelude.{◌≡◌, ◌≢◌, ℕ, ◌==◌, List, [], ◌∷◌, map, Bool, true, false, nat_lt, IsSome, Option, Some, None, if◌then◌else◌}
use Rattle.std.specs.List.{flat_map}
use Rattle.pub_set.specs.Choices.{ChoiceSet, do_meet, intersection, is_whole, union}
use Rattle.pub_term.specs.Term.{set_at}
use Rattle.pub_term.specs.declared.term.Term.{Term}

-- a node among ascending ones
abbrev pub insert_node : ℕ → List ℕ → List ℕ
insert_node node [] = node ∷ []
insert_node node (other ∷ others) = if nat_lt node other then node ∷ other ∷ others
    else if node == other then other ∷ others
    else other ∷ insert_node node others

-- the nodes of both, ascending
abbrev pub nodes_of : List Term → List Term → List ℕ
nodes_of [] second = map (λ term. term.node) second
nodes_of (term ∷ first) second = insert_node term.node (nodes_of first second)

abbrev pub unless_whole : ChoiceSet → Option ChoiceSet
unless_whole set = if is_whole set then None else Some set

-- what both together say of a node
abbrev pub joined : Bool → Option ChoiceSet → Option ChoiceSet → Option ChoiceSet
joined is_on None second = second
joined is_on (Some first) None = Some first
joined true (Some first) (Some second) = unless_whole (union first second)
joined false (Some first) (Some second) = Some (intersection first second)

abbrev pub with_node : ℕ → Option ChoiceSet → List Term
with_node node (Some set) = record { node = node; choices = set } ∷ []
with_node node None = []

abbrev pub resolvent : List Term → List Term → ℕ → List Term
resolvent first second on =
    flat_map (λ node. with_node node (joined (node == on) (set_at first node) (set_at second node))) (nodes_of first second)

-- What a resolution asks: both have a term on the node, sets on a shared node have equal sizes, and those on another
-- shared node meet.
pub record CanResolve (first second : List Term) (on : ℕ) : Type 0 where
  pub first_on : IsSome (set_at first on)
  pub second_on : IsSome (set_at second on)
  pub sizes : (node : ℕ) (a b : ChoiceSet) → set_at first node ≡ Some a → set_at second node ≡ Some b → a.size ≡ b.size
  pub meets : (node : ℕ) (a b : ChoiceSet) → node ≢ on → set_at first node ≡ Some a → set_at second node ≡ Some b → do_meet a b ≡ true
