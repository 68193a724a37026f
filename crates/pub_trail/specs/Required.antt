-- What is decided of each node, and which nodes the facts of the loads require that aren't decided.
use Rattle.std.specs.Prelude.{◌≡◌, ℕ, ◌<◌, ◌==◌, ◌&&◌, List, [], ◌∷◌, length, get_or, All, Bool, false, not, Option, Some, None, if◌then◌else◌}
use Rattle.std.specs.List.{filter, list_any}
use Rattle.pub_set.specs.Choices.{has}
use Rattle.pub_term.specs.Term.{AreNodesAscending}
use Rattle.pub_term.specs.declared.term.Term.{Term}
use Rattle.pub_trail.specs.First.{first_or, is_asked}
use Rattle.pub_trail.specs.Trail.{by_reason, is_decided}
use Rattle.pub_trail.specs.declared.origin.Origin.{Origin}
use Rattle.pub_trail.specs.declared.origin.Origin.TheVariants.{OfConflict, OfLoad}
use Rattle.pub_trail.specs.declared.trail.Assigned.{Assigned}

-- the decided choice of a node, if it is decided
abbrev pub decision_of : List Assigned → ℕ → Option ℕ
decision_of [] node = None
decision_of (entry ∷ before) node =
    by_reason entry.reason (if entry.node == node then Some (first_or entry.choices.members 0) else decision_of before node)
    (λ number. decision_of before node)

-- what is kept of decisions
abbrev pub decision_in : List (Option ℕ) → ℕ → Option ℕ
decision_in decisions node = get_or decisions node None

-- for each node what is decided of it
pub record AreDecisions (count : ℕ) (trail : List Assigned) (decisions : List (Option ℕ)) : Type 0 where
  pub nodes : length decisions ≡ count
  pub each : (node : ℕ) → node < count → decision_in decisions node ≡ decision_of trail node

-- the incompatibilities that loads brought
abbrev pub loaded_facts : List (List Term) → List Origin → List (List Term)
loaded_facts [] origins = []
loaded_facts (terms ∷ others) [] = []
loaded_facts (terms ∷ others) (OfLoad cause ∷ origins) = terms ∷ loaded_facts others origins
loaded_facts (terms ∷ others) (OfConflict first steps ∷ origins) = loaded_facts others origins

-- a fact requires the node, and it isn't decided
abbrev pub is_open : List (List Term) → List Assigned → ℕ → Bool
is_open facts trail node = list_any (is_asked trail node) facts && not (is_decided trail node)

-- for each node whether it is open
pub record AreOpen (count : ℕ) (facts : List (List Term)) (trail : List Assigned) (opens : List Bool) : Type 0 where
  pub nodes : length opens ≡ count
  pub each : (node : ℕ) → node < count → get_or opens node false ≡ is_open facts trail node

-- ---- the node that one fact requires, by what is decided of nodes

-- the term has the decided choice of its node
abbrev pub is_kept : Option ℕ → Term → Bool
is_kept None term = false
is_kept (Some choice) term = has term.choices choice

-- the node of the one term that hasn't, if it isn't decided and the set has 0
abbrev pub if_undecided : Option ℕ → Term → Option ℕ
if_undecided None term = if has term.choices 0 then Some term.node else None
if_undecided (Some choice) term = None

-- of one term alone
abbrev pub the_required : (ℕ → Option ℕ) → List Term → Option ℕ
the_required decision [] = None
the_required decision (term ∷ []) = if_undecided (decision term.node) term
the_required decision (term ∷ next ∷ terms) = None

-- the node that a fact requires and that isn't decided, if there is one
abbrev pub required_in : (ℕ → Option ℕ) → List Term → Option ℕ
required_in decision terms = the_required decision (filter (λ term. not (is_kept (decision term.node) term)) terms)

-- the node is this one
abbrev pub is_node : ℕ → Option ℕ → Bool
is_node node None = false
is_node node (Some other) = other == node

-- for each node whether some fact requires it, by what is decided of nodes
pub record AreMarked (decision : ℕ → Option ℕ) (count : ℕ) (facts : List (List Term)) (opens : List Bool) : Type 0 where
  pub nodes : length opens ≡ count
  pub each : (node : ℕ) → node < count → get_or opens node false ≡ list_any (λ terms. is_node node (required_in decision terms)) facts

-- ascending terms on some of so many nodes
abbrev pub AreAmong : ℕ → List Term → Type 0
AreAmong count terms = AreNodesAscending terms × All (λ (term : Term). term.node < count) terms
