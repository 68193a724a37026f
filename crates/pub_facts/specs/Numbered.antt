-- Facts by the numbers of their nodes, in the order of naming.
use Rattle.std.specs.Prelude.{ℕ, suc, ◌<◌, ◌==◌, List, [], ◌∷◌, ◌++◌, map, length, nat_lt, not, ◌≡◌, All, Contains, Option, Some, None, filter_map, flat_map, if◌then◌else◌}
use Rattle.std.specs.List.{filter, list_any}
use Rattle.pub_set.specs.Choices.{intersection, is_empty, is_whole}
use Rattle.pub_term.specs.NodeLaws.{node_eq}
use Rattle.pub_term.specs.Sized.{AreSets, AreSized}
use Rattle.pub_term.specs.Term.{IsIncompat}
use Rattle.pub_term.specs.declared.cause.Cause.{Cause}
use Rattle.pub_term.specs.declared.node.NodeName.{NodeName}
use Rattle.pub_term.specs.declared.term.Incompat.{Incompat}
use Rattle.pub_term.specs.declared.term.Term.{Term}
use Rattle.pub_facts.specs.Catalogue.{Lookups}
use Rattle.pub_facts.specs.Facts.{size_of}
use Rattle.pub_facts.specs.declared.fact.Fact.{Fact}
use Rattle.pub_facts.specs.declared.fact.Written.{Written}

-- the place of a name, or how many there are
abbrev pub number_in : List NodeName → NodeName → ℕ
number_in [] node = 0
number_in (first ∷ names) node = if node_eq first node then 0 else suc (number_in names node)

-- ---- the incompatibility of a fact: nodes ascending, two terms on one node intersected

abbrev pub merged : Term → List Term → List Term
merged term [] = term ∷ []
merged term (other ∷ others) =
    if nat_lt term.node other.node then term ∷ other ∷ others
    else if term.node == other.node then record { node = term.node; choices = intersection term.choices other.choices } ∷ others
    else other ∷ merged term others

abbrev pub merged_into : List Term → List Term → List Term
merged_into others [] = others
merged_into others (term ∷ terms) = merged term (merged_into others terms)

abbrev pub all_merged : List Term → List Term
all_merged terms = merged_into [] terms

-- a fact with an empty set always holds, and is left out
abbrev pub unless_empty : List Term → Option (List Term)
unless_empty terms = if list_any (λ term. is_empty term.choices) terms then None else Some terms

-- a term of all choices says nothing, and is dropped
abbrev pub incompat_in : List Term → Option (List Term)
incompat_in terms = unless_empty (filter (λ term. not (is_whole term.choices)) (all_merged terms))

abbrev pub term_of : (NodeName → ℕ) → Written → Term
term_of number written = record { node = number written.node; choices = written.choices }

abbrev pub incompat_of : (NodeName → ℕ) → Fact → Option (List Term)
incompat_of number fact = incompat_in (map (term_of number) fact.terms)

abbrev pub incompats_of : (NodeName → ℕ) → List Fact → List (List Term)
incompats_of number facts = filter_map (incompat_of number) facts

-- the same with its cause
abbrev pub with_cause : Cause → Option (List Term) → Option (Incompat × Cause)
with_cause cause None = None
with_cause cause (Some terms) = Some (record { terms = terms }, cause)

abbrev pub caused_of : (NodeName → ℕ) → Fact → Option (Incompat × Cause)
caused_of number fact = with_cause fact.cause (incompat_of number fact)

abbrev pub numbered : (NodeName → ℕ) → List Fact → List (Incompat × Cause)
numbered number facts = filter_map (caused_of number) facts

-- ---- names

-- the nodes that are written, each at its first place, without those that are named
abbrev pub new_names : List NodeName → List NodeName → List NodeName
new_names names [] = []
new_names names (node ∷ nodes) = if list_any (node_eq node) names then new_names names nodes else node ∷ new_names (names ++ node ∷ []) nodes

abbrev pub written_nodes : List Fact → List NodeName
written_nodes facts = flat_map (λ (fact : Fact). map (λ (term : Written). term.node) fact.terms) facts

-- ---- the sizes of the nodes, and what facts have to be to be numbered

-- how many choices each node has
abbrev pub sizes_of : Lookups → List NodeName → List ℕ
sizes_of l nodes = map (size_of l) nodes

-- each node that is written is known
abbrev pub AreNamed : List NodeName → List Fact → Type 0
AreNamed nodes facts = (node : NodeName) → Contains (written_nodes facts) node → number_in nodes node < length nodes

-- each term on the node has a set of this size
abbrev pub HaveSize : ℕ → ℕ → List Term → Type 0
HaveSize node size terms = All (λ (term : Term). term.node ≡ node → term.choices.size ≡ size) terms

-- well formed terms: an incompatibility, whose sets are sets of their nodes' sizes
pub record IsFormed (sizes : List ℕ) (terms : List Term) : Type 0 where
  pub incompat : IsIncompat terms
  pub sized : AreSized sizes terms
  pub sets : AreSets terms
