-- How a resolvent unfolds where the head of one list is the lesser, or both heads are on one node; and that it ascends.
use Rattle.std.proofs.Common.{◌≡◌, ℕ, ◌<◌, ◌==◌, List, [], ◌∷◌, ◌++◌, Option, Some, None, refl, sym, ap, ap₂, ◌∙◌, subst, arith}
use Rattle.std.specs.List.{flat_map}
use Rattle.pub_set.specs.Choices.{ChoiceSet}
use Rattle.pub_term.specs.Resolvent.{joined, nodes_of, resolvent, with_node}
use Rattle.pub_term.specs.Term.{AreNodesAscending, set_at}
use Rattle.pub_term.specs.declared.term.Term.{Term}
use Rattle.pub_term.proofs.AboveLemmas.{AreAbove, AreAbove-nodes_of, AreAbove-tail, AreNodesAscending-cons, AreNodesAscending-tail, AreUp, AreUp-nodes_of, node_list, nodes_of-both, nodes_of-first, nodes_of-second, set_at-head, set_at-none, set_at-tail}

-- what two lists say together of a node
abbrev pub set_of_both : List Term → List Term → ℕ → ℕ → Option ChoiceSet
set_of_both first second on node = joined (node == on) (set_at first node) (set_at second node)

-- the terms on these nodes
abbrev pub terms_on : (ℕ → Option ChoiceSet) → List ℕ → List Term
terms_on set_of nodes = flat_map (λ node. with_node node (set_of node)) nodes

-- terms on nodes above one are told by what is said above it
terms_on-above : (f g : ℕ → Option ChoiceSet) (low : ℕ) (nodes : List ℕ) → AreAbove low nodes → ((node : ℕ) → low < node → f node ≡ g node)
    → terms_on f nodes ≡ terms_on g nodes
terms_on-above f g low [] above same = refl
terms_on-above f g low (node ∷ nodes) above same =
    ap₂ ◌++◌ (ap (with_node node) (same node above.0)) (terms_on-above f g low nodes above.1 same)

-- ---- the steps

-- the resolvent begins with the first list's head where that is the least
pub resolvent-first : (term : Term) (first second : List Term) (on : ℕ) → AreNodesAscending (term ∷ first) → AreAbove term.node (node_list second)
    → resolvent (term ∷ first) second on ≡ term ∷ resolvent first second on
resolvent-first term first second on up above =
    let above_first = AreAbove-tail term first up in
    let here : set_of_both (term ∷ first) second on term.node ≡ Some term.choices
    = ap₂ (joined (term.node == on)) (set_at-head term first term.node refl) (set_at-none term.node second term.node (omega arith) above) in
    ap (terms_on (set_of_both (term ∷ first) second on)) (nodes_of-first term first second above_first above)
    ∙ ap₂ ◌++◌ (ap (with_node term.node) here)
    (terms_on-above (set_of_both (term ∷ first) second on) (set_of_both first second on) term.node (nodes_of first second)
    (AreAbove-nodes_of term.node first second above_first above)
    (λ node over. ap (λ set. joined (node == on) set (set_at second node)) (set_at-tail term first node (λ e. omega arith))))

-- and with the second's where that is
pub resolvent-second : (first : List Term) (term : Term) (second : List Term) (on : ℕ) → AreAbove term.node (node_list first)
    → AreNodesAscending (term ∷ second) → resolvent first (term ∷ second) on ≡ term ∷ resolvent first second on
resolvent-second first term second on above up =
    let above_second = AreAbove-tail term second up in
    let here : set_of_both first (term ∷ second) on term.node ≡ Some term.choices
    = ap₂ (joined (term.node == on)) (set_at-none term.node first term.node (omega arith) above) (set_at-head term second term.node refl) in
    ap (terms_on (set_of_both first (term ∷ second) on)) (nodes_of-second first term second above)
    ∙ ap₂ ◌++◌ (ap (with_node term.node) here)
    (terms_on-above (set_of_both first (term ∷ second) on) (set_of_both first second on) term.node (nodes_of first second)
    (AreAbove-nodes_of term.node first second above above_second)
    (λ node over. ap (λ set. joined (node == on) (set_at first node) set) (set_at-tail term second node (λ e. omega arith))))

-- and with what both say where the heads are on one node
pub resolvent-both : (term other : Term) (first second : List Term) (on : ℕ) → term.node ≡ other.node → AreNodesAscending (term ∷ first)
    → AreNodesAscending (other ∷ second)
    → resolvent (term ∷ first) (other ∷ second) on
    ≡ with_node term.node (joined (term.node == on) (Some term.choices) (Some other.choices)) ++ resolvent first second on
resolvent-both term other first second on same up_first up_second =
    let above_first = AreAbove-tail term first up_first in
    let above_second = subst (λ node. AreAbove node (node_list second)) (sym same) (AreAbove-tail other second up_second) in
    let here : set_of_both (term ∷ first) (other ∷ second) on term.node ≡ joined (term.node == on) (Some term.choices) (Some other.choices)
    = ap₂ (joined (term.node == on)) (set_at-head term first term.node refl) (set_at-head other second term.node (sym same)) in
    ap (terms_on (set_of_both (term ∷ first) (other ∷ second) on)) (nodes_of-both term other first second same above_first)
    ∙ ap₂ ◌++◌ (ap (with_node term.node) here)
    (terms_on-above (set_of_both (term ∷ first) (other ∷ second) on) (set_of_both first second on) term.node (nodes_of first second)
    (AreAbove-nodes_of term.node first second above_first above_second)
    (λ node over.
    ap₂ (joined (node == on)) (set_at-tail term first node (λ e. omega arith)) (set_at-tail other second node (λ e. omega arith))))

-- one list is at its end
pub resolvent-nil_first : (second : List Term) (on : ℕ) → AreNodesAscending second → resolvent [] second on ≡ second
resolvent-nil_first [] on up = refl
resolvent-nil_first (term ∷ second) on up =
    resolvent-second [] term second on tt up
    ∙ ap (λ terms. term ∷ terms) (resolvent-nil_first second on (AreNodesAscending-tail term second up))

-- with nothing to resolve it is the first list
pub resolvent-nil_second : (first : List Term) (on : ℕ) → AreNodesAscending first → resolvent first [] on ≡ first
resolvent-nil_second [] on up = refl
resolvent-nil_second (term ∷ first) on up =
    resolvent-first term first [] on up tt ∙ ap (λ terms. term ∷ terms) (resolvent-nil_second first on (AreNodesAscending-tail term first up))

-- ---- it ascends

-- a term above a node before others above it
AreAbove-with_node : (low node : ℕ) (set : Option ChoiceSet) (terms : List Term) → low < node → AreAbove low (node_list terms)
    → AreAbove low (node_list (with_node node set ++ terms))
AreAbove-with_node low node None terms below above = above
AreAbove-with_node low node (Some set) terms below above = (below, above)

-- terms on nodes above one are above it
AreAbove-terms_on : (set_of : ℕ → Option ChoiceSet) (low : ℕ) (nodes : List ℕ) → AreAbove low nodes → AreAbove low (node_list (terms_on set_of nodes))
AreAbove-terms_on set_of low [] above = tt
AreAbove-terms_on set_of low (node ∷ nodes) above =
    AreAbove-with_node low node (set_of node) (terms_on set_of nodes) above.0 (AreAbove-terms_on set_of low nodes above.1)

-- a term before those above it
AreNodesAscending-with_node : (node : ℕ) (set : Option ChoiceSet) (terms : List Term) → AreAbove node (node_list terms) → AreNodesAscending terms
    → AreNodesAscending (with_node node set ++ terms)
AreNodesAscending-with_node node None terms above up = up
AreNodesAscending-with_node node (Some set) terms above up =
    AreNodesAscending-cons (record { node = node; choices = set }) terms above up

-- terms on nodes that ascend do so
AreNodesAscending-terms_on : (set_of : ℕ → Option ChoiceSet) (nodes : List ℕ) → AreUp nodes → AreNodesAscending (terms_on set_of nodes)
AreNodesAscending-terms_on set_of [] up = tt
AreNodesAscending-terms_on set_of (node ∷ nodes) up =
    AreNodesAscending-with_node node (set_of node) (terms_on set_of nodes)
    (AreAbove-terms_on set_of node nodes up.0) (AreNodesAscending-terms_on set_of nodes up.1)

-- so a resolvent's nodes ascend
pub AreNodesAscending-resolvent : (first second : List Term) (on : ℕ) → AreNodesAscending second → AreNodesAscending (resolvent first second on)
AreNodesAscending-resolvent first second on up =
    AreNodesAscending-terms_on (set_of_both first second on) (nodes_of first second) (AreUp-nodes_of first second up)
