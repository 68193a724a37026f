-- Ascending terms and their nodes: each is above those before it, and so the nodes of two lists begin with the lesser head.
use Rattle.std.proofs.Common.{◌≡◌, ℕ, zero, suc, ◌<◌, ◌≤◌, ◌==◌, nat_lt, cond, List, [], ◌∷◌, map, length, get_or, drop, Some, None, refl, sym, ap, ◌∙◌, subst, arith, lt-ltb, le-ltb, ltb-true, ltb-false, eq-eqb, ne_eqb}
use Rattle.std.proofs.lemmas.Bool.{cond-true, cond-false, cond_both, eqb-false}
use Rattle.pub_term.specs.Resolvent.{insert_node, nodes_of}
use Rattle.pub_term.specs.Term.{AreNodesAscending, set_at}
use Rattle.pub_term.specs.declared.term.Term.{Term}

-- the nodes of terms, in their order
abbrev pub node_list : List Term → List ℕ
node_list terms = map (λ term. term.node) terms

-- each number is above this one
abbrev pub AreAbove : ℕ → List ℕ → Type 0
AreAbove low [] = Unit {0}
AreAbove low (node ∷ nodes) = (low < node) × AreAbove low nodes

-- each number is above those before it
abbrev pub AreUp : List ℕ → Type 0
AreUp [] = Unit {0}
AreUp (node ∷ nodes) = AreAbove node nodes × AreUp nodes

-- nodes above one are above a lesser one
pub AreAbove-lower : (low high : ℕ) (nodes : List ℕ) → low ≤ high → AreAbove high nodes → AreAbove low nodes
AreAbove-lower low high [] below above = tt
AreAbove-lower low high (node ∷ nodes) below above = (omega arith, AreAbove-lower low high nodes below above.1)

-- ---- ascending terms

-- the rest of ascending terms ascends
pub AreNodesAscending-tail : (term : Term) (terms : List Term) → AreNodesAscending (term ∷ terms) → AreNodesAscending terms
AreNodesAscending-tail term [] up = tt
AreNodesAscending-tail term (next ∷ terms) up = up.1

-- and is above the first
pub AreAbove-tail : (term : Term) (terms : List Term) → AreNodesAscending (term ∷ terms) → AreAbove term.node (node_list terms)
AreAbove-tail term [] up = tt
AreAbove-tail term (next ∷ terms) up =
    (up.0, AreAbove-lower term.node next.node (node_list terms) (omega arith) (AreAbove-tail next terms up.1))

-- a term before those above it
pub AreNodesAscending-cons : (term : Term) (terms : List Term) → AreAbove term.node (node_list terms) → AreNodesAscending terms
    → AreNodesAscending (term ∷ terms)
AreNodesAscending-cons term [] above up = tt
AreNodesAscending-cons term (next ∷ terms) above up = (above.0, up)

-- from any place on terms ascend
pub AreNodesAscending-drop : (i : ℕ) (terms : List Term) → AreNodesAscending terms → AreNodesAscending (drop i terms)
AreNodesAscending-drop zero terms up = up
AreNodesAscending-drop (suc i) [] up = tt
AreNodesAscending-drop (suc i) (term ∷ terms) up = AreNodesAscending-drop i terms (AreNodesAscending-tail term terms up)

-- ---- a node that is put among ascending ones

-- a node below all others comes first
pub insert_node-least : (node : ℕ) (nodes : List ℕ) → AreAbove node nodes → insert_node node nodes ≡ node ∷ nodes
insert_node-least node [] above = refl
insert_node-least node (other ∷ others) above = cond-true (nat_lt node other) _ _ (lt-ltb node other above.0)

-- one that is there already isn't put twice
pub insert_node-same : (node other : ℕ) (others : List ℕ) → node ≡ other → insert_node node (other ∷ others) ≡ other ∷ others
insert_node-same node other others same =
    cond-false (nat_lt node other) _ _ (le-ltb node other (omega arith)) ∙ cond-true (node == other) _ _ (eq-eqb node other same)

-- one above the first goes behind it
pub insert_node-past : (node other : ℕ) (others : List ℕ) → other < node → insert_node node (other ∷ others) ≡ other ∷ insert_node node others
insert_node-past node other others less =
    cond-false (nat_lt node other) _ _ (le-ltb node other (omega arith)) ∙ cond-false (node == other) _ _ (ne_eqb node other (λ e. omega arith))

-- nodes above one, with one more above it
pub AreAbove-insert_node : (low node : ℕ) (nodes : List ℕ) → low < node → AreAbove low nodes → AreAbove low (insert_node node nodes)
AreAbove-insert_node low node [] below above = (below, tt)
AreAbove-insert_node low node (other ∷ others) below above =
    cond_both (nat_lt node other) (node ∷ other ∷ others) (cond (node == other) (other ∷ others) (other ∷ insert_node node others)) (AreAbove low)
    (λ _. (below, above))
    (λ _.
    cond_both (node == other) (other ∷ others) (other ∷ insert_node node others) (AreAbove low)
    (λ _. above) (λ _. (above.0, AreAbove-insert_node low node others below above.1)))

-- nodes that ascend do so with one more
pub AreUp-insert_node : (node : ℕ) (nodes : List ℕ) → AreUp nodes → AreUp (insert_node node nodes)
AreUp-insert_node node [] up = (tt, tt)
AreUp-insert_node node (other ∷ others) up =
    cond_both (nat_lt node other) (node ∷ other ∷ others) (cond (node == other) (other ∷ others) (other ∷ insert_node node others)) AreUp
    (λ less.
    let below = ltb-true node other less in
    ((below, AreAbove-lower node other others (omega arith) up.0), up))
    (λ not_less.
    cond_both (node == other) (other ∷ others) (other ∷ insert_node node others) AreUp
    (λ _. up)
    (λ other_node.
    let below : other < node = omega (arith, ltb-false node other not_less, eqb-false node other other_node) in
    (AreAbove-insert_node other node others below up.0, AreUp-insert_node node others up.1)))

-- ---- the nodes of two lists

-- the nodes of two lists above one are above it
pub AreAbove-nodes_of : (low : ℕ) (first second : List Term) → AreAbove low (node_list first) → AreAbove low (node_list second)
    → AreAbove low (nodes_of first second)
AreAbove-nodes_of low [] second above_first above_second = above_second
AreAbove-nodes_of low (term ∷ first) second above_first above_second =
    AreAbove-insert_node low term.node (nodes_of first second) above_first.0 (AreAbove-nodes_of low first second above_first.1 above_second)

-- the nodes of ascending terms ascend
AreUp-node_list : (terms : List Term) → AreNodesAscending terms → AreUp (node_list terms)
AreUp-node_list [] up = tt
AreUp-node_list (term ∷ terms) up = (AreAbove-tail term terms up, AreUp-node_list terms (AreNodesAscending-tail term terms up))

-- and so do those of two lists
pub AreUp-nodes_of : (first second : List Term) → AreNodesAscending second → AreUp (nodes_of first second)
AreUp-nodes_of [] second up = AreUp-node_list second up
AreUp-nodes_of (term ∷ first) second up = AreUp-insert_node term.node (nodes_of first second) (AreUp-nodes_of first second up)

-- the first list's head is the lesser, or the second's, or they are on one node
pub nodes_of-first : (term : Term) (first second : List Term) → AreAbove term.node (node_list first) → AreAbove term.node (node_list second)
    → nodes_of (term ∷ first) second ≡ term.node ∷ nodes_of first second
nodes_of-first term first second above_first above_second =
    insert_node-least term.node (nodes_of first second) (AreAbove-nodes_of term.node first second above_first above_second)

-- where the second list's head is the least, it comes first
pub nodes_of-second : (first : List Term) (term : Term) (second : List Term) → AreAbove term.node (node_list first)
    → nodes_of first (term ∷ second) ≡ term.node ∷ nodes_of first second
nodes_of-second [] term second above = refl
nodes_of-second (head ∷ first) term second above =
    ap (insert_node head.node) (nodes_of-second first term second above.1) ∙ insert_node-past head.node term.node (nodes_of first second) above.0

-- where the heads are on one node, it comes first, once
pub nodes_of-both : (term other : Term) (first second : List Term) → term.node ≡ other.node → AreAbove term.node (node_list first)
    → nodes_of (term ∷ first) (other ∷ second) ≡ term.node ∷ nodes_of first second
nodes_of-both term other first second same above =
    ap (insert_node term.node) (nodes_of-second first other second (subst (λ node. AreAbove node (node_list first)) same above))
    ∙ insert_node-same term.node other.node (nodes_of first second) same ∙ ap (λ node. node ∷ nodes_of first second) (sym same)

-- ---- the set of the term on a node

-- the set on the first term's node is its own
pub set_at-head : (term : Term) (terms : List Term) (node : ℕ) → term.node ≡ node → set_at (term ∷ terms) node ≡ Some term.choices
set_at-head term terms node same = cond-true (term.node == node) _ _ (eq-eqb term.node node same)

-- on another node it is that of the rest
pub set_at-tail : (term : Term) (terms : List Term) (node : ℕ) → (term.node ≡ node → ⊥) → set_at (term ∷ terms) node ≡ set_at terms node
set_at-tail term terms node differs = cond-false (term.node == node) _ _ (ne_eqb term.node node differs)

-- there is none on a node that all terms are above
pub set_at-none : (low : ℕ) (terms : List Term) (node : ℕ) → node ≤ low → AreAbove low (node_list terms) → set_at terms node ≡ None
set_at-none low [] node below above = refl
set_at-none low (term ∷ terms) node below above =
    set_at-tail term terms node (λ e. omega (arith, above.0)) ∙ set_at-none low terms node below above.1

-- each of the nodes is above what all are above
AreAbove-place : (low : ℕ) (terms : List Term) (i : ℕ) (term : Term) → i < length terms → AreAbove low (node_list terms)
    → low < (get_or terms i term).node
AreAbove-place low [] i term within above = absurd (omega arith)
AreAbove-place low (head ∷ terms) zero term within above = above.0
AreAbove-place low (head ∷ terms) (suc i) term within above = AreAbove-place low terms i term (omega arith) above.1

-- on the node of a term stands its set
pub set_at-place : (terms : List Term) (i : ℕ) (term : Term) → AreNodesAscending terms → i < length terms
    → set_at terms (get_or terms i term).node ≡ Some (get_or terms i term).choices
set_at-place [] i term up within = absurd (omega arith)
set_at-place (head ∷ terms) zero term up within = set_at-head head terms head.node refl
set_at-place (head ∷ terms) (suc i) term up within =
    let here : i < length terms = omega arith in
    set_at-tail head terms (get_or terms i term).node
    (λ e. omega (arith, AreAbove-place head.node terms i term here (AreAbove-tail head terms up)))
    ∙ set_at-place terms i term (AreNodesAscending-tail head terms up) here
