-- An assignment that violates a resolvent violates one of the two incompatibilities.
use Rattle.std.proofs.Common.{◌≡◌, ◌⊎◌, ℕ, ◌<◌, ◌==◌, Bool, true, false, cond, ◌&&◌, ◌||◌, nat_lt, List, [], ◌∷◌, Option, Some, None, IsSome, refl, sym, ap, ap₂, ◌∙◌, subst, inl, inr, arith, eqb-true, eq-eqb, ne_eqb}
use Rattle.std.specs.List.{flat_map, list_all}
use Rattle.std.proofs.lemmas.Bool.{and_from, and_parts, cases_Bool, cases_eq, cond-false, cond_both, false≢true, or_cases, or_left, or_right}
use Rattle.std.proofs.lemmas.List.Folds.{list_all-append}
use Rattle.pub_set.specs.Choices.{ChoiceSet, has, intersection, is_among, is_whole, union}
use Rattle.pub_term.specs.Resolvent.{CanResolve, insert_node, joined, nodes_of, resolvent, unless_whole, with_node}
use Rattle.pub_term.specs.Term.{AreNodesAscending, set_at, violates}
use Rattle.pub_term.specs.declared.term.Term.{Term}
use Rattle.pub_term.proofs.AboveLemmas.{AreAbove-tail, AreNodesAscending-tail, node_list, set_at-head, set_at-none, set_at-tail}
use Rattle.pub_term.proofs.ProperLemmas.{has-whole, passes-where}
use Rattle.pub_term.proofs.ResolventLemmas.{set_of_both}

-- ---- which nodes there are

-- a node that was put is there
is_among-insert_new : (node : ℕ) (nodes : List ℕ) → is_among (insert_node node nodes) node ≡ true
is_among-insert_new node [] = or_left (node == node) false (eq-eqb node node refl)
is_among-insert_new node (other ∷ others) =
    cond_both (nat_lt node other) (node ∷ other ∷ others) (cond (node == other) (other ∷ others) (other ∷ insert_node node others))
    (λ nodes. is_among nodes node ≡ true)
    (λ _. or_left (node == node) (is_among (other ∷ others) node) (eq-eqb node node refl))
    (λ _.
    cond_both (node == other) (other ∷ others) (other ∷ insert_node node others) (λ nodes. is_among nodes node ≡ true)
    (λ same. or_left (other == node) (is_among others node) (eq-eqb other node (sym (eqb-true node other same))))
    (λ _. or_right (other == node) (is_among (insert_node node others) node) (is_among-insert_new node others)))

-- those that were there stay
is_among-insert_old : (node : ℕ) (nodes : List ℕ) (k : ℕ) → is_among nodes k ≡ true → is_among (insert_node node nodes) k ≡ true
is_among-insert_old node [] k here = absurd (false≢true here)
is_among-insert_old node (other ∷ others) k here =
    cond_both (nat_lt node other) (node ∷ other ∷ others) (cond (node == other) (other ∷ others) (other ∷ insert_node node others))
    (λ nodes. is_among nodes k ≡ true)
    (λ _. or_right (node == k) (is_among (other ∷ others) k) here)
    (λ _.
    cond_both (node == other) (other ∷ others) (other ∷ insert_node node others) (λ nodes. is_among nodes k ≡ true)
    (λ _. here)
    (λ _.
    elim (or_cases (other == k) (is_among others k) here) [
      | inl same ↦ or_left (other == k) (is_among (insert_node node others) k) same
      | inr behind ↦ or_right (other == k) (is_among (insert_node node others) k) (is_among-insert_old node others k behind)
    ]))

-- the second list's nodes are among those of both
is_among-second : (first second : List Term) (k : ℕ) → is_among (node_list second) k ≡ true → is_among (nodes_of first second) k ≡ true
is_among-second [] second k here = here
is_among-second (term ∷ first) second k here =
    is_among-insert_old term.node (nodes_of first second) k (is_among-second first second k here)

-- and so are the first's
is_among-first : (first second : List Term) (k : ℕ) → is_among (node_list first) k ≡ true → is_among (nodes_of first second) k ≡ true
is_among-first [] second k here = absurd (false≢true here)
is_among-first (term ∷ first) second k here =
    elim (or_cases (term.node == k) (is_among (node_list first) k) here) [
      | inl same ↦
          subst (λ node. is_among (insert_node term.node (nodes_of first second)) node ≡ true) (eqb-true term.node k same)
          (is_among-insert_new term.node (nodes_of first second))
      | inr behind ↦ is_among-insert_old term.node (nodes_of first second) k (is_among-first first second k behind)
    ]

-- a node with a set is among the nodes
is_among-set_at : (terms : List Term) (k : ℕ) (set : ChoiceSet) → set_at terms k ≡ Some set → is_among (node_list terms) k ≡ true
is_among-set_at [] k set at = cc
is_among-set_at (term ∷ terms) k set at =
    elim (cases_eq term.node k) [
      | inl same ↦ or_left (term.node == k) (is_among (node_list terms) k) (eq-eqb term.node k same)
      | inr differs ↦
          or_right (term.node == k) (is_among (node_list terms) k)
          (is_among-set_at terms k set (sym (set_at-tail term terms k differs) ∙ at))
    ]

-- ---- what is violated

-- each term's set has the node's choice
abbrev has_choice : (ℕ → ℕ) → Term → Bool
has_choice assignment term = has term.choices (assignment term.node)

-- what all terms pass those of each node pass
list_all-flat_map : (test : Term → Bool) (f : ℕ → List Term) (nodes : List ℕ) (k : ℕ) → list_all test (flat_map f nodes) ≡ true
    → is_among nodes k ≡ true → list_all test (f k) ≡ true
list_all-flat_map test f [] k all here = absurd (false≢true here)
list_all-flat_map test f (node ∷ nodes) k all here =
    let parts = and_parts (list_all test (f node)) (list_all test (flat_map f nodes)) (sym (list_all-append test (f node) (flat_map f nodes)) ∙ all) in
    elim (or_cases (node == k) (is_among nodes k) here) [
      | inl same ↦ subst (λ n. list_all test (f n) ≡ true) (eqb-true node k same) parts.0
      | inr behind ↦ list_all-flat_map test f nodes k parts.1 behind
    ]

-- terms are violated where each set has its node's choice
violates-each : (assignment : ℕ → ℕ) (terms : List Term) → AreNodesAscending terms
    → ((node : ℕ) (set : ChoiceSet) → set_at terms node ≡ Some set → has set (assignment node) ≡ true) → violates assignment terms ≡ true
violates-each assignment [] up each = refl
violates-each assignment (term ∷ terms) up each =
    and_from (has_choice assignment term) (violates assignment terms)
    (each term.node term.choices (set_at-head term terms term.node refl))
    (violates-each assignment terms (AreNodesAscending-tail term terms up)
    (λ node set at.
    each node set
    (set_at-tail term terms node
    (λ same.
    let none : set_at terms node ≡ None = set_at-none term.node terms node (omega arith) (AreAbove-tail term terms up) in
    cc) ∙ at)))

-- the union has the choice, also where it is dropped
has-unless_whole : (assignment : ℕ → ℕ) (set : ChoiceSet) (node : ℕ) → assignment node < set.size
    → violates assignment (with_node node (unless_whole set)) ≡ true → has set (assignment node) ≡ true
has-unless_whole assignment set node below violated =
    elim (cases_Bool (is_whole set)) [
      | inl whole ↦ has-whole set (assignment node) whole below
      | inr part ↦
          (and_parts (has set (assignment node)) true
          (sym (ap (λ kept. violates assignment (with_node node kept)) (cond-false (is_whole set) None (Some set) part)) ∙ violated)).0
    ]

-- on another node what both say lies within what each says
has-joined_first : (assignment : ℕ → ℕ) (node : ℕ) (set : ChoiceSet) (other : Option ChoiceSet)
    → violates assignment (with_node node (joined false (Some set) other)) ≡ true → has set (assignment node) ≡ true
has-joined_first assignment node set None violated = (and_parts (has set (assignment node)) true violated).0
has-joined_first assignment node set (Some other) violated =
    let here = (and_parts (has (intersection set other) (assignment node)) true violated).0 in
    let both = passes-where set.size (assignment node) (λ k. has set k && has other k) here in
    (and_parts (has set (assignment node)) (has other (assignment node)) both).0

-- what both say on another node lies within what the second says
has-joined_second : (assignment : ℕ → ℕ) (node : ℕ) (other : Option ChoiceSet) (set : ChoiceSet)
    → violates assignment (with_node node (joined false other (Some set))) ≡ true → has set (assignment node) ≡ true
has-joined_second assignment node None set violated = (and_parts (has set (assignment node)) true violated).0
has-joined_second assignment node (Some other) set violated =
    let here = (and_parts (has (intersection other set) (assignment node)) true violated).0 in
    let both = passes-where other.size (assignment node) (λ k. has other k && has set k) here in
    (and_parts (has other (assignment node)) (has set (assignment node)) both).1

-- ---- the law

-- a set that is there
some_set : (set : Option ChoiceSet) → IsSome set → (there : ChoiceSet) × (set ≡ Some there)
some_set None some = absurd (false≢true some)
some_set (Some set) some = (set, refl)

-- the resolvent is violated on each node of either
abbrev ViolatedAt : (ℕ → ℕ) → List Term → List Term → ℕ → ℕ → Type 0
ViolatedAt assignment first second on node = violates assignment (with_node node (set_of_both first second on node)) ≡ true

-- where a resolvent is violated, so is what both say on a node of the first
violated_first : (assignment : ℕ → ℕ) (first second : List Term) (on node : ℕ) (set : ChoiceSet) → violates assignment (resolvent first second on) ≡ true
    → set_at first node ≡ Some set → ViolatedAt assignment first second on node
violated_first assignment first second on node set violated at =
    list_all-flat_map (has_choice assignment) (λ n. with_node n (set_of_both first second on n)) (nodes_of first second) node violated
    (is_among-first first second node (is_among-set_at first node set at))

-- and on a node of the second
violated_second : (assignment : ℕ → ℕ) (first second : List Term) (on node : ℕ) (set : ChoiceSet) → violates assignment (resolvent first second on) ≡ true
    → set_at second node ≡ Some set → ViolatedAt assignment first second on node
violated_second assignment first second on node set violated at =
    list_all-flat_map (has_choice assignment) (λ n. with_node n (set_of_both first second on n)) (nodes_of first second) node violated
    (is_among-second first second node (is_among-set_at second node set at))

-- the first one is violated if its set on the node has the choice, and so is the second one
first_violated : (assignment : ℕ → ℕ) (first second : List Term) (on : ℕ) (set : ChoiceSet) → AreNodesAscending first
    → violates assignment (resolvent first second on) ≡ true → set_at first on ≡ Some set → has set (assignment on) ≡ true
    → violates assignment first ≡ true
first_violated assignment first second on set up violated at here =
    violates-each assignment first up
    (λ node other at_node.
    elim (cases_eq node on) [
      | inl same ↦
          (let e : set ≡ other = cc in
          ap₂ (λ s n. has s (assignment n)) (sym e) same ∙ here)
      | inr differs ↦
          has-joined_first assignment node other (set_at second node)
          (sym (ap₂ (λ is_on o. violates assignment (with_node node (joined is_on o (set_at second node)))) (ne_eqb node on differs) at_node)
          ∙ violated_first assignment first second on node other violated at_node)
    ])

-- a choice on the resolved node in the second's set violates the second
second_violated : (assignment : ℕ → ℕ) (first second : List Term) (on : ℕ) (set : ChoiceSet) → AreNodesAscending second
    → violates assignment (resolvent first second on) ≡ true → set_at second on ≡ Some set → has set (assignment on) ≡ true
    → violates assignment second ≡ true
second_violated assignment first second on set up violated at here =
    violates-each assignment second up
    (λ node other at_node.
    elim (cases_eq node on) [
      | inl same ↦
          (let e : set ≡ other = cc in
          ap₂ (λ s n. has s (assignment n)) (sym e) same ∙ here)
      | inr differs ↦
          has-joined_second assignment node (set_at first node) other
          (sym (ap₂ (λ is_on o. violates assignment (with_node node (joined is_on (set_at first node) o))) (ne_eqb node on differs) at_node)
          ∙ violated_second assignment first second on node other violated at_node)
    ])

-- so one of the two is violated
pub one_violated : (first second : List Term) (on : ℕ) (assignment : ℕ → ℕ) → AreNodesAscending first → AreNodesAscending second → CanResolve first second on
    → ((set : ChoiceSet) → set_at first on ≡ Some set → assignment on < set.size) → violates assignment (resolvent first second on) ≡ true
    → (violates assignment first ≡ true) ⊎ (violates assignment second ≡ true)
one_violated first second on assignment up_first up_second can below violated =
    let a = some_set (set_at first on) can.first_on in
    let b = some_set (set_at second on) can.second_on in
    let joint : set_of_both first second on on ≡ unless_whole (union a.0 b.0)
    = ap (λ is_on. joined is_on (set_at first on) (set_at second on)) (eq-eqb on on refl) ∙ ap₂ (joined true) a.1 b.1 in
    let here : has (union a.0 b.0) (assignment on) ≡ true
    = has-unless_whole assignment (union a.0 b.0) on (below a.0 a.1)
    (sym (ap (λ set. violates assignment (with_node on set)) joint) ∙ violated_first assignment first second on on a.0 violated a.1) in
    elim (or_cases (has a.0 (assignment on)) (has b.0 (assignment on))
    (passes-where a.0.size (assignment on) (λ k. has a.0 k || has b.0 k) here)) [
      | inl in_first ↦ inl (first_violated assignment first second on a.0 up_first violated a.1 in_first)
      | inr in_second ↦ inr (second_violated assignment first second on b.0 up_second violated b.1 in_second)
    ]
