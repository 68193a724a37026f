-- Lists of nodes as sets: which nodes are on once one more is put, and how a list grows.
use Rattle.std.proofs.Common.{◌≡◌, ◌||◌, Bool, true, false, not, List, [], ◌∷◌, Contains, refl, sym, ap, ap₂, ◌∙◌, subst, inl, inr, ◌⊎◌}
use Rattle.std.specs.BTreeMap.{is_at}
use Rattle.std.specs.BTreeSet.{insert_key}
use Rattle.std.specs.Bool.{OnFalse}
use Rattle.std.specs.List.{list_any}
use Rattle.std.specs.Ordering.{is_eq, match_ordering}
use Rattle.std.specs.declared.cmp.Ordering.{Ordering}
use Rattle.std.specs.declared.cmp.Ordering.TheVariants.{Less, Equal, Greater}
use Rattle.std.proofs.lemmas.Bool.{OnFalse_at, cases_Bool, cond-false, cond-true, false≢true, or_cases, or_left, or_right}
use Rattle.std.proofs.lemmas.Cmp.{tied_itself}
use Rattle.pub_term.specs.Node.{node_cmp}
use Rattle.pub_term.specs.NodeLaws.{node_eq, node_ties, node_total}
use Rattle.pub_term.specs.declared.node.NodeName.{NodeName}
use Rattle.pub_facts.proofs.FactLemmas.{node_same}
use Rattle.pub_facts.proofs.Members.{contains_cases, contains_head, contains_nothing, contains_tail}
use Rattle.spm_judge.specs.Spread.{is_on, put_on}

-- ---- which nodes are on

-- nodes that the order doesn't tell apart are one
pub node_one : (first second : NodeName) → is_at (node_cmp first) second ≡ true → first ≡ second
node_one first second is = node_same first second (node_ties first second ∙ is)

-- a node is at itself
pub node_itself : (node : NodeName) → is_at (node_cmp node) node ≡ true
node_itself node = ap is_eq (tied_itself node_total node)

-- a node that is on is in the list
pub contains_on : (on : List NodeName) (node : NodeName) → is_on on node ≡ true → Contains on node
contains_on [] node is = absurd (false≢true is)
contains_on (first ∷ on) node is = elim (or_cases (is_at (node_cmp node) first) (is_on on node) is) [
  | inl same ↦ subst (λ n. Contains (n ∷ on) node) (node_one node first same) (contains_head node on)
  | inr later ↦ contains_tail first node on (contains_on on node later)
]

-- a node of the list is on
pub on_contains : (on : List NodeName) (node : NodeName) → Contains on node → is_on on node ≡ true
on_contains [] node here = absurd (contains_nothing node here)
on_contains (first ∷ on) node here = elim (contains_cases first node on here) [
  | inl same ↦ or_left (is_at (node_cmp node) first) (is_on on node) (subst (λ n. is_at (node_cmp node) n ≡ true) (sym same) (node_itself node))
  | inr later ↦ or_right (is_at (node_cmp node) first) (is_on on node) (on_contains on node later)
]

-- truths may change places
or_swapped : (a b c : Bool) → (a || (b || c)) ≡ (b || (a || c))
or_swapped true true c = refl
or_swapped true false c = refl
or_swapped false b c = refl

-- a truth counts once
or_twice : (a b : Bool) → (a || b) ≡ (a || (a || b))
or_twice true b = refl
or_twice false b = refl

-- what is on after a node was put before, at or behind another
put_at : (o : Ordering) (node first : NodeName) (on put : List NodeName) (other : NodeName) → node_cmp node first ≡ o
    → is_on put other ≡ (is_at (node_cmp other) node || is_on on other)
    → is_on (match_ordering o (node ∷ first ∷ on) (first ∷ on) (first ∷ put)) other
    ≡ (is_at (node_cmp other) node || is_on (first ∷ on) other)
put_at Less node first on put other is later = refl
put_at Equal node first on put other is later =
    let same : node ≡ first = node_one node first (ap is_eq is) in
    subst (λ n. is_on (first ∷ on) other ≡ (is_at (node_cmp other) n || is_on (first ∷ on) other)) (sym same)
    (or_twice (is_at (node_cmp other) first) (is_on on other))
put_at Greater node first on put other is later =
    ap (λ b. is_at (node_cmp other) first || b) later ∙ or_swapped (is_at (node_cmp other) first) (is_at (node_cmp other) node) (is_on on other)

-- after a node is inserted, it and the earlier nodes are on
pub on_inserted : (node : NodeName) (on : List NodeName) (other : NodeName)
    → is_on (insert_key node_cmp on node) other ≡ (is_at (node_cmp other) node || is_on on other)
on_inserted node [] other = refl
on_inserted node (first ∷ on) other =
    put_at (node_cmp node first) node first on (insert_key node_cmp on node) other refl (on_inserted node on other)

-- a node that is put is on
pub put_there : (on : List NodeName) (node : NodeName) → is_on (put_on on node) node ≡ true
put_there on node = elim (cases_Bool (is_on on node)) [
  | inl here ↦ ap (λ l. is_on l node) (cond-true (is_on on node) on (insert_key node_cmp on node) here) ∙ here
  | inr absent ↦
      ap (λ l. is_on l node) (cond-false (is_on on node) on (insert_key node_cmp on node) absent)
      ∙ (on_inserted node on node ∙ or_left (is_at (node_cmp node) node) (is_on on node) (node_itself node))
]

-- those that were on still are
pub put_kept : (on : List NodeName) (node other : NodeName) → is_on on other ≡ true → is_on (put_on on node) other ≡ true
put_kept on node other is = elim (cases_Bool (is_on on node)) [
  | inl here ↦ ap (λ l. is_on l other) (cond-true (is_on on node) on (insert_key node_cmp on node) here) ∙ is
  | inr absent ↦
      ap (λ l. is_on l other) (cond-false (is_on on node) on (insert_key node_cmp on node) absent)
      ∙ (on_inserted node on other ∙ or_right (is_at (node_cmp other) node) (is_on on other) is)
]

-- what is on after a node is put is that node, or was on
pub put_cases : (on : List NodeName) (node other : NodeName) → is_on (put_on on node) other ≡ true → (other ≡ node) ⊎ (is_on on other ≡ true)
put_cases on node other is = elim (cases_Bool (is_on on node)) [
  | inl here ↦ inr (ap (λ l. is_on l other) (sym (cond-true (is_on on node) on (insert_key node_cmp on node) here)) ∙ is)
  | inr absent ↦
      elim
      (or_cases (is_at (node_cmp other) node) (is_on on other)
      (sym (on_inserted node on other)
      ∙ (ap (λ l. is_on l other) (sym (cond-false (is_on on node) on (insert_key node_cmp on node) absent)) ∙ is))) [
        | inl same ↦ inl (node_one other node same)
        | inr was ↦ inr was
      ]
]

-- what the set says of an insertion is that the node is put
pub inserted_is : (on after : List NodeName) (node : NodeName) (added : Bool) → added ≡ not (is_on on node) → OnFalse added (after ≡ on)
    → after ≡ insert_key node_cmp on node → after ≡ put_on on node
inserted_is on after node added is same inserted = by_test (is_on on node) refl
  where
    by_test : (b : Bool) → is_on on node ≡ b → after ≡ put_on on node
    by_test true here =
        OnFalse_at (is ∙ ap not here) same ∙ sym (cond-true (is_on on node) on (insert_key node_cmp on node) here)
    by_test false absent = inserted ∙ sym (cond-false (is_on on node) on (insert_key node_cmp on node) absent)

-- a node is on where one equal to it is in the list
pub on_equal : (on : List NodeName) (node : NodeName) → is_on on node ≡ list_any (node_eq node) on
on_equal [] node = refl
on_equal (first ∷ on) node = ap₂ (λ a b. a || b) (sym (node_ties node first)) (on_equal on node)
