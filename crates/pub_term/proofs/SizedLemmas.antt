-- The sets of a resolvent have the sizes of their nodes, and are sets.
use Rattle.std.proofs.Common.{◌≡◌, ℕ, ◌==◌, Bool, true, false, ◌&&◌, ◌||◌, List, [], ◌∷◌, ◌++◌, Option, Some, None, is_some, refl, sym, ap, ◌∙◌, subst, inl, inr}
use Rattle.std.specs.List.{flat_map}
use Rattle.std.proofs.lemmas.Bool.{cases_Bool, cases_eq, cond-false, cond-true, false≢true}
use Rattle.pub_set.specs.Choices.{ChoiceSet, IsSet, has, intersection, is_whole, union}
use Rattle.pub_set.proofs.SetLemmas.{IsSet-where}
use Rattle.pub_term.specs.Resolvent.{joined, nodes_of, resolvent, unless_whole, with_node}
use Rattle.pub_term.specs.Sized.{AreSets, AreSized, IsSized}
use Rattle.pub_term.specs.Term.{set_at}
use Rattle.pub_term.specs.declared.term.Term.{Term}
use Rattle.pub_term.proofs.AboveLemmas.{set_at-head, set_at-tail}

-- ---- a fact of the set on each node

-- a fact of each term's set on its node
abbrev pub AreEach : (ℕ → ChoiceSet → Type 0) → List Term → Type 0
AreEach P [] = Unit {0}
AreEach P (term ∷ terms) = P term.node term.choices × AreEach P terms

-- the set that stands on a node
each_at : (P : ℕ → ChoiceSet → Type 0) (terms : List Term) (node : ℕ) (set : ChoiceSet) → AreEach P terms → set_at terms node ≡ Some set → P node set
each_at P [] node set each at = absurd (false≢true (ap is_some at))
each_at P (term ∷ terms) node set each at =
    elim (cases_eq term.node node) [
      | inl same ↦
          (let head : Some term.choices ≡ Some set = sym (set_at-head term terms node same) ∙ at in
          let e : term.choices ≡ set = cc in
          subst (λ s. P node s) e (subst (λ n. P n term.choices) same each.0))
      | inr differs ↦ each_at P terms node set each.1 (sym (set_at-tail term terms node differs) ∙ at)
    ]

-- what holds of each term of two lists holds of both together
each_append : (P : ℕ → ChoiceSet → Type 0) (xs ys : List Term) → AreEach P xs → AreEach P ys → AreEach P (xs ++ ys)
each_append P [] ys each_x each_y = each_y
each_append P (x ∷ xs) ys each_x each_y = (each_x.0, each_append P xs ys each_x.1 each_y)

-- and of what is made node by node
each_flat_map : (P : ℕ → ChoiceSet → Type 0) (f : ℕ → List Term) (nodes : List ℕ) → ((node : ℕ) → AreEach P (f node)) → AreEach P (flat_map f nodes)
each_flat_map P f [] each = tt
each_flat_map P f (node ∷ nodes) each = each_append P (f node) (flat_map f nodes) (each node) (each_flat_map P f nodes each)

-- and of a set that may be dropped
each_unless_whole : (P : ℕ → ChoiceSet → Type 0) (node : ℕ) (set : ChoiceSet) → P node set → AreEach P (with_node node (unless_whole set))
each_unless_whole P node set here =
    elim (cases_Bool (is_whole set)) [
      | inl whole ↦ rw (cond-true (is_whole set) _ _ whole) tt
      | inr part ↦ rw (cond-false (is_whole set) _ _ part) (here, tt)
    ]

-- and of what two sets say together, where unions and intersections keep it
each_joined : (P : ℕ → ChoiceSet → Type 0) (either : (node : ℕ) (a b : ChoiceSet) → P node a → P node (union a b))
    (both : (node : ℕ) (a b : ChoiceSet) → P node a → P node (intersection a b)) (node : ℕ) (is_on : Bool) (first second : Option ChoiceSet)
    → ((set : ChoiceSet) → first ≡ Some set → P node set) → ((set : ChoiceSet) → second ≡ Some set → P node set)
    → AreEach P (with_node node (joined is_on first second))
each_joined P either both node is_on None None each_first each_second = tt
each_joined P either both node is_on None (Some b) each_first each_second = (each_second b refl, tt)
each_joined P either both node is_on (Some a) None each_first each_second = (each_first a refl, tt)
each_joined P either both node true (Some a) (Some b) each_first each_second =
    each_unless_whole P node (union a b) (either node a b (each_first a refl))
each_joined P either both node false (Some a) (Some b) each_first each_second = (both node a b (each_first a refl), tt)

-- a fact that unions and intersections keep holds of a resolvent's sets
each_resolvent : (P : ℕ → ChoiceSet → Type 0) (either : (node : ℕ) (a b : ChoiceSet) → P node a → P node (union a b))
    (both : (node : ℕ) (a b : ChoiceSet) → P node a → P node (intersection a b)) (first second : List Term) (on : ℕ)
    → AreEach P first → AreEach P second → AreEach P (resolvent first second on)
each_resolvent P either both first second on each_first each_second =
    each_flat_map P (λ node. with_node node (joined (node == on) (set_at first node) (set_at second node))) (nodes_of first second)
    (λ node.
    each_joined P either both node (node == on) (set_at first node) (set_at second node)
    (λ set at. each_at P first node set each_first at) (λ set at. each_at P second node set each_second at))

-- ---- sizes and sets

-- sizes, said of each term
sized_each : (sizes : List ℕ) (terms : List Term) → AreSized sizes terms → AreEach (IsSized sizes) terms
sized_each sizes [] sized = tt
sized_each sizes (term ∷ terms) sized = (sized.0, sized_each sizes terms sized.1)

-- and back
each_sized : (sizes : List ℕ) (terms : List Term) → AreEach (IsSized sizes) terms → AreSized sizes terms
each_sized sizes [] each = tt
each_sized sizes (term ∷ terms) each = (each.0, each_sized sizes terms each.1)

-- being sets, said of each term
sets_each : (terms : List Term) → AreSets terms → AreEach (λ node set. IsSet set) terms
sets_each [] sets = tt
sets_each (term ∷ terms) sets = (sets.0, sets_each terms sets.1)

-- and back
each_sets : (terms : List Term) → AreEach (λ node set. IsSet set) terms → AreSets terms
each_sets [] each = tt
each_sets (term ∷ terms) each = (each.0, each_sets terms each.1)

-- the set on a node has the node's size
pub sized_at : (sizes : List ℕ) (terms : List Term) (node : ℕ) (set : ChoiceSet) → AreSized sizes terms → set_at terms node ≡ Some set → IsSized sizes node set
sized_at sizes terms node set sized at = each_at (IsSized sizes) terms node set (sized_each sizes terms sized) at

-- a resolvent's sets have their nodes' sizes
pub sized_resolvent : (sizes : List ℕ) (first second : List Term) (on : ℕ) → AreSized sizes first → AreSized sizes second → AreSized sizes (resolvent first second on)
sized_resolvent sizes first second on sized_first sized_second =
    each_sized sizes (resolvent first second on)
    (each_resolvent (IsSized sizes) (λ node a b sized. sized) (λ node a b sized. sized) first second on (sized_each sizes first sized_first)
    (sized_each sizes second sized_second))

-- and are sets
pub sets_resolvent : (first second : List Term) (on : ℕ) → AreSets first → AreSets second → AreSets (resolvent first second on)
sets_resolvent first second on sets_first sets_second =
    each_sets (resolvent first second on)
    (each_resolvent (λ node set. IsSet set) (λ node a b set. IsSet-where a.size (λ k. has a k || has b k)) (λ node a b set. IsSet-where a.size (λ k. has a k && has b k))
    first second on (sets_each first sets_first) (sets_each second sets_second))
