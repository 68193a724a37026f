-- The resolution of an incompatibility that holds with its satisfier's: it can be made, it is formed, and it holds before the satisfier.
use Rattle.std.proofs.Common.{◌≡◌, ℕ, ◌<◌, ◌==◌, Bool, true, false, not, ◌&&◌, ◌||◌, List, [], ◌∷◌, ◌++◌, length, slice_index, slice_index_or, Option, Some, None, IsSome, is_some, refl, sym, ap, ap₂, ◌∙◌, subst, inl, inr, eqb-true, eq-eqb, ne_eqb}
use Rattle.std.specs.List.{flat_map, list_all, list_any}
use Rattle.std.proofs.lemmas.Bool.{and_from, and_parts, cases_Bool, cases_eq, cond-false, cond-true, false≢true, false_from_ne_true, not-true, or_cases, or_left, or_right}
use Rattle.std.proofs.lemmas.List.Folds.{list_all-append}
use Rattle.pub_set.specs.Choices.{ChoiceSet, do_meet, has, intersection, is_among, is_whole, opposite, union}
use Rattle.pub_set.proofs.SetLemmas.{IsSet-where}
use Rattle.pub_term.specs.Resolvent.{CanResolve, joined, nodes_of, resolvent, unless_whole, with_node}
use Rattle.pub_term.specs.Term.{AreProper, set_at, violates}
use Rattle.pub_term.specs.declared.term.Term.{Term}
use Rattle.pub_term.proofs.AboveLemmas.{set_at-head, set_at-tail}
use Rattle.pub_term.proofs.ProperLemmas.{AreProper-append, AreProper-joined}
use Rattle.pub_term.proofs.ResolventLemmas.{AreNodesAscending-resolvent}
use Rattle.pub_term.proofs.SoundLemmas.{one_violated}
use Rattle.pub_trail.specs.Invariant.{AreFormed, AreSized, IsAssignment, IsDerived, IsFormed, IsReason, IsSized, IsTrail, Leaves, Within}
use Rattle.pub_trail.specs.Trail.{allows, holds, is_held}
use Rattle.pub_trail.specs.declared.trail.Assigned.{Assigned}
use Rattle.pub_trail.specs.declared.trail.Reason.{Reason}
use Rattle.pub_trail.specs.declared.trail.Reason.TheVariants.{Decided, Derived}
use Rattle.pub_trail.proofs.HeldLemmas.{Within-holds, held-Within, holds-Within, term_of}
use Rattle.pub_trail.proofs.LieLemmas.{and_step, formed_at, sized_at}
use Rattle.pub_trail.proofs.TestLemmas.{has-opposite, has-where}

-- ---- what an entry changes

-- the second of two tests
pub behind_and : (a b : Bool) → (a && b) ≡ true → b ≡ true
behind_and a b both = (and_parts a b both).1

-- what is allowed with an assignment is allowed before it
pub allows-before : (entry : Assigned) (before : List Assigned) (node choice : ℕ) → allows (entry ∷ before) node choice ≡ true
    → allows before node choice ≡ true
allows-before entry before node choice allowed = behind_and (not (entry.node == node) || has entry.choices choice) (allows before node choice) allowed

-- and what is allowed before it and in its set is allowed with it
pub allows-with : (entry : Assigned) (before : List Assigned) (node choice : ℕ) → (entry.node ≡ node → has entry.choices choice ≡ true)
    → allows before node choice ≡ true → allows (entry ∷ before) node choice ≡ true
allows-with entry before node choice here allowed =
    and_step (entry.node == node) (has entry.choices choice) (allows before node choice) (λ same. here (eqb-true entry.node node same)) allowed

-- an assignment on another node changes nothing
pub Within-other : (sizes : List ℕ) (entry : Assigned) (before : List Assigned) (node : ℕ) (set : ChoiceSet) → (entry.node ≡ node → ⊥)
    → Within sizes (entry ∷ before) node set → Within sizes before node set
Within-other sizes entry before node set differs within =
    λ choice below allowed. within choice below (allows-with entry before node choice (λ same. absurd (differs same)) allowed)

-- ---- a choice is left for each node

-- an assignment leaves its node a choice
pub Leaves-any : (reason : Reason) (sizes : List ℕ) (incompats : List (List Term)) (before : List Assigned) (entry : Assigned)
    → AreFormed sizes incompats → IsReason reason sizes incompats before entry → Leaves sizes (entry ∷ before) entry.node (λ choice. true)
Leaves-any Decided sizes incompats before entry formed by = record {
  choice = by.left.choice;
  below = by.left.below;
  allowed = allows-with entry before entry.node by.left.choice
      (λ _. by.choices by.left.choice by.left.below ∙ by.left.passes) by.left.allowed;
  passes = refl;
}
Leaves-any (Derived number) sizes incompats before entry formed by =
    let terms = slice_index_or incompats number [] in
    let left = by.1.almost.lacks in
    let sized = sized_at sizes terms entry.node by.1.set (formed_at sizes incompats number formed by.0).sized by.1.almost.at in
    record {
      choice = left.choice;
      below = left.below;
      allowed = allows-with entry before entry.node left.choice
          (λ _.
          ap (λ set. has set left.choice) by.1.choices
          ∙ has-opposite by.1.set left.choice (subst (λ size. left.choice < size) (sym sized.1) left.below) (not-true (has by.1.set left.choice) left.passes))
          left.allowed;
      passes = refl;
    }

-- each set that the trail leaves has a choice
pub leaves_some : (sizes : List ℕ) (incompats : List (List Term)) (trail : List Assigned) (node : ℕ) → AreFormed sizes incompats
    → IsTrail sizes incompats trail → 0 < slice_index sizes node → Leaves sizes trail node (λ choice. true)
leaves_some sizes incompats [] node formed is some = record { choice = 0; below = some; allowed = refl; passes = refl }
leaves_some sizes incompats (entry ∷ before) node formed is some =
    elim (cases_eq entry.node node) [
      | inl same ↦ subst (λ n. Leaves sizes (entry ∷ before) n (λ choice. true)) same (Leaves-any entry.reason sizes incompats before entry formed is.0)
      | inr differs ↦
          (let left = leaves_some sizes incompats before node formed is.1 some in
          record {
            choice = left.choice;
            below = left.below;
            allowed = allows-with entry before node left.choice (λ same. absurd (differs same)) left.allowed;
            passes = refl;
          })
    ]

-- ---- the resolution can be made

-- a set that isn't absent is there
is_some_at : (set : Option ChoiceSet) → (set ≡ None → ⊥) → IsSome set
is_some_at None some = absurd (some refl)
is_some_at (Some set) some = refl

-- terms that hold with an assignment and not before it have one on its node
pub on_entry : (sizes : List ℕ) (entry : Assigned) (before : List Assigned) (terms : List Term) → IsFormed sizes terms
    → holds sizes (entry ∷ before) terms ≡ true → holds sizes before terms ≡ false → IsSome (set_at terms entry.node)
on_entry sizes entry before terms formed held open_before =
    is_some_at (set_at terms entry.node)
    (λ none.
    false≢true (sym open_before ∙ holds-Within sizes before terms formed.incompat.ascending
    (λ node set at.
    Within-other sizes entry before node set
    (λ same.
    let other : set_at terms node ≡ None = sym (ap (set_at terms) same) ∙ none in
    cc)
    (Within-holds sizes (entry ∷ before) terms node set held at))))

-- a number among others passes
any_among : (test : ℕ → Bool) (numbers : List ℕ) (k : ℕ) → is_among numbers k ≡ true → test k ≡ true → list_any test numbers ≡ true
any_among test [] k here passes = absurd (false≢true here)
any_among test (number ∷ numbers) k here passes =
    elim (or_cases (number == k) (is_among numbers k) here) [
      | inl same ↦ or_left (test number) (list_any test numbers) (ap test (eqb-true number k same) ∙ passes)
      | inr behind ↦ or_right (test number) (list_any test numbers) (any_among test numbers k behind passes)
    ]

-- a satisfier's incompatibility can be resolved with what it makes hold
pub can_resolve : (sizes : List ℕ) (incompats : List (List Term)) (before : List Assigned) (entry : Assigned) (first second : List Term)
    → ((node : ℕ) → node < length sizes → 0 < slice_index sizes node)
    → AreFormed sizes incompats → IsTrail sizes incompats before → IsFormed sizes first → IsFormed sizes second → holds sizes (entry ∷ before) first ≡ true
    → holds sizes before first ≡ false → IsDerived sizes second before entry → CanResolve first second entry.node
can_resolve sizes incompats before entry first second some formed is formed_first formed_second held open_before by = record {
  first_on = on_entry sizes entry before first formed_first held open_before;
  second_on = ap is_some by.almost.at;
  sizes = λ node a b at_first at_second.
      (sized_at sizes first node a formed_first.sized at_first).1
      ∙ sym (sized_at sizes second node b formed_second.sized at_second).1;
  meets = λ node a b differs at_first at_second.
      let known = (sized_at sizes first node a formed_first.sized at_first).0 in
      let left = leaves_some sizes incompats before node formed is (some node known) in
      let in_first : has a left.choice ≡ true
      = Within-other sizes entry before node a (λ same. differs (sym same))
      (Within-holds sizes (entry ∷ before) first node a held at_first) left.choice left.below left.allowed in
      let in_second : has b left.choice ≡ true
      = by.almost.others node b differs at_second left.choice left.below left.allowed in
      any_among (has b) a.members left.choice in_first in_second;
}

-- ---- it holds before the satisfier

-- pieces that all pass
all_flat_map : (test : Term → Bool) (f : ℕ → List Term) (nodes : List ℕ) → ((node : ℕ) → list_all test (f node) ≡ true)
    → list_all test (flat_map f nodes) ≡ true
all_flat_map test f [] each = refl
all_flat_map test f (node ∷ nodes) each =
    list_all-append test (f node) (flat_map f nodes)
    ∙ and_from (list_all test (f node)) (list_all test (flat_map f nodes)) (each node) (all_flat_map test f nodes each)

-- a term is held where what is left lies within its set
held_alone : (sizes : List ℕ) (before : List Assigned) (node : ℕ) (set : ChoiceSet) → Within sizes before node set
    → holds sizes before (with_node node (Some set)) ≡ true
held_alone sizes before node set within =
    and_from (is_held sizes before (term_of node set)) true (held-Within sizes before (term_of node set) within) refl

-- another node's joint is held
held_off : (sizes : List ℕ) (before : List Assigned) (node : ℕ) (first second : Option ChoiceSet)
    → ((set : ChoiceSet) → first ≡ Some set → IsSized sizes node set × Within sizes before node set)
    → ((set : ChoiceSet) → second ≡ Some set → IsSized sizes node set × Within sizes before node set)
    → holds sizes before (with_node node (joined false first second)) ≡ true
held_off sizes before node None None first second = refl
held_off sizes before node None (Some b) first second = held_alone sizes before node b (second b refl).1
held_off sizes before node (Some a) None first second = held_alone sizes before node a (first a refl).1
held_off sizes before node (Some a) (Some b) first second =
    let of_a = first a refl in
    let of_b = second b refl in
    held_alone sizes before node (intersection a b)
    (λ choice below allowed.
    has-where a.size choice (λ k. has a k && has b k) (subst (λ size. choice < size) (sym of_a.0.1) below)
    (and_from (has a choice) (has b choice) (of_a.1 choice below allowed) (of_b.1 choice below allowed)))

-- a set that isn't all choices is held
held_unless_whole : (sizes : List ℕ) (before : List Assigned) (node : ℕ) (set : ChoiceSet) → Within sizes before node set
    → holds sizes before (with_node node (unless_whole set)) ≡ true
held_unless_whole sizes before node set within =
    elim (cases_Bool (is_whole set)) [
      | inl whole ↦ ap (λ s. holds sizes before (with_node node s)) (cond-true (is_whole set) None (Some set) whole)
      | inr part ↦
          ap (λ s. holds sizes before (with_node node s)) (cond-false (is_whole set) None (Some set) part)
          ∙ held_alone sizes before node set within
    ]

-- on the node: what is left before the assignment is in the one set or the other
within_union : (sizes : List ℕ) (entry : Assigned) (before : List Assigned) (a b : ChoiceSet) → IsSized sizes entry.node a → IsSized sizes entry.node b
    → Within sizes (entry ∷ before) entry.node a → entry.choices ≡ opposite b → Within sizes before entry.node (union a b)
within_union sizes entry before a b sized_a sized_b within opposite_is = λ choice below allowed.
    has-where a.size choice (λ k. has a k || has b k) (subst (λ size. choice < size) (sym sized_a.1) below)
    (elim (cases_Bool (has b choice)) [
      | inl here ↦ or_right (has a choice) (has b choice) here
      | inr there ↦
          or_left (has a choice) (has b choice)
          (within choice below
          (allows-with entry before entry.node choice
          (λ _.
          ap (λ set. has set choice) opposite_is
          ∙ has-opposite b choice (subst (λ size. choice < size) (sym sized_b.1) below) there) allowed))
    ])

-- a set that is there
pub some_set : (set : Option ChoiceSet) → IsSome set → (s : ChoiceSet) × (set ≡ Some s)
some_set None some = absurd (false≢true some)
some_set (Some set) some = (set, refl)

-- the resolution holds before the satisfier
pub resolvent_holds : (sizes : List ℕ) (before : List Assigned) (entry : Assigned) (first second : List Term) → IsFormed sizes first → IsFormed sizes second
    → holds sizes (entry ∷ before) first ≡ true → holds sizes before first ≡ false → IsDerived sizes second before entry
    → holds sizes before (resolvent first second entry.node) ≡ true
resolvent_holds sizes before entry first second formed_first formed_second held open_before by =
    all_flat_map (is_held sizes before)
    (λ node. with_node node (joined (node == entry.node) (set_at first node) (set_at second node))) (nodes_of first second)
    (λ node.
    elim (cases_eq node entry.node) [
      | inl same ↦
          (let a = some_set (set_at first entry.node) (on_entry sizes entry before first formed_first held open_before) in
          let at_a : set_at first node ≡ Some a.0 = ap (set_at first) same ∙ a.1 in
          let at_b : set_at second node ≡ Some by.set = ap (set_at second) same ∙ by.almost.at in
          ap (λ is_on. holds sizes before (with_node node (joined is_on (set_at first node) (set_at second node)))) (eq-eqb node entry.node same)
          ∙ ap₂ (λ s t. holds sizes before (with_node node (joined true s t))) at_a at_b
          ∙ held_unless_whole sizes before node (union a.0 by.set)
          (subst (λ n. Within sizes before n (union a.0 by.set)) (sym same)
          (within_union sizes entry before a.0 by.set (sized_at sizes first entry.node a.0 formed_first.sized a.1)
          (sized_at sizes second entry.node by.set formed_second.sized by.almost.at)
          (Within-holds sizes (entry ∷ before) first entry.node a.0 held a.1) by.choices)))
      | inr differs ↦
          ap (λ is_on. holds sizes before (with_node node (joined is_on (set_at first node) (set_at second node)))) (ne_eqb node entry.node differs)
          ∙ held_off sizes before node (set_at first node) (set_at second node)
          (λ set at. (
            sized_at sizes first node set formed_first.sized at,
            Within-other sizes entry before node set (λ same. differs (sym same)) (Within-holds sizes (entry ∷ before) first node set held at),
          ))
          (λ set at. (sized_at sizes second node set formed_second.sized at, by.almost.others node set differs at))
    ])

-- ---- it is formed

-- two lists of sized terms
sized_append : (sizes : List ℕ) (xs ys : List Term) → AreSized sizes xs → AreSized sizes ys → AreSized sizes (xs ++ ys)
sized_append sizes [] ys sized_x sized_y = sized_y
sized_append sizes (x ∷ xs) ys sized_x sized_y = (sized_x.0, sized_append sizes xs ys sized_x.1 sized_y)

-- sized and proper
abbrev AreFine : List ℕ → List Term → Type 0
AreFine sizes terms = AreSized sizes terms × AreProper terms

-- pieces that are sized and proper
fine_flat_map : (sizes : List ℕ) (f : ℕ → List Term) (nodes : List ℕ) → ((node : ℕ) → AreFine sizes (f node)) → AreFine sizes (flat_map f nodes)
fine_flat_map sizes f [] each = (tt, tt)
fine_flat_map sizes f (node ∷ nodes) each =
    let rest = fine_flat_map sizes f nodes each in
    (sized_append sizes (f node) (flat_map f nodes) (each node).0 rest.0, AreProper-append (f node) (flat_map f nodes) (each node).1 rest.1)

-- a set that isn't all choices is sized
sized_unless_whole : (sizes : List ℕ) (node : ℕ) (set : ChoiceSet) → IsSized sizes node set → AreSized sizes (with_node node (unless_whole set))
sized_unless_whole sizes node set sized =
    elim (cases_Bool (is_whole set)) [
      | inl whole ↦ rw (cond-true (is_whole set) _ _ whole) tt
      | inr part ↦ rw (cond-false (is_whole set) _ _ part) (sized, tt)
    ]

-- the joint of two sized sets is sized
sized_both : (is_on : Bool) (sizes : List ℕ) (node : ℕ) (a b : ChoiceSet) → IsSized sizes node a → IsSized sizes node b
    → AreSized sizes (with_node node (joined is_on (Some a) (Some b)))
sized_both true sizes node a b sized_a sized_b =
    sized_unless_whole sizes node (union a b) (sized_a.0, sized_a.1, IsSet-where a.size (λ k. has a k || has b k))
sized_both false sizes node a b sized_a sized_b = ((sized_a.0, sized_a.1, IsSet-where a.size (λ k. has a k && has b k)), tt)

-- the set of a proper term is proper
proper_at : (terms : List Term) (node : ℕ) (set : ChoiceSet) → AreProper terms → set_at terms node ≡ Some set → AreProper (term_of node set ∷ [])
proper_at [] node set proper at = cc
proper_at (term ∷ terms) node set proper at =
    elim (cases_eq term.node node) [
      | inl same ↦
          (let head : Some term.choices ≡ Some set = sym (set_at-head term terms node same) ∙ at in
          let e : term.choices ≡ set = cc in
          subst (λ s. AreProper (term_of node s ∷ [])) e (proper.0, proper.1, tt))
      | inr differs ↦ proper_at terms node set proper.2 (sym (set_at-tail term terms node differs) ∙ at)
    ]

-- the joint of two proper sets is proper
fine_joined : (is_on : Bool) (sizes : List ℕ) (node : ℕ) (first second : Option ChoiceSet)
    → ((set : ChoiceSet) → first ≡ Some set → IsSized sizes node set × AreProper (term_of node set ∷ []))
    → ((set : ChoiceSet) → second ≡ Some set → IsSized sizes node set × AreProper (term_of node set ∷ []))
    → (is_on ≡ false → (a b : ChoiceSet) → first ≡ Some a → second ≡ Some b → do_meet a b ≡ true)
    → AreFine sizes (with_node node (joined is_on first second))
fine_joined is_on sizes node None None first second meets = (tt, tt)
fine_joined is_on sizes node None (Some b) first second meets = (((second b refl).0, tt), (second b refl).1)
fine_joined is_on sizes node (Some a) None first second meets = (((first a refl).0, tt), (first a refl).1)
fine_joined is_on sizes node (Some a) (Some b) first second meets =
    let of_a = first a refl in (
      sized_both is_on sizes node a b of_a.0 (second b refl).0,
      AreProper-joined is_on a b node of_a.0.2 of_a.1.0 of_a.1.1 (λ off. meets off a b refl refl),
    )

-- a resolution is well formed
pub IsFormed-resolvent : (sizes : List ℕ) (first second : List Term) (on : ℕ) → IsFormed sizes first → IsFormed sizes second → CanResolve first second on
    → IsFormed sizes (resolvent first second on)
IsFormed-resolvent sizes first second on formed_first formed_second can =
    let fine = fine_flat_map sizes (λ node. with_node node (joined (node == on) (set_at first node) (set_at second node))) (nodes_of first second)
    (λ node.
    fine_joined (node == on) sizes node (set_at first node) (set_at second node)
    (λ set at. (sized_at sizes first node set formed_first.sized at, proper_at first node set formed_first.incompat.proper at))
    (λ set at. (sized_at sizes second node set formed_second.sized at, proper_at second node set formed_second.incompat.proper at))
    (λ off a b at_first at_second. can.meets node a b (λ same. false≢true (sym off ∙ eq-eqb node on same)) at_first at_second)) in
    record {
      incompat = record { ascending = AreNodesAscending-resolvent first second on formed_second.incompat.ascending; proper = fine.1 };
      sized = fine.0;
    }

-- ---- it follows

-- and follows from both
pub resolvent_unviolated : (sizes : List ℕ) (first second : List Term) (on : ℕ) (assignment : ℕ → ℕ) → IsFormed sizes first → IsFormed sizes second
    → CanResolve first second on → IsAssignment sizes assignment → violates assignment first ≡ false → violates assignment second ≡ false
    → violates assignment (resolvent first second on) ≡ false
resolvent_unviolated sizes first second on assignment formed_first formed_second can is none_first none_second =
    false_from_ne_true (violates assignment (resolvent first second on))
    (λ violated.
    elim (one_violated first second on assignment formed_first.incompat.ascending formed_second.incompat.ascending can
    (λ set at.
    let sized = sized_at sizes first on set formed_first.sized at in
    subst (λ size. assignment on < size) (sym sized.1) (is on sized.0))
    violated) [
      | inl here ↦ absurd (false≢true (sym none_first ∙ here))
      | inr here ↦ absurd (false≢true (sym none_second ∙ here))
    ])
