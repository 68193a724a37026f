-- An assignment whose choices lie in what is known, and what holds or almost holds.
use Rattle.std.proofs.Common.{◌≡◌, ℕ, zero, suc, ◌<◌, ◌==◌, Bool, true, false, not, ◌&&◌, List, [], ◌∷◌, Some, None, length, refl, sym, ap, ap₂, ◌∙◌, subst, inl, inr, arith, eqb-true, lt-ltb, nat_lt}
use Rattle.std.specs.List.{All, filter, list_all}
use Rattle.std.proofs.lemmas.Bool.{and_from, and_parts, cases_Bool, cond-false, cond-true, false≢true, or_cases}
use Rattle.std.proofs.lemmas.List.Elements.{All-head, All-tail}
use Rattle.pub_set.specs.Choices.{ChoiceSet, IsSet, do_meet, has, is_among, opposite}
use Rattle.pub_set.proofs.AscendingLemmas.{is_among-where}
use Rattle.pub_set.proofs.SetLemmas.{has_below}
use Rattle.pub_term.specs.Known.{AreKnown, LiesIn, almost_on, holds, is_held, known_at, the_one}
use Rattle.pub_term.specs.Term.{AreNodesAscending, IsIncompat, set_at, violates}
use Rattle.pub_term.specs.declared.term.Term.{Term}
use Rattle.pub_term.proofs.AboveLemmas.{AreAbove-tail, AreNodesAscending-tail, set_at-head, set_at-none, set_at-tail}

-- what all pass each passes
passes_among : (test : ℕ → Bool) (numbers : List ℕ) (k : ℕ) → list_all test numbers ≡ true → is_among numbers k ≡ true → test k ≡ true
passes_among test [] k all here = absurd (false≢true here)
passes_among test (number ∷ numbers) k all here =
    let parts = and_parts (test number) (list_all test numbers) all in
    elim (or_cases (number == k) (is_among numbers k) here) [
      | inl same ↦ ap test (sym (eqb-true number k same)) ∙ parts.0
      | inr behind ↦ passes_among test numbers k parts.1 behind
    ]

-- a term that is held has the assignment's choice
held_has : (known : List ChoiceSet) (term : Term) (assignment : ℕ → ℕ) → term.node < length known → LiesIn assignment known → is_held known term ≡ true
    → has term.choices (assignment term.node) ≡ true
held_has known term assignment within lies held =
    passes_among (has term.choices) (known_at known term.node).members (assignment term.node) held (lies term.node within)

-- what holds is violated by an assignment within what is known
pub violated_from_holds : (known : List ChoiceSet) (terms : List Term) (assignment : ℕ → ℕ) → AreKnown known terms → LiesIn assignment known
    → holds known terms ≡ true → violates assignment terms ≡ true
violated_from_holds known [] assignment are lies held = refl
violated_from_holds known (term ∷ terms) assignment are lies held =
    let parts = and_parts (is_held known term) (holds known terms) held in
    and_from (has term.choices (assignment term.node)) (violates assignment terms) (held_has known term assignment are.0 lies parts.0)
    (violated_from_holds known terms assignment are.2 lies parts.1)

-- a test that holds may go
and_true : (b : Bool) → (b && true) ≡ b
and_true true = refl
and_true false = refl

-- a term that is not held
abbrev is_open : List ChoiceSet → Term → Bool
is_open known term = not (is_held known term)

-- a term that is held isn't open
open_dropped : (known : List ChoiceSet) (term : Term) (terms : List Term) → is_held known term ≡ true
    → filter (is_open known) (term ∷ terms) ≡ filter (is_open known) terms
open_dropped known term terms held =
    cond-false (is_open known term) (term ∷ filter (is_open known) terms) (filter (is_open known) terms) (ap not held)

-- one that isn't held is
open_kept : (known : List ChoiceSet) (term : Term) (terms : List Term) → is_held known term ≡ false
    → filter (is_open known) (term ∷ terms) ≡ term ∷ filter (is_open known) terms
open_kept known term terms held =
    cond-true (is_open known term) (term ∷ filter (is_open known) terms) (filter (is_open known) terms) (ap not held)

-- where no term is open, all hold
none_open : (known : List ChoiceSet) (terms : List Term) → filter (is_open known) terms ≡ [] → holds known terms ≡ true
none_open known [] none = refl
none_open known (term ∷ terms) none =
    elim (cases_Bool (is_held known term)) [
      | inl held ↦
          and_from (is_held known term) (holds known terms) held (none_open known terms (sym (open_dropped known term terms held) ∙ none))
      | inr open_here ↦ (let e = sym (open_kept known term terms open_here) ∙ none in cc)
    ]

-- where one term alone is open, the incompatibility is violated where that term has the choice
one_open : (known : List ChoiceSet) (terms : List Term) (one : Term) (assignment : ℕ → ℕ) → AreKnown known terms → LiesIn assignment known
    → filter (is_open known) terms ≡ one ∷ [] → violates assignment terms ≡ has one.choices (assignment one.node)
one_open known [] one assignment are lies alone = cc
one_open known (term ∷ terms) one assignment are lies alone =
    elim (cases_Bool (is_held known term)) [
      | inl held ↦
          ap (λ b. b && violates assignment terms) (held_has known term assignment are.0 lies held)
          ∙ one_open known terms one assignment are.2 lies (sym (open_dropped known term terms held) ∙ alone)
      | inr open_here ↦
          (let e = sym (open_kept known term terms open_here) ∙ alone in
          let same : term ≡ one = cc in
          let none : filter (is_open known) terms ≡ [] = cc in
          ap (λ b. has term.choices (assignment term.node) && b) (violated_from_holds known terms assignment are.2 lies (none_open known terms none))
          ∙ and_true (has term.choices (assignment term.node)) ∙ ap (λ (t : Term). has t.choices (assignment t.node)) same)
    ]

-- the set on the open term's node is its own
open_at : (known : List ChoiceSet) (terms : List Term) (one : Term) → AreNodesAscending terms → filter (is_open known) terms ≡ one ∷ []
    → set_at terms one.node ≡ Some one.choices
open_at known [] one up alone = cc
open_at known (term ∷ terms) one up alone =
    elim (cases_Bool (is_held known term)) [
      | inl held ↦
          (let behind = open_at known terms one (AreNodesAscending-tail term terms up) (sym (open_dropped known term terms held) ∙ alone) in
          set_at-tail term terms one.node
          (λ same.
          let none : set_at terms one.node ≡ None = set_at-none term.node terms one.node (omega arith) (AreAbove-tail term terms up) in
          cc)
          ∙ behind)
      | inr open_here ↦
          (let e = sym (open_kept known term terms open_here) ∙ alone in
          let same : term ≡ one = cc in
          subst (λ (t : Term). set_at (term ∷ terms) t.node ≡ Some t.choices) same (set_at-head term terms term.node refl))
    ]

-- what is known of the open term's node
open_known : (known : List ChoiceSet) (terms : List Term) (one : Term) → AreKnown known terms → filter (is_open known) terms ≡ one ∷ []
    → AreKnown known (one ∷ [])
open_known known [] one are alone = cc
open_known known (term ∷ terms) one are alone =
    elim (cases_Bool (is_held known term)) [
      | inl held ↦ open_known known terms one are.2 (sym (open_dropped known term terms held) ∙ alone)
      | inr open_here ↦
          (let e = sym (open_kept known term terms open_here) ∙ alone in
          let same : term ≡ one = cc in
          subst (λ t. AreKnown known (t ∷ [])) same (are.0, are.1, tt))
    ]

-- the one open term is on the node that is answered
record IsOne (terms : List Term) (node : ℕ) : Type 0 where
  one : Term
  alone : terms ≡ one ∷ []
  on : one.node ≡ node

-- the one open term is one of the terms, and all others are held
the_one_is : (known : List ChoiceSet) (terms : List Term) (node : ℕ) → the_one known terms ≡ Some node → IsOne terms node
the_one_is known [] node at = cc
the_one_is known (term ∷ []) node at =
    elim (cases_Bool (do_meet (known_at known term.node) term.choices)) [
      | inl meets ↦
          (let e : Some term.node ≡ Some node = sym (cond-true (do_meet (known_at known term.node) term.choices) (Some term.node) None meets) ∙ at in
          record { one = term; alone = refl; on = cc })
      | inr apart ↦
          (let e : None ≡ Some node = sym (cond-false (do_meet (known_at known term.node) term.choices) (Some term.node) None apart) ∙ at in cc)
    ]
the_one_is known (term ∷ next ∷ terms) node at = cc

-- what is known of a node is a set
known_is_set : (known : List ChoiceSet) (node : ℕ) → All IsSet known → node < length known → IsSet (known_at known node)
known_is_set [] node sets within = absurd (omega arith)
known_is_set (set ∷ known) zero sets within = All-head IsSet set known sets
known_is_set (set ∷ known) (suc node) sets within = known_is_set known node (All-tail IsSet set known sets) (omega arith)

-- where an incompatibility almost holds and isn't violated, its open node has a choice of the opposite set
pub opposite_from_almost : (known : List ChoiceSet) (terms : List Term) (assignment : ℕ → ℕ) (node : ℕ) (set : ChoiceSet) → All IsSet known
    → IsIncompat terms → AreKnown known terms → LiesIn assignment known → almost_on known terms ≡ Some node → violates assignment terms ≡ false
    → set_at terms node ≡ Some set → has (opposite set) (assignment node) ≡ true
opposite_from_almost known terms assignment node set sets incompat are lies almost unviolated at =
    let i = the_one_is known (filter (is_open known) terms) node almost in
    let there = open_known known terms i.one are i.alone in
    let own : Some i.one.choices ≡ Some set
    = sym (open_at known terms i.one incompat.ascending i.alone) ∙ ap (set_at terms) i.on ∙ at in
    let same : i.one.choices ≡ set = cc in
    let none : has i.one.choices (assignment i.one.node) ≡ false = sym (one_open known terms i.one assignment are lies i.alone) ∙ unviolated in
    let below : assignment i.one.node < (known_at known i.one.node).size
    = has_below (known_at known i.one.node) (assignment i.one.node) (known_is_set known i.one.node sets there.0) (lies i.one.node there.0) in
    let inside : has (opposite i.one.choices) (assignment i.one.node) ≡ true
    = is_among-where i.one.choices.size (λ k. not (has i.one.choices k)) (assignment i.one.node)
    ∙ and_from (nat_lt (assignment i.one.node) i.one.choices.size) (not (has i.one.choices (assignment i.one.node)))
    (lt-ltb (assignment i.one.node) i.one.choices.size (subst (λ size. assignment i.one.node < size) there.1 below)) (ap not none) in
    ap₂ (λ (s : ChoiceSet) (n : ℕ). has (opposite s) (assignment n)) (sym same) (sym i.on) ∙ inside
