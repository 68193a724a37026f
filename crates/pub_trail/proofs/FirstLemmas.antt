-- What is decided at the end violates no fact, and no assignment that violates none has a choice that was skipped.
use Rattle.std.proofs.Common.{◌≡◌, ◌≢◌, ℕ, ◌<◌, ◌==◌, Bool, true, false, not, ◌&&◌, ◌||◌, cond, List, [], ◌∷◌, length, slice_index, Some, None, refl, sym, ap, ap₂, ◌∙◌, subst, inl, inr, eqb-true, eq-eqb}
use Rattle.std.specs.List.{list_all, list_any}
use Rattle.std.proofs.lemmas.Bool.{and_cases, and_from, and_parts, cases_Bool, cases_eq, cond-false, cond-true, false≢true, false_from_ne_true, or_cases, or_left, or_parts, or_right, true_from_ne_false}
use Rattle.pub_set.specs.Choices.{ChoiceSet, has, is_among}
use Rattle.pub_set.proofs.SetLemmas.{has_below}
use Rattle.pub_term.specs.Term.{AreNodesAscending, set_at, violates}
use Rattle.pub_term.specs.declared.term.Term.{Term}
use Rattle.pub_term.proofs.AboveLemmas.{AreNodesAscending-tail, set_at-head, set_at-tail}
use Rattle.pub_trail.specs.First.{IsFirstChoice, IsShaped, Preference, chosen, first_or, is_asked, is_met}
use Rattle.pub_trail.specs.Invariant.{Agrees, AreFormed, IsAssignment, IsFormed, IsReason, IsTrail, ViolatesNone, Within}
use Rattle.pub_trail.specs.Trail.{allows, by_reason, holds, is_decided, is_held}
use Rattle.pub_trail.specs.declared.trail.Assigned.{Assigned}
use Rattle.pub_trail.specs.declared.trail.Reason.{Reason}
use Rattle.pub_trail.specs.declared.trail.Reason.TheVariants.{Decided, Derived}
use Rattle.pub_trail.proofs.HeldLemmas.{Within-held, at_node, each_node, holds-Within, term_of}
use Rattle.pub_trail.proofs.LieLemmas.{allows-LiesIn, lies_in_trail, sized_at}
use Rattle.pub_trail.proofs.NewestLemmas.{almost_from, behind_differs}
use Rattle.pub_trail.specs.Turn.{almost}
use Rattle.pub_trail.proofs.TestLemmas.{not_within}
use Rattle.pub_trail.proofs.ResolveLemmas.{allows-before}

-- ---- what is skipped

-- no assignment that violates none and agrees with the decisions before has a choice that was skipped
pub skipped : (prefers : Preference) (sizes : List ℕ) (incompats facts : List (List Term)) (entry : Assigned) (before : List Assigned) (assignment : ℕ → ℕ)
    → AreFormed sizes incompats → IsTrail sizes incompats before → IsFirstChoice prefers sizes facts before entry → entry.node < length sizes
    → IsAssignment sizes assignment → ViolatesNone incompats assignment → Agrees assignment before
    → prefers entry.node (assignment entry.node) (first_or entry.choices.members 0) ≡ false
skipped prefers sizes incompats facts entry before assignment formed is first known assigns none agrees =
    false_from_ne_true (prefers entry.node (assignment entry.node) (first_or entry.choices.members 0))
    (λ preferred.
    false≢true (sym (first.skips (assignment entry.node) (assigns entry.node known) preferred)
    ∙ allows-LiesIn assignment before entry.node (lies_in_trail sizes incompats before assignment formed is assigns none agrees)))

-- ---- what is decided

-- the first of one number
pub first_of_one : (numbers : List ℕ) (choice : ℕ) → is_among numbers choice ≡ true → ((k : ℕ) → is_among numbers k ≡ true → k ≡ choice)
    → first_or numbers 0 ≡ choice
first_of_one [] choice here each = absurd (false≢true here)
first_of_one (x ∷ xs) choice here each = each x (or_left (x == x) (is_among xs x) (eq-eqb x x refl))

-- the first of some numbers is among them
pub first_among : (numbers : List ℕ) (k : ℕ) → is_among numbers k ≡ true → is_among numbers (first_or numbers 0) ≡ true
first_among [] k here = absurd (false≢true here)
first_among (x ∷ xs) k here = or_left (x == x) (is_among xs x) (eq-eqb x x refl)

-- only the decided choice is left
abbrev pub Fixes : List ℕ → List Assigned → ℕ → Type 0
Fixes sizes trail node = (choice : ℕ) → choice < slice_index sizes node → allows trail node choice ≡ true → choice ≡ chosen trail node

-- an assignment on the node allows its own choices alone
head_allows : (same keeps rest : Bool) → same ≡ true → ((not same || keeps) && rest) ≡ true → keeps ≡ true
head_allows true true rest is all = refl
head_allows true false rest is all = absurd (false≢true all)
head_allows false keeps rest is all = absurd (false≢true is)

-- one more assignment leaves a decided choice that is one of the node's alone
fixes_more : (reason : Reason) (sizes : List ℕ) (incompats : List (List Term)) (entry : Assigned) (before : List Assigned) (node : ℕ)
    → entry.reason ≡ reason → IsReason reason sizes incompats before entry
    → (is_decided before node ≡ true → chosen before node < slice_index sizes node → Fixes sizes before node)
    → is_decided (entry ∷ before) node ≡ true → chosen (entry ∷ before) node < slice_index sizes node → Fixes sizes (entry ∷ before) node
fixes_more (Derived number) sizes incompats entry before node reason by next decided known choice below allowed =
    let is : chosen (entry ∷ before) node ≡ chosen before node
    = ap (λ r. by_reason r (cond (entry.node == node) (first_or entry.choices.members 0) (chosen before node)) (λ n. chosen before node)) reason in
    next (sym (ap (λ r. by_reason r (entry.node == node || is_decided before node) (λ n. is_decided before node)) reason) ∙ decided)
    (subst (λ k. k < slice_index sizes node) is known) choice below (allows-before entry before node choice allowed)
    ∙ sym is
fixes_more Decided sizes incompats entry before node reason by next decided known choice below allowed =
    let was : (entry.node == node || is_decided before node) ≡ true
    = sym (ap (λ r. by_reason r (entry.node == node || is_decided before node) (λ n. is_decided before node)) reason) ∙ decided in
    let is : chosen (entry ∷ before) node ≡ cond (entry.node == node) (first_or entry.choices.members 0) (chosen before node)
    = ap (λ r. by_reason r (cond (entry.node == node) (first_or entry.choices.members 0) (chosen before node)) (λ n. chosen before node)) reason in
    elim (cases_Bool (entry.node == node)) [
      | inl same ↦
          (let e : entry.node ≡ node = eqb-true entry.node node same in
          let here : has entry.choices choice ≡ true
          = head_allows (entry.node == node) (has entry.choices choice) (allows before node choice) same allowed in
          let first : chosen (entry ∷ before) node ≡ first_or entry.choices.members 0
          = is ∙ cond-true (entry.node == node) (first_or entry.choices.members 0) (chosen before node) same in
          let only : (k : ℕ) → k < slice_index sizes node → has entry.choices k ≡ true → k ≡ by.choice
          = λ k within among. eqb-true k by.choice (sym (by.choices k (subst (λ n. k < slice_index sizes n) (sym e) within)) ∙ among) in
          only choice below here
          ∙ sym (only (first_or entry.choices.members 0) (subst (λ k. k < slice_index sizes node) first known)
          (first_among entry.choices.members choice here))
          ∙ sym first)
      | inr other ↦
          (let earlier : is_decided before node ≡ true
          = elim (or_cases (entry.node == node) (is_decided before node) was) [
            | inl same ↦ absurd (false≢true (sym other ∙ same))
            | inr behind ↦ behind
          ] in
          let rest : chosen (entry ∷ before) node ≡ chosen before node
          = is ∙ cond-false (entry.node == node) (first_or entry.choices.members 0) (chosen before node) other in
          next earlier (subst (λ k. k < slice_index sizes node) rest known) choice below (allows-before entry before node choice allowed) ∙ sym rest)
    ]

-- a decided node whose decided choice is one of its own has that choice alone
pub fixes : (sizes : List ℕ) (incompats : List (List Term)) (trail : List Assigned) (node : ℕ) → IsTrail sizes incompats trail
    → is_decided trail node ≡ true → chosen trail node < slice_index sizes node → Fixes sizes trail node
fixes sizes incompats [] node is decided known = absurd (false≢true decided)
fixes sizes incompats (entry ∷ before) node is decided known =
    fixes_more entry.reason sizes incompats entry before node refl is.0 (fixes sizes incompats before node is.1) decided known

-- what a set of a formed fact has is a choice of its node
known_of : (sizes : List ℕ) (fact : List Term) (node : ℕ) (set : ChoiceSet) (choice : ℕ) → IsFormed sizes fact → set_at fact node ≡ Some set
    → has set choice ≡ true → choice < slice_index sizes node
known_of sizes fact node set choice formed at had =
    let sized = sized_at sizes fact node set formed.sized at in
    subst (λ size. choice < size) sized.1 (has_below set choice sized.2 had)

-- an undecided node counts as none or off
pub open_chosen : (trail : List Assigned) (node : ℕ) → is_decided trail node ≡ false → chosen trail node ≡ 0
open_chosen [] node none = refl
open_chosen (entry ∷ before) node none = by_case entry.reason refl (open_chosen before node)
  where
    by_case : (reason : Reason) → entry.reason ≡ reason → (is_decided before node ≡ false → chosen before node ≡ 0) → chosen (entry ∷ before) node ≡ 0
    by_case (Derived number) same next =
        ap (λ r. by_reason r (cond (entry.node == node) (first_or entry.choices.members 0) (chosen before node)) (λ n. chosen before node)) same
        ∙ next (sym (ap (λ r. by_reason r (entry.node == node || is_decided before node) (λ n. is_decided before node)) same) ∙ none)
    by_case Decided same next =
        let was : (entry.node == node || is_decided before node) ≡ false
        = sym (ap (λ r. by_reason r (entry.node == node || is_decided before node) (λ n. is_decided before node)) same) ∙ none in
        let parts = or_parts (entry.node == node) (is_decided before node) was in
        ap (λ r. by_reason r (cond (entry.node == node) (first_or entry.choices.members 0) (chosen before node)) (λ n. chosen before node)) same
        ∙ cond-false (entry.node == node) (first_or entry.choices.members 0) (chosen before node) parts.0 ∙ next parts.1

-- ---- the end

-- terms that don't all pass have one that fails
some_fails : (test : Term → Bool) (terms : List Term) → AreNodesAscending terms → list_all test terms ≡ false
    → (node : ℕ) × (set : ChoiceSet) × (set_at terms node ≡ Some set) × (test (term_of node set) ≡ false)
some_fails test [] up fails = absurd (false≢true (sym fails))
some_fails test (term ∷ terms) up fails =
    elim (and_cases (test term) (list_all test terms) fails) [
      | inl here ↦ (term.node, term.choices, set_at-head term terms term.node refl, here)
      | inr behind ↦
          (let place = some_fails test terms (AreNodesAscending-tail term terms up) behind in
          (place.0, place.1, set_at-tail term terms place.0 (behind_differs term terms place.0 place.1 up place.2) ∙ place.2, place.3))
    ]

-- some term passes
pub any_at : (test : Term → Bool) (terms : List Term) (node : ℕ) (set : ChoiceSet) → set_at terms node ≡ Some set → test (term_of node set) ≡ true
    → list_any test terms ≡ true
any_at test [] node set at passes = cc
any_at test (term ∷ terms) node set at passes =
    elim (cases_eq term.node node) [
      | inl same ↦
          (let head : Some term.choices ≡ Some set = sym (set_at-head term terms node same) ∙ at in
          let e : term.choices ≡ set = cc in
          or_left (test term) (list_any test terms) (ap₂ (λ n s. test (term_of n s)) same e ∙ passes))
      | inr differs ↦ or_right (test term) (list_any test terms) (any_at test terms node set (sym (set_at-tail term terms node differs) ∙ at) passes)
    ]

-- the decided choices violate no fact, where no fact holds and each node that a fact asks is decided
pub chosen_violates_none : (sizes : List ℕ) (incompats : List (List Term)) (trail : List Assigned) (fact : List Term)
    → IsTrail sizes incompats trail → IsFormed sizes fact → IsShaped fact → holds sizes trail fact ≡ false
    → ((node : ℕ) → is_asked trail node fact ≡ true → is_decided trail node ≡ true) → violates (chosen trail) fact ≡ false
chosen_violates_none sizes incompats trail fact is formed shaped open_fact all_decided =
    false_from_ne_true (violates (chosen trail) fact) (λ violated. go violated (list_all (λ (t : Term). is_decided trail t.node) fact) refl)
  where
    has_chosen : violates (chosen trail) fact ≡ true → (node : ℕ) (set : ChoiceSet) → set_at fact node ≡ Some set → has set (chosen trail node) ≡ true
    has_chosen violated node set at = at_node (λ t. has t.choices (chosen trail t.node)) fact node set violated at

    go : violates (chosen trail) fact ≡ true → (all : Bool) → list_all (λ (t : Term). is_decided trail t.node) fact ≡ all → ⊥
    go violated true all =
        false≢true (sym open_fact ∙ holds-Within sizes trail fact formed.incompat.ascending
        (λ node set at choice below allowed.
        ap (has set)
        (fixes sizes incompats trail node is (at_node (λ t. is_decided trail t.node) fact node set all at)
        (known_of sizes fact node set (chosen trail node) formed at (has_chosen violated node set at)) choice below allowed)
        ∙ has_chosen violated node set at))
    go violated false some =
        let place = some_fails (λ t. is_decided trail t.node) fact formed.incompat.ascending some in
        let zero_there : has place.1 0 ≡ true
        = ap (has place.1) (sym (open_chosen trail place.0 place.3)) ∙ has_chosen violated place.0 place.1 place.2 in
        let asked : is_asked trail place.0 fact ≡ true
        = and_from (list_any (λ t. t.node == place.0 && has t.choices 0) fact) (list_all (is_met trail place.0) fact)
        (any_at (λ t. t.node == place.0 && has t.choices 0) fact place.0 place.1 place.2
        (and_from (place.0 == place.0) (has place.1 0) (eq-eqb place.0 place.0 refl) zero_there))
        (each_node (is_met trail place.0) fact formed.incompat.ascending
        (λ node set at.
        elim (cases_eq node place.0) [
          | inl same ↦ or_left (node == place.0) (is_decided trail node && has set (chosen trail node)) (eq-eqb node place.0 same)
          | inr differs ↦
              or_right (node == place.0) (is_decided trail node && has set (chosen trail node))
              (and_from (is_decided trail node) (has set (chosen trail node))
              (true_from_ne_false (is_decided trail node)
              (λ undecided.
              differs (shaped.one node place.0 set place.1 at place.2
              (ap (has set) (sym (open_chosen trail node undecided)) ∙ has_chosen violated node set at) zero_there)))
              (has_chosen violated node set at))
        ])) in
        false≢true (sym place.3 ∙ all_decided place.0 asked)

-- ---- what is next

-- the other terms of a fact that asks a node are held
asked_others : (sizes : List ℕ) (incompats : List (List Term)) (trail : List Assigned) (fact : List Term) (node other : ℕ) (its : ChoiceSet)
    → IsTrail sizes incompats trail → IsFormed sizes fact → is_asked trail node fact ≡ true → other ≢ node → set_at fact other ≡ Some its
    → Within sizes trail other its
asked_others sizes incompats trail fact node other its is formed asked differs at =
    let parts = and_parts (list_any (λ t. t.node == node && has t.choices 0) fact) (list_all (is_met trail node) fact) asked in
    let met = at_node (is_met trail node) fact other its parts.1 at in
    let both : (is_decided trail other && has its (chosen trail other)) ≡ true
    = elim (or_cases (other == node) (is_decided trail other && has its (chosen trail other)) met) [
      | inl same ↦ absurd (differs (eqb-true other node same))
      | inr here ↦ here
    ] in
    let here = and_parts (is_decided trail other) (has its (chosen trail other)) both in
    let known = known_of sizes fact other its (chosen trail other) formed at here.1 in
    λ choice below allowed. ap (has its) (fixes sizes incompats trail other is here.0 known choice below allowed) ∙ here.1

-- where a fact that asks a node neither holds nor is almost satisfied, no choice that is left for the node is in its set
pub asked_outside : (sizes : List ℕ) (incompats : List (List Term)) (trail : List Assigned) (fact : List Term) (node : ℕ) (set : ChoiceSet)
    → IsTrail sizes incompats trail → IsFormed sizes fact → is_asked trail node fact ≡ true → set_at fact node ≡ Some set
    → holds sizes trail fact ≡ false → almost sizes trail fact ≡ None
    → (choice : ℕ) → choice < slice_index sizes node → allows trail node choice ≡ true → has set choice ≡ false
asked_outside sizes incompats trail fact node set is formed asked at open_fact idle choice below allowed =
    false_from_ne_true (has set choice) (λ here. go here (is_held sizes trail (term_of node set)) refl)
  where
    others : (other : ℕ) (its : ChoiceSet) → other ≢ node → set_at fact other ≡ Some its → Within sizes trail other its
    others other its differs at_other = asked_others sizes incompats trail fact node other its is formed asked differs at_other

    go : has set choice ≡ true → (held : Bool) → is_held sizes trail (term_of node set) ≡ held → ⊥
    go here true held =
        false≢true (sym open_fact ∙ holds-Within sizes trail fact formed.incompat.ascending
        (λ other its at_other.
        elim (cases_eq other node) [
          | inl same ↦
              (let there : set_at fact other ≡ Some set = ap (set_at fact) same ∙ at in
              let e : set ≡ its = cc in
              subst (λ s. Within sizes trail other s) e (subst (λ n. Within sizes trail n set) (sym same) (Within-held sizes trail (term_of node set) held)))
          | inr differs ↦ others other its differs at_other
        ]))
    go here false open_here =
        let lack = not_within (slice_index sizes node) (allows trail node) set open_here in
        let forced : almost sizes trail fact ≡ Some (term_of node set)
        = almost_from sizes trail fact node set formed (record {
          at = at;
          others = others;
          meets = record { choice = choice; below = below; allowed = allowed; passes = here };
          lacks = record { choice = lack.0; below = lack.1; allowed = lack.2; passes = ap not lack.3 };
        }) in
        let e : None ≡ Some (term_of node set) = sym idle ∙ forced in
        cc
