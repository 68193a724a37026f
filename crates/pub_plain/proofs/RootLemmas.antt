-- A refutation is violated wherever the root is chosen: the root's choice is left on the trail to which a conflict goes back.
use Rattle.std.proofs.Common.{◌≡◌, ℕ, ◌<◌, ◌==◌, ◌&&◌, ◌||◌, if◌then◌else◌, true, false, not, Bool, List, [], ◌∷◌, ◌++◌, slice_index, slice_index_or, All, refl, sym, ap, ◌∙◌, subst, arith, eqb-true, eq-eqb}
use Rattle.std.proofs.lemmas.Bool.{cond_both, false≢true, or_left}
use Rattle.std.proofs.lemmas.List.Elements.{All-head, All-tail}
use Rattle.pub_set.specs.Choices.{has, is_among}
use Rattle.pub_facts.specs.Catalogue.{Lookups}
use Rattle.pub_facts.specs.Numbered.{sizes_of}
use Rattle.pub_term.specs.Resolvent.{resolvent}
use Rattle.pub_term.specs.declared.node.NodeName.{NodeName}
use Rattle.pub_term.specs.declared.node.NodeName.TheVariants.{Root}
use Rattle.pub_term.specs.declared.term.Term.{Term}
use Rattle.pub_trail.specs.First.{first_or}
use Rattle.pub_trail.specs.Invariant.{Begins, IsDecided, IsReason, IsTrail}
use Rattle.pub_trail.specs.Outcome.{IsAsked}
use Rattle.pub_trail.specs.Trail.{allows, by_reason, holds, previous_level}
use Rattle.pub_trail.specs.Turn.{Conflict, Learns, Refutes, State, Step, conflict, is_refutation}
use Rattle.pub_trail.specs.declared.trail.Assigned.{Assigned}
use Rattle.pub_trail.specs.declared.trail.Reason.{Reason}
use Rattle.pub_trail.specs.declared.trail.Reason.TheVariants.{Decided, Derived}
use Rattle.pub_trail.proofs.ResolveLemmas.{allows-before, leaves_some}
use Rattle.pub_trail.proofs.WalkLemmas.{asked_earlier, asked_resolved}
use Rattle.pub_plain.specs.Answers.{Answers, lookups_by}
use Rattle.pub_plain.specs.Invariant.{IsDecidedAt, IsPlaced, IsSolver}
use Rattle.pub_plain.specs.Loading.{name_at}

-- ---- what a conflict refutes

-- the terms are on the root alone and hold on a trail where the root's choice is left
pub record IsHeldAtRoot (sizes : List ℕ) (incompats : List (List Term)) (terms : List Term) : Type 0 where
  pub trail : List Assigned
  pub asked : IsAsked sizes incompats trail terms
  pub root : is_refutation terms ≡ true
  pub left : allows trail 0 1 ≡ true

-- a conflict that refutes comes to such terms
abbrev pub EndsAtRoot : List ℕ → List (List Term) → Conflict → Type 0
EndsAtRoot sizes incompats (Refutes terms steps) = IsHeldAtRoot sizes incompats terms
EndsAtRoot sizes incompats (Learns terms steps level) = Unit {0}

-- where the root's choice is left, a conflict does so
pub conflict_ends : (sizes : List ℕ) (incompats : List (List Term)) (trail : List Assigned) (terms : List Term) (steps : List Step)
    → IsAsked sizes incompats trail terms → allows trail 0 1 ≡ true → EndsAtRoot sizes incompats (conflict sizes incompats trail terms steps)
conflict_ends sizes incompats [] terms steps asked left = absurd asked.begins
conflict_ends sizes incompats (entry ∷ before) terms steps asked left =
    let next = λ (others : List Term) (more : List Step) (it : IsAsked sizes incompats before others).
    conflict_ends sizes incompats before others more it (allows-before entry before 0 1 left) in
    cond_both (is_refutation terms) (Refutes terms steps) _ (EndsAtRoot sizes incompats)
    (λ root. record { trail = entry ∷ before; asked = asked; root = root; left = left })
    (λ other.
    cond_both (holds sizes before terms) (conflict sizes incompats before terms steps) _ (EndsAtRoot sizes incompats)
    (λ held. next terms steps (asked_earlier sizes incompats entry before terms asked other held))
    (λ open_before. by_cases entry.reason refl other open_before next))
  where
    by_cases : (reason : Reason) → entry.reason ≡ reason → is_refutation terms ≡ false → holds sizes before terms ≡ false
        → ((others : List Term) (more : List Step) → IsAsked sizes incompats before others
        → EndsAtRoot sizes incompats (conflict sizes incompats before others more))
        → EndsAtRoot sizes incompats
        (by_reason reason (Learns terms steps (previous_level sizes entry before terms))
        (λ number. if entry.level == previous_level sizes entry before terms
        then conflict sizes incompats before (resolvent terms (slice_index_or incompats number []) entry.node)
        (steps ++ record { number = number; node = entry.node } ∷ [])
        else Learns terms steps (previous_level sizes entry before terms)))
    by_cases Decided same other open_before next = tt
    by_cases (Derived number) same other open_before next =
        cond_both (entry.level == previous_level sizes entry before terms)
        (conflict sizes incompats before (resolvent terms (slice_index_or incompats number []) entry.node)
        (steps ++ record { number = number; node = entry.node } ∷ []))
        (Learns terms steps (previous_level sizes entry before terms)) (EndsAtRoot sizes incompats)
        (λ _.
        next (resolvent terms (slice_index_or incompats number []) entry.node) (steps ++ record { number = number; node = entry.node } ∷ [])
        (asked_resolved sizes incompats entry before terms number asked other open_before same).1.asked)
        (λ _. tt)

-- ---- the root's choice is left

-- members whose first is 1 have it
first_among : (members : List ℕ) → first_or members 0 ≡ 1 → is_among members 1 ≡ true
first_among [] is = absurd (omega (arith, is))
first_among (x ∷ xs) is = or_left (x == 1) (is_among xs 1) (eq-eqb x 1 is)

-- an assignment allows its own choices alone
own_allowed : (same keeps rest : Bool) → same ≡ true → ((not same || keeps) && rest) ≡ true → keeps ≡ true
own_allowed true true rest is all = refl
own_allowed true false rest is all = absurd (false≢true all)
own_allowed false keeps rest is all = absurd (false≢true is)

-- of the root only its choice 1 is left
root_only : (l : Lookups) (names : List NodeName) (sizes : List ℕ) (incompats : List (List Term)) (trail : List Assigned) (choice : ℕ)
    → name_at names 0 ≡ Root → slice_index sizes 0 ≡ 2 → All (IsPlaced l names sizes) trail → IsTrail sizes incompats trail → Begins trail
    → choice < 2 → allows trail 0 choice ≡ true → choice ≡ 1
root_only l names sizes incompats [] choice named size placed is begins below allowed = elim begins [ ]
root_only l names sizes incompats (entry ∷ []) choice named size placed is begins below allowed =
    let by : IsDecided sizes [] entry = subst (λ r. IsReason r sizes incompats [] entry) begins.2 is.0 in
    let sized : slice_index sizes entry.node ≡ 2 = ap (slice_index sizes) begins.0 ∙ size in
    let there : IsDecidedAt Decided l Root entry
    = subst (λ name. IsDecidedAt Decided l name entry) (ap (name_at names) begins.0 ∙ named)
    (subst (λ r. IsDecidedAt r l (name_at names entry.node) entry) begins.2 (All-head (IsPlaced l names sizes) entry [] placed).there) in
    let one : (1 == by.choice) ≡ true
    = sym (by.choices 1 (omega (arith, sized))) ∙ first_among entry.choices.members there in
    let here : has entry.choices choice ≡ true
    = own_allowed (entry.node == 0) (has entry.choices choice) true (eq-eqb entry.node 0 begins.0) allowed in
    let own : (choice == by.choice) ≡ true = sym (by.choices choice (omega (arith, sized, below))) ∙ here in
    eqb-true choice by.choice own ∙ sym (eqb-true 1 by.choice one)
root_only l names sizes incompats (entry ∷ next ∷ before) choice named size placed is begins below allowed =
    root_only l names sizes incompats (next ∷ before) choice named size (All-tail (IsPlaced l names sizes) entry (next ∷ before) placed)
    is.1 begins below (allows-before entry (next ∷ before) 0 choice allowed)

-- so the root's choice is left on the trail of a solver
pub root_left : (answers : Answers) (state : State) → IsSolver answers state → allows state.trail 0 1 ≡ true
root_left answers state is =
    let l = lookups_by answers in
    let named : name_at state.names 0 ≡ Root = ap (λ names. name_at names 0) is.rooted in
    let size : slice_index state.sizes 0 ≡ 2
    = ap (λ (sizes : List ℕ). slice_index sizes 0) is.sizes ∙ ap (λ names. slice_index (sizes_of l names) 0) is.rooted in
    let left = leaves_some state.sizes state.incompats state.trail 0 is.is.formed is.is.stands (omega (arith, size)) in
    let below = left.below in
    let one : left.choice ≡ 1
    = root_only l state.names state.sizes state.incompats state.trail left.choice named size is.placed is.is.stands is.is.begins
    (omega (arith, size, below)) left.allowed in
    subst (λ choice. allows state.trail 0 choice ≡ true) one left.allowed
