-- The steps of a conflict are a chain of resolutions, none of them on the root.
use Rattle.std.proofs.Common.{◌≡◌, ◌≢◌, ℕ, ◌<◌, ◌==◌, ◌&&◌, ◌||◌, Bool, true, false, not, cond, List, [], ◌∷◌, ◌++◌, length, slice_index, slice_index_or, refl, sym, ap, ◌∙◌, subst, append-nil, append_assoc, eqb-true, eq-eqb}
use Rattle.std.proofs.lemmas.Bool.{cond_both, false≢true, not-true}
use Rattle.pub_set.specs.Choices.{has}
use Rattle.pub_term.specs.Resolvent.{CanResolve, resolvent}
use Rattle.pub_term.specs.declared.term.Term.{Term}
use Rattle.pub_trail.specs.Derived.{AreBelow, IsChain}
use Rattle.pub_trail.specs.Invariant.{Begins, IsDerived, IsReason, IsTrail}
use Rattle.pub_trail.specs.Outcome.{IsAsked}
use Rattle.pub_trail.specs.Trail.{allows, by_reason, holds, previous_level}
use Rattle.pub_trail.specs.Turn.{Conflict, Refutes, Learns, Step, conflict, is_refutation}
use Rattle.pub_trail.specs.declared.trail.Assigned.{Assigned}
use Rattle.pub_trail.specs.declared.trail.Reason.{Reason}
use Rattle.pub_trail.specs.declared.trail.Reason.TheVariants.{Decided, Derived}
use Rattle.pub_trail.proofs.ResolveLemmas.{allows-before}
use Rattle.pub_trail.proofs.WalkLemmas.{asked_earlier, asked_resolved}

-- ---- the root

-- the root's assignment leaves one choice
first_only : (reason : Reason) (sizes : List ℕ) (incompats : List (List Term)) (entry : Assigned) (c d : ℕ) → reason ≡ Decided
    → IsReason reason sizes incompats [] entry → entry.node ≡ 0 → c < slice_index sizes 0 → d < slice_index sizes 0
    → allows (entry ∷ []) 0 c ≡ true → allows (entry ∷ []) 0 d ≡ true → c ≡ d
first_only (Derived number) sizes incompats entry c d decided by root below_c below_d allowed_c allowed_d = cc
first_only Decided sizes incompats entry c d decided by root below_c below_d allowed_c allowed_d =
    one c below_c allowed_c ∙ sym (one d below_d allowed_d)
  where
    kept : (same keeps : Bool) → same ≡ true → ((not same || keeps) && true) ≡ true → keeps ≡ true
    kept true true is all = refl
    kept true false is all = absurd (false≢true all)
    kept false keeps is all = absurd (false≢true is)

    one : (k : ℕ) → k < slice_index sizes 0 → allows (entry ∷ []) 0 k ≡ true → k ≡ by.choice
    one k below allowed =
        eqb-true k by.choice
        (sym (by.choices k (subst (λ n. k < slice_index sizes n) (sym root) below))
        ∙ kept (entry.node == 0) (has entry.choices k) (eq-eqb entry.node 0 root) allowed)

-- the root has one choice left
root_fixed : (sizes : List ℕ) (incompats : List (List Term)) (trail : List Assigned) (c d : ℕ) → IsTrail sizes incompats trail → Begins trail
    → c < slice_index sizes 0 → d < slice_index sizes 0 → allows trail 0 c ≡ true → allows trail 0 d ≡ true → c ≡ d
root_fixed sizes incompats [] c d is begins below_c below_d allowed_c allowed_d = absurd begins
root_fixed sizes incompats (entry ∷ []) c d is begins below_c below_d allowed_c allowed_d =
    first_only entry.reason sizes incompats entry c d begins.2 is.0 begins.0 below_c below_d allowed_c allowed_d
root_fixed sizes incompats (entry ∷ next ∷ before) c d is begins below_c below_d allowed_c allowed_d =
    root_fixed sizes incompats (next ∷ before) c d is.1 begins below_c below_d
    (allows-before entry (next ∷ before) 0 c allowed_c) (allows-before entry (next ∷ before) 0 d allowed_d)

-- nothing is derived on the root
never_root : (sizes : List ℕ) (incompats : List (List Term)) (terms : List Term) (before : List Assigned) (entry : Assigned) → IsTrail sizes incompats before
    → Begins before → IsDerived sizes terms before entry → entry.node ≢ 0
never_root sizes incompats terms before entry is begins by root =
    let met = by.almost.meets in
    let lack = by.almost.lacks in
    let same : met.choice ≡ lack.choice
    = root_fixed sizes incompats before met.choice lack.choice is begins
    (subst (λ n. met.choice < slice_index sizes n) root met.below) (subst (λ n. lack.choice < slice_index sizes n) root lack.below)
    (subst (λ n. allows before n met.choice ≡ true) root met.allowed) (subst (λ n. allows before n lack.choice ≡ true) root lack.allowed) in
    false≢true (sym (not-true (has by.set lack.choice) lack.passes) ∙ ap (has by.set) (sym same) ∙ met.passes)

-- ---- the chain

-- the steps from terms to what they come to
pub record IsMade (incompats : List (List Term)) (terms : List Term) (steps : List Step) (final : List Term) (all : List Step) : Type 0 where
  pub more : List Step
  pub split : all ≡ steps ++ more
  pub below : AreBelow (length incompats) more
  pub chain : IsChain incompats terms more final

-- what a conflict comes to is made by its steps
abbrev pub IsMadeBy : List (List Term) → List Term → List Step → Conflict → Type 0
IsMadeBy incompats terms steps (Refutes final all) = IsMade incompats terms steps final all
IsMadeBy incompats terms steps (Learns final all level) = IsMade incompats terms steps final all × (is_refutation final ≡ false)

-- no step makes nothing else
made_here : (incompats : List (List Term)) (terms : List Term) (steps : List Step) → IsMade incompats terms steps terms steps
made_here incompats terms steps = record { more = []; split = sym (append-nil steps); below = tt; chain = refl }

-- one step more
made_next : (incompats : List (List Term)) (terms : List Term) (steps : List Step) (step : Step) (final : List Term) (all : List Step)
    → step.number < length incompats → step.node ≢ 0 → is_refutation terms ≡ false
    → CanResolve terms (slice_index_or incompats step.number []) step.node
    → IsMade incompats (resolvent terms (slice_index_or incompats step.number []) step.node) (steps ++ step ∷ []) final all
    → IsMade incompats terms steps final all
made_next incompats terms steps step final all below differs other can made = record {
  more = step ∷ made.more;
  split = made.split ∙ append_assoc steps (step ∷ []) made.more;
  below = (below, made.below);
  chain = (differs, other, can, made.chain);
}

-- the same of a conflict
made_by_next : (incompats : List (List Term)) (terms : List Term) (steps : List Step) (step : Step) (outcome : Conflict)
    → step.number < length incompats → step.node ≢ 0 → is_refutation terms ≡ false
    → CanResolve terms (slice_index_or incompats step.number []) step.node
    → IsMadeBy incompats (resolvent terms (slice_index_or incompats step.number []) step.node) (steps ++ step ∷ []) outcome
    → IsMadeBy incompats terms steps outcome
made_by_next incompats terms steps step (Refutes final all) below differs other can made =
    made_next incompats terms steps step final all below differs other can made
made_by_next incompats terms steps step (Learns final all level) below differs other can made =
    (made_next incompats terms steps step final all below differs other can made.0, made.1)

-- a conflict's outcome is made by its steps
pub conflict_made : (sizes : List ℕ) (incompats : List (List Term)) (trail : List Assigned) (terms : List Term) (steps : List Step)
    → IsAsked sizes incompats trail terms → IsMadeBy incompats terms steps (conflict sizes incompats trail terms steps)
conflict_made sizes incompats [] terms steps asked = absurd asked.begins
conflict_made sizes incompats (entry ∷ before) terms steps asked =
    let on = λ (others : List Term) (more : List Step) (so : IsAsked sizes incompats before others). conflict_made sizes incompats before others more so in
    cond_both (is_refutation terms) (Refutes terms steps) _ (IsMadeBy incompats terms steps)
    (λ root. made_here incompats terms steps)
    (λ other.
    cond_both (holds sizes before terms) (conflict sizes incompats before terms steps) _ (IsMadeBy incompats terms steps)
    (λ earlier. on terms steps (asked_earlier sizes incompats entry before terms asked other earlier))
    (λ open_before. at_reason entry.reason refl other open_before on))
  where
    at_reason : (reason : Reason) → entry.reason ≡ reason → is_refutation terms ≡ false → holds sizes before terms ≡ false
        → ((others : List Term) (more : List Step) → IsAsked sizes incompats before others → IsMadeBy incompats others more (conflict sizes incompats before others more))
        → IsMadeBy incompats terms steps
        (by_reason reason (Learns terms steps (previous_level sizes entry before terms))
        (λ number. cond (entry.level == previous_level sizes entry before terms)
        (conflict sizes incompats before (resolvent terms (slice_index_or incompats number []) entry.node)
        (steps ++ record { number = number; node = entry.node } ∷ []))
        (Learns terms steps (previous_level sizes entry before terms))))
    at_reason Decided reason other open_before on = (made_here incompats terms steps, other)
    at_reason (Derived number) reason other open_before on =
        let step : Step = record { number = number; node = entry.node } in
        let so = asked_resolved sizes incompats entry before terms number asked other open_before reason in
        let by : IsReason (Derived number) sizes incompats before entry = subst (λ r. IsReason r sizes incompats before entry) reason asked.stands.0 in
        cond_both (entry.level == previous_level sizes entry before terms)
        (conflict sizes incompats before (resolvent terms (slice_index_or incompats number []) entry.node) (steps ++ step ∷ []))
        (Learns terms steps (previous_level sizes entry before terms)) (IsMadeBy incompats terms steps)
        (λ _.
        made_by_next incompats terms steps step
        (conflict sizes incompats before (resolvent terms (slice_index_or incompats number []) entry.node) (steps ++ step ∷ []))
        so.0 (never_root sizes incompats (slice_index_or incompats number []) before entry asked.stands.1 so.1.asked.begins by.1) other so.1.can
        (on (resolvent terms (slice_index_or incompats number []) entry.node) (steps ++ step ∷ []) so.1.asked))
        (λ _. (made_here incompats terms steps, other))
