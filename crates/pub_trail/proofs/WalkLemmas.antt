-- The steps of a conflict's walk, over a trail that has the newest behind the others.
use Rattle.std.proofs.Common.{◌≡◌, ℕ, zero, suc, ◌+◌, ◌-◌, ◌<◌, ◌≤◌, ◌==◌, true, false, cond, List, [], ◌∷◌, ◌++◌, length, get_or, reverse, take, slice_index_or, refl, sym, ap, ◌∙◌, subst, arith, eq-eqb, ne_eqb}
use Rattle.std.proofs.lemmas.Bool.{cond-false, cond-true, false≢true}
use Rattle.std.proofs.lemmas.List.{get_or-map, length-map}
use Rattle.pub_term.specs.Resolvent.{CanResolve, resolvent}
use Rattle.pub_term.specs.declared.term.Incompat.{Incompat}
use Rattle.pub_term.specs.declared.term.Term.{Term}
use Rattle.pub_trail.specs.Invariant.{Begins, IsFormed, IsReason}
use Rattle.pub_trail.specs.Outcome.{IsAsked}
use Rattle.pub_trail.specs.Trail.{by_reason, holds, previous_level}
use Rattle.pub_trail.specs.Turn.{Conflict, Refutes, Learns, Step, conflict, is_refutation}
use Rattle.pub_trail.specs.Walk.{terms_of}
use Rattle.pub_trail.specs.declared.trail.Assigned.{Assigned}
use Rattle.pub_trail.specs.declared.trail.Reason.{Reason}
use Rattle.pub_trail.specs.declared.trail.Reason.TheVariants.{Decided, Derived}
use Rattle.pub_trail.proofs.ConflictLemmas.{root_alone}
use Rattle.pub_trail.proofs.KnownLemmas.{reverse-take_more}
use Rattle.pub_trail.proofs.LieLemmas.{formed_at, unviolated_at}
use Rattle.pub_trail.proofs.ResolveLemmas.{IsFormed-resolvent, can_resolve, resolvent_holds, resolvent_unviolated}

-- ---- the definition's cases

-- a refutation ends the walk
pub conflict-refutes : (sizes : List ℕ) (incompats : List (List Term)) (trail : List Assigned) (terms : List Term) (steps : List Step)
    → is_refutation terms ≡ true → conflict sizes incompats trail terms steps ≡ Refutes terms steps
conflict-refutes sizes incompats [] terms steps root = refl
conflict-refutes sizes incompats (entry ∷ before) terms steps root = cond-true (is_refutation terms) _ _ root

-- what holds before the newest assignment doesn't need it
pub conflict-earlier : (sizes : List ℕ) (incompats : List (List Term)) (entry : Assigned) (before : List Assigned) (terms : List Term) (steps : List Step)
    → is_refutation terms ≡ false → holds sizes before terms ≡ true
    → conflict sizes incompats (entry ∷ before) terms steps ≡ conflict sizes incompats before terms steps
conflict-earlier sizes incompats entry before terms steps other held =
    cond-false (is_refutation terms) _ _ other ∙ cond-true (holds sizes before terms) _ _ held

-- what a derived satisfier comes to, by its level
abbrev at_level : List ℕ → List (List Term) → Assigned → List Assigned → List Term → List Step → ℕ → Conflict
at_level sizes incompats entry before terms steps number =
    cond (entry.level == previous_level sizes entry before terms)
    (conflict sizes incompats before (resolvent terms (slice_index_or incompats number []) entry.node)
    (steps ++ record { number = number; node = entry.node } ∷ []))
    (Learns terms steps (previous_level sizes entry before terms))

-- the satisfier's reason decides
conflict-open : (sizes : List ℕ) (incompats : List (List Term)) (entry : Assigned) (before : List Assigned) (terms : List Term) (steps : List Step)
    → is_refutation terms ≡ false → holds sizes before terms ≡ false
    → conflict sizes incompats (entry ∷ before) terms steps
    ≡ by_reason entry.reason (Learns terms steps (previous_level sizes entry before terms)) (at_level sizes incompats entry before terms steps)
conflict-open sizes incompats entry before terms steps other open_before =
    cond-false (is_refutation terms) _ _ other ∙ cond-false (holds sizes before terms) _ _ open_before

-- a derived satisfier at the previous level is resolved
pub conflict-resolves : (sizes : List ℕ) (incompats : List (List Term)) (entry : Assigned) (before : List Assigned) (terms : List Term) (steps : List Step) (number : ℕ)
    → is_refutation terms ≡ false → holds sizes before terms ≡ false → entry.reason ≡ Derived number → entry.level ≡ previous_level sizes entry before terms
    → conflict sizes incompats (entry ∷ before) terms steps
    ≡ conflict sizes incompats before (resolvent terms (slice_index_or incompats number []) entry.node) (steps ++ record { number = number; node = entry.node } ∷ [])
conflict-resolves sizes incompats entry before terms steps number other open_before reason level =
    conflict-open sizes incompats entry before terms steps other open_before
    ∙ ap (λ r. by_reason r (Learns terms steps (previous_level sizes entry before terms)) (at_level sizes incompats entry before terms steps)) reason
    ∙ cond-true (entry.level == previous_level sizes entry before terms) _ _ (eq-eqb entry.level (previous_level sizes entry before terms) level)

-- a decision ends the walk
pub conflict-decided : (sizes : List ℕ) (incompats : List (List Term)) (entry : Assigned) (before : List Assigned) (terms : List Term) (steps : List Step)
    → is_refutation terms ≡ false → holds sizes before terms ≡ false → entry.reason ≡ Decided
    → conflict sizes incompats (entry ∷ before) terms steps ≡ Learns terms steps (previous_level sizes entry before terms)
conflict-decided sizes incompats entry before terms steps other open_before reason =
    conflict-open sizes incompats entry before terms steps other open_before
    ∙ ap (λ r. by_reason r (Learns terms steps (previous_level sizes entry before terms)) (at_level sizes incompats entry before terms steps)) reason

-- and so does a lower previous level
pub conflict-lower : (sizes : List ℕ) (incompats : List (List Term)) (entry : Assigned) (before : List Assigned) (terms : List Term) (steps : List Step)
    → is_refutation terms ≡ false → holds sizes before terms ≡ false → (entry.level ≡ previous_level sizes entry before terms → ⊥)
    → conflict sizes incompats (entry ∷ before) terms steps ≡ Learns terms steps (previous_level sizes entry before terms)
conflict-lower sizes incompats entry before terms steps other open_before level =
    conflict-open sizes incompats entry before terms steps other open_before ∙ lower entry.reason
  where
    lower : (reason : Reason)
        → by_reason reason (Learns terms steps (previous_level sizes entry before terms)) (at_level sizes incompats entry before terms steps)
        ≡ Learns terms steps (previous_level sizes entry before terms)
    lower Decided = refl
    lower (Derived number) = cond-false (entry.level == previous_level sizes entry before terms) _ _ (ne_eqb entry.level (previous_level sizes entry before terms) level)

-- ---- what is asked stays

-- before a satisfier there is the root's assignment
pub Begins-before : (sizes : List ℕ) (incompats : List (List Term)) (entry : Assigned) (before : List Assigned) (terms : List Term)
    → IsAsked sizes incompats (entry ∷ before) terms → is_refutation terms ≡ false → Begins before
Begins-before sizes incompats entry [] terms asked other =
    absurd (false≢true (sym other ∙ root_alone sizes entry terms asked.begins.0 asked.formed asked.held))
Begins-before sizes incompats entry (next ∷ before) terms asked other = asked.begins

-- what is asked stays without an assignment that isn't needed
pub asked_earlier : (sizes : List ℕ) (incompats : List (List Term)) (entry : Assigned) (before : List Assigned) (terms : List Term)
    → IsAsked sizes incompats (entry ∷ before) terms → is_refutation terms ≡ false → holds sizes before terms ≡ true → IsAsked sizes incompats before terms
asked_earlier sizes incompats entry before terms asked other held = record {
  some = asked.some;
  all_formed = asked.all_formed;
  stands = asked.stands.1;
  begins = Begins-before sizes incompats entry before terms asked other;
  formed = asked.formed;
  follows = asked.follows;
  held = held;
}

-- what a resolution asks and leaves
pub record IsResolved (sizes : List ℕ) (incompats : List (List Term)) (entry : Assigned) (before : List Assigned) (terms second : List Term) : Type 0 where
  pub can : CanResolve terms second entry.node
  pub formed : IsFormed sizes second
  pub asked : IsAsked sizes incompats before (resolvent terms second entry.node)

-- and after a resolution
pub asked_resolved : (sizes : List ℕ) (incompats : List (List Term)) (entry : Assigned) (before : List Assigned) (terms : List Term) (number : ℕ)
    → IsAsked sizes incompats (entry ∷ before) terms → is_refutation terms ≡ false → holds sizes before terms ≡ false → entry.reason ≡ Derived number
    → (number < length incompats) × IsResolved sizes incompats entry before terms (slice_index_or incompats number [])
asked_resolved sizes incompats entry before terms number asked other open_before reason =
    let by : IsReason (Derived number) sizes incompats before entry = subst (λ r. IsReason r sizes incompats before entry) reason asked.stands.0 in
    let second = slice_index_or incompats number [] in
    let formed_second = formed_at sizes incompats number asked.all_formed by.0 in
    let can = can_resolve sizes incompats before entry terms second asked.some asked.all_formed asked.stands.1 asked.formed formed_second asked.held open_before by.1 in (
      by.0,
      record {
        can = can;
        formed = formed_second;
        asked = record {
          some = asked.some;
          all_formed = asked.all_formed;
          stands = asked.stands.1;
          begins = Begins-before sizes incompats entry before terms asked other;
          formed = IsFormed-resolvent sizes terms second entry.node asked.formed formed_second can;
          follows = λ assignment is none.
              resolvent_unviolated sizes terms second entry.node assignment asked.formed formed_second can is (asked.follows assignment is none)
              (unviolated_at incompats assignment number none by.0);
          held = resolvent_holds sizes before entry terms second asked.formed formed_second asked.held open_before by.1;
        };
      },
    )

-- ---- the previous satisfier

-- what holds with the satisfier doesn't need the assignment
pub previous-earlier : (sizes : List ℕ) (satisfier entry : Assigned) (before : List Assigned) (terms : List Term)
    → holds sizes (satisfier ∷ before) terms ≡ true
    → previous_level sizes satisfier (entry ∷ before) terms ≡ previous_level sizes satisfier before terms
previous-earlier sizes satisfier entry before terms held = cond-true (holds sizes (satisfier ∷ before) terms) _ _ held

-- what doesn't hold without it does
pub previous-here : (sizes : List ℕ) (satisfier entry : Assigned) (before : List Assigned) (terms : List Term)
    → holds sizes (satisfier ∷ before) terms ≡ false → previous_level sizes satisfier (entry ∷ before) terms ≡ entry.level
previous-here sizes satisfier entry before terms open_before = cond-false (holds sizes (satisfier ∷ before) terms) _ _ open_before

-- ---- incompatibilities by their numbers

-- the terms of the incompatibility of a number
pub terms_at : (incompats : List Incompat) (number : ℕ) (incompat : Incompat) → number < length (terms_of incompats) → incompat ≡ get_or incompats number incompat
    → slice_index_or (terms_of incompats) number [] ≡ incompat.terms
terms_at incompats number incompat within at =
    get_or-map (λ (i : Incompat). i.terms) incompats number incompat [] (omega (arith, length-map incompats (λ (i : Incompat). i.terms)))
    ∙ ap (λ (i : Incompat). i.terms) (sym at)

-- as many as the incompatibilities
pub length-terms_of : (incompats : List Incompat) → length (terms_of incompats) ≡ length incompats
length-terms_of incompats = length-map incompats (λ (i : Incompat). i.terms)

-- ---- over a trail that has the newest behind the others

-- there is an item at each place
some_at : {X : Type 0} (xs : List X) (i : ℕ) → i < length xs → (x : X) × (x ≡ get_or xs i x)
some_at [] i within = absurd (omega arith)
some_at (x ∷ xs) zero within = (x, refl)
some_at (x ∷ xs) (suc i) within = some_at xs i (omega arith)

-- the trail up to a place: its newest, and what is before it
pub split_at : (trail : List Assigned) (place : ℕ) (entry : Assigned) → 0 < place → place ≤ length trail → entry ≡ get_or trail (place - 1) entry
    → reverse (take place trail) ≡ entry ∷ reverse (take (place - 1) trail)
split_at trail place entry some within at =
    let e : place ≡ place - 1 + 1 = omega arith in
    ap (λ n. reverse (take n trail)) e ∙ reverse-take_more trail (place - 1) entry (omega arith) at

-- a step of the search for the previous satisfier
pub previous_step : (sizes : List ℕ) (satisfier : Assigned) (before : List Assigned) (place : ℕ) (terms : List Term) (level : ℕ) → 0 < place → place ≤ length before
    → holds sizes (satisfier ∷ reverse (take (place - 1) before)) terms ≡ true
    → previous_level sizes satisfier (reverse (take place before)) terms ≡ level
    → previous_level sizes satisfier (reverse (take (place - 1) before)) terms ≡ level
previous_step sizes satisfier before place terms level some within held is =
    let here = some_at before (place - 1) (omega arith) in
    sym (ap (λ t. previous_level sizes satisfier t terms) (split_at before place here.0 some within here.1)
    ∙ previous-earlier sizes satisfier here.0 (reverse (take (place - 1) before)) terms held) ∙ is

-- and its end
pub previous_found : (sizes : List ℕ) (satisfier : Assigned) (before : List Assigned) (place : ℕ) (terms : List Term) (level : ℕ) (entry : Assigned)
    → 0 < place → place ≤ length before → entry ≡ get_or before (place - 1) entry
    → holds sizes (satisfier ∷ reverse (take (place - 1) before)) terms ≡ false
    → previous_level sizes satisfier (reverse (take place before)) terms ≡ level → entry.level ≡ level
previous_found sizes satisfier before place terms level entry some within at open_before is =
    sym (previous-here sizes satisfier entry (reverse (take (place - 1) before)) terms open_before)
    ∙ sym (ap (λ t. previous_level sizes satisfier t terms) (split_at before place entry some within at)) ∙ is

-- what the walk's loop keeps: what is asked, and that what is left of the walk gives what all of it gives
pub record IsWalk (sizes : List ℕ) (incompats : List (List Term)) (trail : List Assigned) (place : ℕ) (terms : List Term) (steps : List Step) (whole : Conflict) : Type 0 where
  pub within : place ≤ length trail
  pub asked : IsAsked sizes incompats (reverse (take place trail)) terms
  pub left : conflict sizes incompats (reverse (take place trail)) terms steps ≡ whole

-- a step past an assignment that isn't needed
pub IsWalk-earlier : (sizes : List ℕ) (incompats : List (List Term)) (trail : List Assigned) (place : ℕ) (terms : List Term) (steps : List Step) (whole : Conflict)
    → IsWalk sizes incompats trail place terms steps whole → 0 < place → is_refutation terms ≡ false
    → holds sizes (reverse (take (place - 1) trail)) terms ≡ true → IsWalk sizes incompats trail (place - 1) terms steps whole
IsWalk-earlier sizes incompats trail place terms steps whole walk some other held =
    let here = some_at trail (place - 1) (omega (arith, walk.within)) in
    let split = split_at trail place here.0 some walk.within here.1 in
    record {
      within = omega (arith, walk.within);
      asked = asked_earlier sizes incompats here.0 (reverse (take (place - 1) trail)) terms
          (subst (λ t. IsAsked sizes incompats t terms) split walk.asked) other held;
      left =
          sym (ap (λ t. conflict sizes incompats t terms steps) split
          ∙ conflict-earlier sizes incompats here.0 (reverse (take (place - 1) trail)) terms steps other held) ∙ walk.left;
    }

-- what a resolution asks of the walk
pub walk_resolved : (sizes : List ℕ) (incompats : List (List Term)) (trail : List Assigned) (place : ℕ) (terms : List Term) (steps : List Step) (whole : Conflict)
    (entry : Assigned) (number : ℕ) → IsWalk sizes incompats trail place terms steps whole → 0 < place → is_refutation terms ≡ false
    → holds sizes (reverse (take (place - 1) trail)) terms ≡ false → entry ≡ get_or trail (place - 1) entry → entry.reason ≡ Derived number
    → (number < length incompats) × IsResolved sizes incompats entry (reverse (take (place - 1) trail)) terms (slice_index_or incompats number [])
walk_resolved sizes incompats trail place terms steps whole entry number walk some other open_before at reason =
    asked_resolved sizes incompats entry (reverse (take (place - 1) trail)) terms number
    (subst (λ t. IsAsked sizes incompats t terms) (split_at trail place entry some walk.within at) walk.asked) other open_before reason

-- a step by a resolution
pub IsWalk-resolved : (sizes : List ℕ) (incompats : List (List Term)) (trail : List Assigned) (place : ℕ) (terms : List Term) (steps : List Step) (whole : Conflict)
    (entry : Assigned) (number : ℕ) → IsWalk sizes incompats trail place terms steps whole → 0 < place → is_refutation terms ≡ false
    → holds sizes (reverse (take (place - 1) trail)) terms ≡ false → entry ≡ get_or trail (place - 1) entry → entry.reason ≡ Derived number
    → entry.level ≡ previous_level sizes entry (reverse (take (place - 1) trail)) terms
    → IsWalk sizes incompats trail (place - 1) (resolvent terms (slice_index_or incompats number []) entry.node)
    (steps ++ record { number = number; node = entry.node } ∷ []) whole
IsWalk-resolved sizes incompats trail place terms steps whole entry number walk some other open_before at reason level =
    let before = reverse (take (place - 1) trail) in
    record {
      within = omega (arith, walk.within);
      asked = (walk_resolved sizes incompats trail place terms steps whole entry number walk some other open_before at reason).1.asked;
      left =
          sym (ap (λ t. conflict sizes incompats t terms steps) (split_at trail place entry some walk.within at)
          ∙ conflict-resolves sizes incompats entry before terms steps number other open_before reason level) ∙ walk.left;
    }

-- the end at a decision
pub walk_decided : (sizes : List ℕ) (incompats : List (List Term)) (trail : List Assigned) (place : ℕ) (terms : List Term) (steps : List Step) (whole : Conflict)
    (entry : Assigned) → IsWalk sizes incompats trail place terms steps whole → 0 < place → is_refutation terms ≡ false
    → holds sizes (reverse (take (place - 1) trail)) terms ≡ false → entry ≡ get_or trail (place - 1) entry → entry.reason ≡ Decided
    → Learns terms steps (previous_level sizes entry (reverse (take (place - 1) trail)) terms) ≡ whole
walk_decided sizes incompats trail place terms steps whole entry walk some other open_before at reason =
    let before = reverse (take (place - 1) trail) in
    sym (ap (λ t. conflict sizes incompats t terms steps) (split_at trail place entry some walk.within at)
    ∙ conflict-decided sizes incompats entry before terms steps other open_before reason) ∙ walk.left

-- the end at a lower level
pub walk_lower : (sizes : List ℕ) (incompats : List (List Term)) (trail : List Assigned) (place : ℕ) (terms : List Term) (steps : List Step) (whole : Conflict)
    (entry : Assigned) → IsWalk sizes incompats trail place terms steps whole → 0 < place → is_refutation terms ≡ false
    → holds sizes (reverse (take (place - 1) trail)) terms ≡ false → entry ≡ get_or trail (place - 1) entry
    → (entry.level ≡ previous_level sizes entry (reverse (take (place - 1) trail)) terms → ⊥)
    → Learns terms steps (previous_level sizes entry (reverse (take (place - 1) trail)) terms) ≡ whole
walk_lower sizes incompats trail place terms steps whole entry walk some other open_before at level =
    let before = reverse (take (place - 1) trail) in
    sym (ap (λ t. conflict sizes incompats t terms steps) (split_at trail place entry some walk.within at)
    ∙ conflict-lower sizes incompats entry before terms steps other open_before level) ∙ walk.left

-- at the end the terms are a refutation
pub walk_ends : (sizes : List ℕ) (incompats : List (List Term)) (trail : List Assigned) (place : ℕ) (terms : List Term) (steps : List Step) (whole : Conflict)
    → IsWalk sizes incompats trail place terms steps whole → is_refutation terms ≡ true → Refutes terms steps ≡ whole
walk_ends sizes incompats trail place terms steps whole walk root =
    sym (conflict-refutes sizes incompats (reverse (take place trail)) terms steps root) ∙ walk.left

-- the walk ends before the trail does
pub never_empty : (sizes : List ℕ) (incompats : List (List Term)) (trail : List Assigned) (place : ℕ) (terms : List Term) (steps : List Step) (whole : Conflict)
    → IsWalk sizes incompats trail place terms steps whole → place ≡ 0 → ⊥
never_empty sizes incompats trail place terms steps whole walk none =
    (subst (λ n. IsAsked sizes incompats (reverse (take n trail)) terms) none walk.asked).begins

-- what isn't derived was decided
pub is_decision : (reason : Reason) → ((number : ℕ) → reason ≡ Derived number → ⊥) → reason ≡ Decided
is_decision Decided never = refl
is_decision (Derived number) never = absurd (never number refl)
