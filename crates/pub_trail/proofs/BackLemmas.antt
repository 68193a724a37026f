-- What is left of a trail when a conflict goes back to a level.
use Rattle.std.proofs.Common.{◌≡◌, ℕ, ◌+◌, ◌<◌, ◌≤◌, true, nat_le, List, [], ◌∷◌, refl, sym, ap, ◌∙◌, subst, arith}
use Rattle.std.proofs.lemmas.Bool.{cond-false, cond-true, cond_both, le-leb, lt-leb}
use Rattle.pub_term.specs.declared.term.Term.{Term}
use Rattle.pub_trail.specs.Invariant.{Begins, IsReason, IsTrail}
use Rattle.pub_trail.specs.Trail.{allows, holds, level_of, previous_level, up_to}
use Rattle.pub_trail.specs.declared.trail.Assigned.{Assigned}
use Rattle.pub_trail.specs.declared.trail.Reason.{Reason}
use Rattle.pub_trail.specs.declared.trail.Reason.TheVariants.{Decided, Derived}
use Rattle.pub_trail.proofs.ResolveLemmas.{allows-before}

-- ---- the levels

-- an assignment that isn't above the level stays, and all before it
pub up_to-keep : (level : ℕ) (entry : Assigned) (before : List Assigned) → entry.level ≤ level → up_to level (entry ∷ before) ≡ entry ∷ before
up_to-keep level entry before within = cond-true (nat_le entry.level level) (entry ∷ before) (up_to level before) (le-leb entry.level level within)

-- one above it goes
pub up_to-drop : (level : ℕ) (entry : Assigned) (before : List Assigned) → level < entry.level → up_to level (entry ∷ before) ≡ up_to level before
up_to-drop level entry before above = cond-false (nat_le entry.level level) (entry ∷ before) (up_to level before) (lt-leb entry.level level above)

-- what a part of the trail has is what passes of each part
pub up_to_both : (P : List Assigned → Type 0) (level : ℕ) (entry : Assigned) (before : List Assigned) → P (entry ∷ before) → P (up_to level before)
    → P (up_to level (entry ∷ before))
up_to_both P level entry before here behind =
    cond_both (nat_le entry.level level) (entry ∷ before) (up_to level before) P (λ _. here) (λ _. behind)

-- what is left of a trail is a trail
pub IsTrail-up_to : (sizes : List ℕ) (incompats : List (List Term)) (level : ℕ) (trail : List Assigned) → IsTrail sizes incompats trail
    → IsTrail sizes incompats (up_to level trail)
IsTrail-up_to sizes incompats level [] is = tt
IsTrail-up_to sizes incompats level (entry ∷ before) is =
    up_to_both (IsTrail sizes incompats) level entry before is (IsTrail-up_to sizes incompats level before is.1)

-- and leaves at least as much
pub allows-up_to : (level : ℕ) (trail : List Assigned) (node choice : ℕ) → allows trail node choice ≡ true → allows (up_to level trail) node choice ≡ true
allows-up_to level [] node choice allowed = refl
allows-up_to level (entry ∷ before) node choice allowed =
    up_to_both (λ trail. allows trail node choice ≡ true) level entry before allowed
    (allows-up_to level before node choice (allows-before entry before node choice allowed))

-- the level of an assignment against the one before it
pub level_step : (reason : Reason) (sizes : List ℕ) (incompats : List (List Term)) (before : List Assigned) (entry : Assigned)
    → IsReason reason sizes incompats before entry → (level_of before ≤ entry.level) × (entry.level ≤ level_of before + 1)
level_step Decided sizes incompats before entry by = omega (arith, by.level)
level_step (Derived number) sizes incompats before entry by = omega (arith, by.1.level)

-- a trail that begins with the root's assignment has a level
pub Begins-level : (sizes : List ℕ) (incompats : List (List Term)) (trail : List Assigned) → IsTrail sizes incompats trail → Begins trail
    → 1 ≤ level_of trail
Begins-level sizes incompats [] is begins = elim begins [ ]
Begins-level sizes incompats (entry ∷ []) is begins = omega (arith, begins.1)
Begins-level sizes incompats (entry ∷ next ∷ before) is begins =
    omega (arith, Begins-level sizes incompats (next ∷ before) is.1 begins, level_step entry.reason sizes incompats (next ∷ before) entry is.0)

-- going back to a level keeps the root's assignment
pub Begins-up_to : (sizes : List ℕ) (incompats : List (List Term)) (level : ℕ) (trail : List Assigned) → 1 ≤ level → IsTrail sizes incompats trail
    → Begins trail → Begins (up_to level trail)
Begins-up_to sizes incompats level [] some is begins = elim begins [ ]
Begins-up_to sizes incompats level (entry ∷ []) some is begins =
    subst Begins (sym (up_to-keep level entry [] (omega (arith, begins.1)))) begins
Begins-up_to sizes incompats level (entry ∷ next ∷ before) some is begins =
    up_to_both Begins level entry (next ∷ before) begins (Begins-up_to sizes incompats level (next ∷ before) some is.1 begins)

-- ---- the previous satisfier

-- with the satisfier the terms hold at the previous level already
pub back_holds : (sizes : List ℕ) (satisfier : Assigned) (before : List Assigned) (terms : List Term) → holds sizes (satisfier ∷ before) terms ≡ true
    → holds sizes (satisfier ∷ up_to (previous_level sizes satisfier before terms) before) terms ≡ true
back_holds sizes satisfier [] terms held = held
back_holds sizes satisfier (entry ∷ before) terms held =
    cond_both (holds sizes (satisfier ∷ before) terms) (previous_level sizes satisfier before terms) entry.level
    (λ level. holds sizes (satisfier ∷ up_to level (entry ∷ before)) terms ≡ true)
    (λ earlier.
    up_to_both (λ trail. holds sizes (satisfier ∷ trail) terms ≡ true) (previous_level sizes satisfier before terms) entry before held
    (back_holds sizes satisfier before terms earlier))
    (λ _. ap (λ trail. holds sizes (satisfier ∷ trail) terms) (up_to-keep entry.level entry before (omega arith)) ∙ held)

-- the previous level is one of those before the satisfier
pub previous_bounds : (sizes : List ℕ) (incompats : List (List Term)) (satisfier : Assigned) (before : List Assigned) (terms : List Term)
    → IsTrail sizes incompats before → Begins before
    → (1 ≤ previous_level sizes satisfier before terms) × (previous_level sizes satisfier before terms ≤ level_of before)
previous_bounds sizes incompats satisfier [] terms is begins = elim begins [ ]
previous_bounds sizes incompats satisfier (entry ∷ []) terms is begins =
    cond_both (holds sizes (satisfier ∷ []) terms) 1 entry.level (λ level. (1 ≤ level) × (level ≤ entry.level))
    (λ _. omega (arith, begins.1)) (λ _. omega (arith, begins.1))
previous_bounds sizes incompats satisfier (entry ∷ next ∷ before) terms is begins =
    let earlier = previous_bounds sizes incompats satisfier (next ∷ before) terms is.1 begins in
    let step = level_step entry.reason sizes incompats (next ∷ before) entry is.0 in
    let some = Begins-level sizes incompats (next ∷ before) is.1 begins in
    cond_both (holds sizes (satisfier ∷ next ∷ before) terms) (previous_level sizes satisfier (next ∷ before) terms) entry.level
    (λ level. (1 ≤ level) × (level ≤ entry.level))
    (λ _. omega (arith, earlier, step)) (λ _. omega (arith, step, some))

-- going back to no lower level drops nothing
pub up_to-whole : (level : ℕ) (trail : List Assigned) → level_of trail ≤ level → up_to level trail ≡ trail
up_to-whole level [] within = refl
up_to-whole level (entry ∷ before) within = up_to-keep level entry before within
