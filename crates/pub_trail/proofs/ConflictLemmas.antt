-- What a conflict comes to: what is refuted or learned follows, and what is learned is almost satisfied at the level to go back to.
use Rattle.std.proofs.Common.{◌≡◌, ℕ, ◌<◌, ◌≤◌, ◌==◌, true, false, not, cond, List, [], ◌∷◌, ◌++◌, length, slice_index, slice_index_or, Some, refl, sym, ap, ◌∙◌, subst, inl, inr, arith, eq-eqb}
use Rattle.std.proofs.lemmas.Bool.{and_from, and_parts, cases_eq, cond-true, cond_both, eqb-false, false≢true, false_from_ne_true}
use Rattle.pub_set.specs.Choices.{ChoiceSet, has}
use Rattle.pub_term.specs.Resolvent.{resolvent}
use Rattle.pub_term.specs.Term.{set_at}
use Rattle.pub_term.specs.declared.term.Term.{Term}
use Rattle.pub_term.proofs.AboveLemmas.{AreNodesAscending-tail}
use Rattle.pub_trail.specs.Invariant.{AreFormed, Begins, IsAlmost, IsDecided, IsFormed, IsReason, IsTrail, Leaves, Within}
use Rattle.pub_trail.specs.Trail.{allows, by_reason, holds, is_held, level_of, previous_level, up_to}
use Rattle.pub_trail.specs.Outcome.{IsAsked, IsLearned, IsOutcome, IsRefuted}
use Rattle.pub_trail.specs.Turn.{Conflict, Refutes, Learns, Step, conflict, is_refutation}
use Rattle.pub_trail.specs.declared.trail.Assigned.{Assigned}
use Rattle.pub_trail.specs.declared.trail.Reason.{Reason}
use Rattle.pub_trail.specs.declared.trail.Reason.TheVariants.{Decided, Derived}
use Rattle.pub_trail.proofs.BackLemmas.{allows-up_to, back_holds, level_step, previous_bounds, up_to-drop}
use Rattle.pub_trail.proofs.HeldLemmas.{Within-held, Within-holds, held-Within, holds-Within, term_of}
use Rattle.pub_trail.proofs.LieLemmas.{formed_at, sized_at, unviolated_at}
use Rattle.pub_trail.proofs.ResolveLemmas.{IsFormed-resolvent, Within-other, allows-before, can_resolve, leaves_some, on_entry, resolvent_holds, resolvent_unviolated, some_set}
use Rattle.pub_trail.proofs.TestLemmas.{all_below, not_within}

-- what is learned is the same with more assignments of a level that isn't lower
outcome_behind : (sizes : List ℕ) (incompats : List (List Term)) (entry : Assigned) (before : List Assigned) (outcome : Conflict)
    → level_of before ≤ entry.level → IsOutcome sizes incompats before outcome → IsOutcome sizes incompats (entry ∷ before) outcome
outcome_behind sizes incompats entry before (Refutes terms steps) step is = is
outcome_behind sizes incompats entry before (Learns terms steps level) step is = record {
  formed = is.formed;
  follows = is.follows;
  some = is.some;
  lower = omega (arith, is.lower);
  node = is.node;
  set = is.set;
  almost = subst (λ trail. IsAlmost sizes trail terms is.node is.set) (sym (up_to-drop level entry before (omega (arith, is.lower)))) is.almost;
}

-- ---- going back

-- terms that hold with an assignment and not before it: some choice that is left before it isn't in their set on its node
lacks_on : (sizes : List ℕ) (entry : Assigned) (before : List Assigned) (terms : List Term) (set : ChoiceSet) → IsFormed sizes terms
    → holds sizes (entry ∷ before) terms ≡ true → holds sizes before terms ≡ false → set_at terms entry.node ≡ Some set
    → Leaves sizes before entry.node (λ choice. not (has set choice))
lacks_on sizes entry before terms set formed held open_before at =
    let open_here : is_held sizes before (term_of entry.node set) ≡ false
    = false_from_ne_true (is_held sizes before (term_of entry.node set))
    (λ here.
    false≢true (sym open_before ∙ holds-Within sizes before terms formed.incompat.ascending
    (λ node its at_node.
    elim (cases_eq entry.node node) [
      | inl same ↦
          (let there : set_at terms node ≡ Some set = ap (set_at terms) (sym same) ∙ at in
          let e : set ≡ its = cc in
          subst (λ n. Within sizes before n its) same
          (subst (λ s. Within sizes before entry.node s) e (Within-held sizes before (term_of entry.node set) here)))
      | inr differs ↦ Within-other sizes entry before node its differs (Within-holds sizes (entry ∷ before) terms node its held at_node)
    ]))) in
    let place = not_within (slice_index sizes entry.node) (allows before entry.node) set open_here in
    record { choice = place.0; below = place.1; allowed = place.2; passes = ap not place.3 }

-- below the satisfier's level the terms are almost satisfied on its node
almost_back : (sizes : List ℕ) (incompats : List (List Term)) (entry : Assigned) (before : List Assigned) (terms : List Term) (level : ℕ)
    → ((node : ℕ) → node < length sizes → 0 < slice_index sizes node)
    → AreFormed sizes incompats → IsTrail sizes incompats (entry ∷ before) → IsFormed sizes terms
    → holds sizes (entry ∷ before) terms ≡ true → holds sizes before terms ≡ false → holds sizes (entry ∷ up_to level before) terms ≡ true
    → (set : ChoiceSet) × IsAlmost sizes (up_to level before) terms entry.node set
almost_back sizes incompats entry before terms level some formed is formed_terms held open_before held_back =
    let at = some_set (set_at terms entry.node) (on_entry sizes entry before terms formed_terms held open_before) in
    let known = (sized_at sizes terms entry.node at.0 formed_terms.sized at.1).0 in
    let left = leaves_some sizes incompats (entry ∷ before) entry.node formed is (some entry.node known) in
    let lacks = lacks_on sizes entry before terms at.0 formed_terms held open_before at.1 in (
      at.0,
      record {
        at = at.1;
        others = λ other its differs at_other.
            Within-other sizes entry (up_to level before) other its (λ same. differs (sym same))
            (Within-holds sizes (entry ∷ up_to level before) terms other its held_back at_other);
        meets = record {
          choice = left.choice;
          below = left.below;
          allowed = allows-up_to level before entry.node left.choice (allows-before entry before entry.node left.choice left.allowed);
          passes = Within-holds sizes (entry ∷ before) terms entry.node at.0 held at.1 left.choice left.below left.allowed;
        };
        lacks = record {
          choice = lacks.choice;
          below = lacks.below;
          allowed = allows-up_to level before entry.node lacks.choice lacks.allowed;
          passes = lacks.passes;
        };
      },
    )

-- ---- the walk

-- what is learned there
learns_back : (sizes : List ℕ) (incompats : List (List Term)) (entry : Assigned) (before : List Assigned) (terms : List Term)
    → IsAsked sizes incompats (entry ∷ before) terms → holds sizes before terms ≡ false → Begins before
    → previous_level sizes entry before terms < entry.level
    → IsLearned sizes incompats (entry ∷ before) terms (previous_level sizes entry before terms)
learns_back sizes incompats entry before terms asked open_before begins lower =
    let level = previous_level sizes entry before terms in
    let bounds = previous_bounds sizes incompats entry before terms asked.stands.1 begins in
    let back = almost_back sizes incompats entry before terms level asked.some asked.all_formed asked.stands asked.formed asked.held open_before
    (back_holds sizes entry before terms asked.held) in
    record {
      formed = asked.formed;
      follows = asked.follows;
      some = bounds.0;
      lower = lower;
      node = entry.node;
      set = back.0;
      almost = subst (λ trail. IsAlmost sizes trail terms entry.node back.0) (sym (up_to-drop level entry before lower)) back.1;
    }

-- terms that hold before the first assignment are none
none_hold : (sizes : List ℕ) (term : Term) (terms : List Term) → IsFormed sizes (term ∷ terms) → holds sizes [] (term ∷ terms) ≡ true → ⊥
none_hold sizes term terms formed held =
    let within = Within-held sizes [] term (and_parts (is_held sizes [] term) (holds sizes [] terms) held).0 in
    let size = formed.sized.0.1 in
    false≢true (sym formed.incompat.proper.1
    ∙ all_below (has term.choices) term.choices.size (λ k below. within k (subst (λ n. k < n) size below) refl))

-- the rest of well formed terms
tail_formed : (sizes : List ℕ) (term : Term) (terms : List Term) → IsFormed sizes (term ∷ terms) → IsFormed sizes terms
tail_formed sizes term terms formed = record {
  incompat = record { ascending = AreNodesAscending-tail term terms formed.incompat.ascending; proper = formed.incompat.proper.2 };
  sized = formed.sized.1;
}

-- the first of well formed terms
head_formed : (sizes : List ℕ) (term : Term) (terms : List Term) → IsFormed sizes (term ∷ terms) → IsFormed sizes (term ∷ [])
head_formed sizes term terms formed = record {
  incompat = record { ascending = tt; proper = (formed.incompat.proper.0, formed.incompat.proper.1, tt) };
  sized = (formed.sized.0, tt);
}

-- what the root's assignment alone makes hold is a refutation
pub root_alone : (sizes : List ℕ) (entry : Assigned) (terms : List Term) → entry.node ≡ 0 → IsFormed sizes terms → holds sizes (entry ∷ []) terms ≡ true
    → is_refutation terms ≡ true
root_alone sizes entry [] root formed held = refl
root_alone sizes entry (term ∷ terms) root formed held =
    let parts = and_parts (is_held sizes (entry ∷ []) term) (holds sizes (entry ∷ []) terms) held in
    elim (cases_eq term.node 0) [
      | inl same ↦ and_from (term.node == 0) (is_refutation terms) (eq-eqb term.node 0 same) (root_alone sizes entry terms root (tail_formed sizes term terms formed) parts.1)
      | inr differs ↦
          absurd (none_hold sizes term [] (head_formed sizes term terms formed)
          (and_from (is_held sizes [] term) true
          (held-Within sizes [] term
          (Within-other sizes entry [] term.node term.choices (λ same. differs (sym same ∙ root)) (Within-held sizes (entry ∷ []) term parts.0))) refl))
    ]

-- the satisfier's reason decides what a conflict comes to
at_reason : (reason : Reason) (sizes : List ℕ) (incompats : List (List Term)) (before : List Assigned) (entry : Assigned) (terms : List Term) (steps : List Step)
    → entry.reason ≡ reason → IsAsked sizes incompats (entry ∷ before) terms → holds sizes before terms ≡ false → Begins before
    → ((others : List Term) (more : List Step) → IsAsked sizes incompats before others → IsOutcome sizes incompats before (conflict sizes incompats before others more))
    → IsOutcome sizes incompats (entry ∷ before)
    (by_reason reason (Learns terms steps (previous_level sizes entry before terms))
    (λ number. cond (entry.level == previous_level sizes entry before terms)
    (conflict sizes incompats before (resolvent terms (slice_index_or incompats number []) entry.node)
    (steps ++ record { number = number; node = entry.node } ∷ []))
    (Learns terms steps (previous_level sizes entry before terms))))
at_reason Decided sizes incompats before entry terms steps same asked open_before begins next =
    let by : IsDecided sizes before entry = subst (λ r. IsReason r sizes incompats before entry) same asked.stands.0 in
    let bounds = previous_bounds sizes incompats entry before terms asked.stands.1 begins in
    learns_back sizes incompats entry before terms asked open_before begins (omega (arith, by.level, bounds))
at_reason (Derived number) sizes incompats before entry terms steps same asked open_before begins next =
    let by : IsReason (Derived number) sizes incompats before entry = subst (λ r. IsReason r sizes incompats before entry) same asked.stands.0 in
    let bounds = previous_bounds sizes incompats entry before terms asked.stands.1 begins in
    let second = slice_index_or incompats number [] in
    let formed_second = formed_at sizes incompats number asked.all_formed by.0 in
    let can = can_resolve sizes incompats before entry terms second asked.some asked.all_formed asked.stands.1 asked.formed formed_second asked.held open_before by.1 in
    cond_both (entry.level == previous_level sizes entry before terms)
    (conflict sizes incompats before (resolvent terms second entry.node) (steps ++ record { number = number; node = entry.node } ∷ []))
    (Learns terms steps (previous_level sizes entry before terms)) (IsOutcome sizes incompats (entry ∷ before))
    (λ _.
    outcome_behind sizes incompats entry before
    (conflict sizes incompats before (resolvent terms second entry.node) (steps ++ record { number = number; node = entry.node } ∷ []))
    (omega (arith, by.1.level))
    (next (resolvent terms second entry.node) (steps ++ record { number = number; node = entry.node } ∷ [])
    (record {
      some = asked.some;
      all_formed = asked.all_formed;
      stands = asked.stands.1;
      begins = begins;
      formed = IsFormed-resolvent sizes terms second entry.node asked.formed formed_second can;
      follows = λ assignment is none.
          resolvent_unviolated sizes terms second entry.node assignment asked.formed formed_second can is (asked.follows assignment is none)
          (unviolated_at incompats assignment number none by.0);
      held = resolvent_holds sizes before entry terms second asked.formed formed_second asked.held open_before by.1;
    })))
    (λ other.
    learns_back sizes incompats entry before terms asked open_before begins
    (omega (arith, by.1.level, bounds, eqb-false entry.level (previous_level sizes entry before terms) other)))

-- what is asked and is a refutation is refuted
refuted : (sizes : List ℕ) (incompats : List (List Term)) (trail : List Assigned) (terms : List Term) → IsAsked sizes incompats trail terms
    → is_refutation terms ≡ true → IsRefuted sizes incompats terms
refuted sizes incompats trail terms asked root = record { formed = asked.formed; follows = asked.follows; root = root }

-- a conflict comes to what its outcome says
pub conflict_outcome : (sizes : List ℕ) (incompats : List (List Term)) (trail : List Assigned) (terms : List Term) (steps : List Step)
    → IsAsked sizes incompats trail terms → IsOutcome sizes incompats trail (conflict sizes incompats trail terms steps)
conflict_outcome sizes incompats [] terms steps asked = absurd asked.begins
conflict_outcome sizes incompats (entry ∷ []) terms steps asked =
    let root = root_alone sizes entry terms asked.begins.0 asked.formed asked.held in
    subst (IsOutcome sizes incompats (entry ∷ [])) (sym (cond-true (is_refutation terms) (Refutes terms steps) _ root)) (refuted sizes incompats (entry ∷ []) terms asked root)
conflict_outcome sizes incompats (entry ∷ next ∷ before) terms steps asked =
    let on = λ (others : List Term) (more : List Step). conflict_outcome sizes incompats (next ∷ before) others more in
    cond_both (is_refutation terms) (Refutes terms steps) _ (IsOutcome sizes incompats (entry ∷ next ∷ before))
    (λ root. refuted sizes incompats (entry ∷ next ∷ before) terms asked root)
    (λ _.
    cond_both (holds sizes (next ∷ before) terms) (conflict sizes incompats (next ∷ before) terms steps) _ (IsOutcome sizes incompats (entry ∷ next ∷ before))
    (λ earlier.
    outcome_behind sizes incompats entry (next ∷ before) (conflict sizes incompats (next ∷ before) terms steps)
    (level_step entry.reason sizes incompats (next ∷ before) entry asked.stands.0).0
    (on terms steps (record {
      some = asked.some;
      all_formed = asked.all_formed;
      stands = asked.stands.1;
      begins = asked.begins;
      formed = asked.formed;
      follows = asked.follows;
      held = earlier;
    })))
    (λ open_before. at_reason entry.reason sizes incompats (next ∷ before) entry terms steps refl asked open_before asked.begins on))

-- without a step the terms are those that were in conflict
abbrev pub IsUnchanged : List Term → Conflict → Type 0
IsUnchanged first (Refutes terms steps) = Unit {0}
IsUnchanged first (Learns terms steps level) = steps ≡ [] → first ≡ terms

-- a list with one more isn't empty
append_some : (steps : List Step) (step : Step) → steps ++ step ∷ [] ≡ [] → ⊥
append_some [] step none = cc
append_some (other ∷ steps) step none = cc

-- without a step the terms are those of the first
pub unchanged : (sizes : List ℕ) (incompats : List (List Term)) (trail : List Assigned) (first terms : List Term) (steps : List Step)
    → (steps ≡ [] → first ≡ terms) → IsUnchanged first (conflict sizes incompats trail terms steps)
unchanged sizes incompats [] first terms steps same = tt
unchanged sizes incompats (entry ∷ before) first terms steps same =
    let next = λ (others : List Term) (more : List Step) (e : more ≡ [] → first ≡ others). unchanged sizes incompats before first others more e in
    cond_both (is_refutation terms) (Refutes terms steps) _ (IsUnchanged first)
    (λ root. tt)
    (λ _.
    cond_both (holds sizes before terms) (conflict sizes incompats before terms steps) _ (IsUnchanged first)
    (λ earlier. next terms steps same)
    (λ open_before. by_cases entry.reason next))
  where
    by_cases : (reason : Reason)
        → ((others : List Term) (more : List Step) → (more ≡ [] → first ≡ others) → IsUnchanged first (conflict sizes incompats before others more))
        → IsUnchanged first
        (by_reason reason (Learns terms steps (previous_level sizes entry before terms))
        (λ number. cond (entry.level == previous_level sizes entry before terms)
        (conflict sizes incompats before (resolvent terms (slice_index_or incompats number []) entry.node)
        (steps ++ record { number = number; node = entry.node } ∷ []))
        (Learns terms steps (previous_level sizes entry before terms))))
    by_cases Decided next = same
    by_cases (Derived number) next =
        cond_both (entry.level == previous_level sizes entry before terms)
        (conflict sizes incompats before (resolvent terms (slice_index_or incompats number []) entry.node) (steps ++ record { number = number; node = entry.node } ∷ []))
        (Learns terms steps (previous_level sizes entry before terms)) (IsUnchanged first)
        (λ _. next (resolvent terms (slice_index_or incompats number []) entry.node) (steps ++ record { number = number; node = entry.node } ∷ [])
        (λ none. absurd (append_some steps (record { number = number; node = entry.node }) none)))
        (λ _. same)
