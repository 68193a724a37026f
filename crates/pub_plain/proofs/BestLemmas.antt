-- No assignment that violates no incompatibility and keeps the decisions before has a release that is preferred to the decided one.
use Rattle.std.proofs.Common.{◌≡◌, ◌≢◌, ℕ, ◌<◌, ◌==◌, ◌||◌, true, List, [], ◌∷◌, length, slice_index, Some, refl, sym, ap, ◌∙◌, subst, inl, inr, eqb-true, eq-eqb}
use Rattle.std.proofs.lemmas.Bool.{false≢true, or_left, true_from_ne_false}
use Rattle.pub_set.specs.Choices.{has}
use Rattle.pub_facts.specs.Catalogue.{Catalogue, Job, Lookups, release_at}
use Rattle.pub_facts.specs.Numbered.{number_in}
use Rattle.pub_term.specs.declared.node.NodeName.{NodeName}
use Rattle.pub_term.specs.declared.node.NodeName.TheVariants.{Package}
use Rattle.pub_term.specs.declared.term.Term.{Term}
use Rattle.pub_trail.specs.First.{chosen, first_or}
use Rattle.pub_trail.specs.Invariant.{Agrees, AgreesAt, AreFormed, IsAssignment, IsReason, IsTrail, ViolatesNone}
use Rattle.pub_trail.specs.Trail.{allows, by_reason, is_decided}
use Rattle.pub_trail.specs.declared.trail.Assigned.{Assigned}
use Rattle.pub_trail.specs.declared.trail.Reason.{Reason}
use Rattle.pub_trail.specs.declared.trail.Reason.TheVariants.{Decided, Derived}
use Rattle.pub_trail.proofs.LieLemmas.{allows-LiesIn, lies_in_trail}
use Rattle.spm_version.specs.Release.{Parts}
use Rattle.pub_trail.proofs.FirstLemmas.{first_among, open_chosen}
use Rattle.pub_plain.specs.Choosing.{Pins}
use Rattle.pub_plain.specs.Loading.{name_at}
use Rattle.pub_plain.specs.Preferred.{prefers_by}
use Rattle.pub_plain.proofs.ApartLemmas.{AreApart}
use Rattle.pub_plain.proofs.AsksLemmas.{at_of}
use Rattle.pub_plain.proofs.Decisions.{Decision, IsTail, chosen_at, package_decision}
use Rattle.pub_plain.proofs.NoneLemmas.{by_number}
use Rattle.pub_plain.proofs.SkipRuns.{AreSkips}
use Rattle.pub_plain.proofs.StateLemmas.{chosen_more, chosen_now, decided_some}
use Rattle.pub_plain.proofs.TrailLemmas.{AreStepsOf, AreWithin, chosen_all, decision_of, decisions_of}

-- equal decisions with those before them
head_same : (a b : Decision) (xs ys : List Decision) → (a ∷ xs) ≡ (b ∷ ys) → (a ≡ b) × (xs ≡ ys)
head_same a b xs ys e = (cc, cc)

module _ (job : Job) (c : Catalogue) (names : List NodeName) (apart : AreApart names) (sizes : List ℕ) (incompats : List (List Term)) where
  -- an assignment that keeps the decided choices agrees with the decisions
  agrees_kept : (at : NodeName → ℕ) (trail : List Assigned) → IsTrail sizes incompats trail → AreWithin (length names) trail
      → AreStepsOf job c names trail → ((node : NodeName) → at_of names trail node ≢ 0 → at node ≡ at_of names trail node)
      → Agrees (by_number names at) trail
  agrees_kept at [] is within steps keeps = tt
  agrees_kept at (entry ∷ before) is within steps keeps = (
    here entry.reason refl is.0,
    agrees_kept at before is.1 within.1 steps.1 (λ node some. keeps node (λ none. some (sym (earlier node some) ∙ none)) ∙ earlier node some),
  )
    where
      earlier : (node : NodeName) → at_of names before node ≢ 0 → at_of names (entry ∷ before) node ≡ at_of names before node
      earlier node some =
          chosen_more sizes incompats entry before (number_in names node) is.0
          (true_from_ne_false (is_decided before (number_in names node)) (λ undecided. some (open_chosen before (number_in names node) undecided)))

      here : (reason : Reason) → entry.reason ≡ reason → IsReason reason sizes incompats before entry → AgreesAt reason (by_number names at) entry
      here (Derived number) same by = tt
      here Decided same by =
          let value : at_of names (entry ∷ before) (name_at names entry.node) ≡ first_or entry.choices.members 0
          = ap (chosen (entry ∷ before)) (apart entry.node within.0) ∙ chosen_now entry before same in
          let decided : is_decided (entry ∷ before) entry.node ≡ true
          = ap (λ r. by_reason r (entry.node == entry.node || is_decided before entry.node) (λ n. is_decided before entry.node)) same
          ∙ or_left (entry.node == entry.node) (is_decided before entry.node) (eq-eqb entry.node entry.node refl) in
          let some : at_of names (entry ∷ before) (name_at names entry.node) ≢ 0
          = λ none. decided_some job c names (entry ∷ before) steps entry.node decided
          (ap (chosen (entry ∷ before)) (sym (apart entry.node within.0)) ∙ none) in
          let own : has entry.choices by.choice ≡ true
          = by.choices by.choice (subst (λ k. k < slice_index sizes entry.node) (eqb-true by.left.choice by.choice by.left.passes) by.left.below)
          ∙ eq-eqb by.choice by.choice refl in
          ap (has entry.choices) (keeps (name_at names entry.node) some ∙ value) ∙ first_among entry.choices.members by.choice own

  -- the law, for the decision of a package
  pub best_of : (pins : Pins) (l : Lookups) (formed : AreFormed sizes incompats) (trail : List Assigned) → IsTrail sizes incompats trail
      → AreWithin (length names) trail → AreStepsOf job c names trail → AreSkips pins l names trail
      → (identity : List ℕ) (choice : ℕ) (one : Decision) (rest : List Decision)
      → IsTail (decisions_of names trail) (package_decision identity choice ∷ one ∷ rest)
      → (at : NodeName → ℕ) → IsAssignment sizes (by_number names at) → ViolatesNone incompats (by_number names at)
      → ((node : NodeName) → chosen_at (one ∷ rest) node ≢ 0 → at node ≡ chosen_at (one ∷ rest) node)
      → (release other : Parts) → release_at (l.list identity) choice ≡ Some release
      → release_at (l.list identity) (at (Package identity)) ≡ Some other
      → prefers_by pins identity other release ≡ true → ⊥
  best_of pins l formed [] is within steps skips identity choice one rest tail at assigns none keeps release other at_choice at_its preferred =
      (let e : [] ≡ package_decision identity choice ∷ one ∷ rest = tail in cc)
  best_of pins l formed (entry ∷ before) is within steps skips identity choice one rest tail at assigns none keeps release other at_choice at_its
      preferred =
      go entry.reason refl
      (λ deep.
      best_of pins l formed before is.1 within.1 steps.1 skips.1 identity choice one rest deep at assigns none keeps release other at_choice at_its
      preferred)
    where
      now : entry.reason ≡ Decided → decision_of names entry ≡ package_decision identity choice → decisions_of names before ≡ (one ∷ rest) → ⊥
      now reason same_decision same_rest =
          let node_is : name_at names entry.node ≡ Package identity = ap (λ (d : Decision). d.node) same_decision in
          let choice_is : first_or entry.choices.members 0 ≡ choice = ap (λ (d : Decision). d.choice) same_decision in
          let all : chosen_at (one ∷ rest) ≡ at_of names before = ap chosen_at (sym same_rest) ∙ chosen_all names before apart within.1 in
          let keeps_numbers : (node : NodeName) → at_of names before node ≢ 0 → at node ≡ at_of names before node
          = subst (λ (then : NodeName → ℕ). (node : NodeName) → then node ≢ 0 → at node ≡ then node) all keeps in
          let lies = lies_in_trail sizes incompats before (by_number names at) formed is.1 assigns none
          (agrees_kept at before is.1 within.1 steps.1 keeps_numbers) in
          let allowed : allows before entry.node (at (Package identity)) ≡ true
          = ap (λ n. allows before entry.node (at n)) (sym node_is) ∙ allows-LiesIn (by_number names at) before entry.node lies in
          false≢true (sym (skips.0 reason identity node_is release other (at (Package identity))
          (ap (release_at (l.list identity)) choice_is ∙ at_choice) at_its preferred) ∙ allowed)

      go : (reason : Reason) → entry.reason ≡ reason → (IsTail (decisions_of names before) (package_decision identity choice ∷ one ∷ rest) → ⊥) → ⊥
      go (Derived number) same later =
          later (subst (λ r. IsTail (by_reason r (decision_of names entry ∷ decisions_of names before) (λ n. decisions_of names before))
          (package_decision identity choice ∷ one ∷ rest)) same tail)
      go Decided same later =
          let now_tail : IsTail (decision_of names entry ∷ decisions_of names before) (package_decision identity choice ∷ one ∷ rest)
          = subst (λ r. IsTail (by_reason r (decision_of names entry ∷ decisions_of names before) (λ n. decisions_of names before))
          (package_decision identity choice ∷ one ∷ rest)) same tail in
          elim now_tail [
            | inl e ↦
                (let parts = head_same (decision_of names entry) (package_decision identity choice) (decisions_of names before) (one ∷ rest) e in
                now same parts.0 parts.1)
            | inr deep ↦ later deep
          ]
