-- From a trail to its decisions by the names of their nodes.
use Rattle.std.proofs.Common.{◌≡◌, ℕ, ◌<◌, ◌==◌, Bool, true, false, cond, List, [], ◌∷◌, ◌++◌, length, All, refl, sym, ap, ap₂, ◌∙◌, subst, arith, eqb-true, eq-eqb}
use Rattle.std.proofs.lemmas.List.{get_or_append_left}
use Rattle.std.proofs.lemmas.List.Elements.{All-head, All-tail}
use Rattle.pub_facts.specs.Catalogue.{Catalogue, Job, Lookups}
use Rattle.pub_facts.specs.Numbered.{number_in}
use Rattle.pub_facts.proofs.FactLemmas.{node_same}
use Rattle.pub_term.specs.NodeLaws.{node_eq, node_equiv}
use Rattle.pub_term.specs.declared.node.NodeName.{NodeName}
use Rattle.pub_term.specs.declared.node.NodeName.TheVariants.{Root}
use Rattle.pub_trail.specs.First.{chosen, first_or}
use Rattle.pub_trail.specs.Invariant.{Begins}
use Rattle.pub_trail.specs.Trail.{by_reason, up_to}
use Rattle.pub_trail.specs.declared.trail.Assigned.{Assigned}
use Rattle.pub_trail.specs.declared.trail.Reason.{Reason}
use Rattle.pub_trail.specs.declared.trail.Reason.TheVariants.{Decided, Derived}
use Rattle.pub_trail.proofs.BackLemmas.{up_to_both}
use Rattle.pub_plain.specs.Invariant.{IsPlaced}
use Rattle.pub_plain.specs.Loading.{name_at}
use Rattle.pub_plain.proofs.ApartLemmas.{AreApart}
use Rattle.pub_plain.proofs.AsksLemmas.{at_of}
use Rattle.pub_plain.proofs.Decisions.{AreSteps, Decision, IsStep, chosen_at}
use Rattle.pub_plain.proofs.RulesLemmas.{name_of_number}

-- ---- what is so of each assignment and those before it

-- so it is of each of a trail
abbrev pub AreEach : (List Assigned → Assigned → Type 0) → List Assigned → Type 0
AreEach P [] = Unit {0}
AreEach P (entry ∷ before) = P before entry × AreEach P before

-- what is left of a trail has it
pub each_up_to : (P : List Assigned → Assigned → Type 0) (level : ℕ) (trail : List Assigned) → AreEach P trail → AreEach P (up_to level trail)
each_up_to P level [] are = tt
each_up_to P level (entry ∷ before) are = up_to_both (AreEach P) level entry before are (each_up_to P level before are.1)

-- each assignment is on one of so many nodes
abbrev pub AreWithin : ℕ → List Assigned → Type 0
AreWithin count trail = AreEach (λ before entry. entry.node < count) trail

-- where the assignments are placed, they are on nodes that are named
pub placed_within : (l : Lookups) (names : List NodeName) (sizes : List ℕ) (trail : List Assigned) → length sizes ≡ length names
    → All (IsPlaced l names sizes) trail → AreWithin (length names) trail
placed_within l names sizes [] long placed = tt
placed_within l names sizes (entry ∷ before) long placed =
    let here = (All-head (IsPlaced l names sizes) entry before placed).fits.0 in (
      omega (arith, here, long),
      placed_within l names sizes before long (All-tail (IsPlaced l names sizes) entry before placed),
    )

-- ---- decisions

-- an assignment as a decision
abbrev pub decision_of : List NodeName → Assigned → Decision
decision_of names entry = record { node = name_at names entry.node; choice = first_or entry.choices.members 0 }

-- the decisions of a trail
abbrev pub decisions_of : List NodeName → List Assigned → List Decision
decisions_of names [] = []
decisions_of names (entry ∷ before) =
    by_reason entry.reason (decision_of names entry ∷ decisions_of names before) (λ number. decisions_of names before)

-- tests that imply one another are equal
same_bools : (a b : Bool) → (a ≡ true → b ≡ true) → (b ≡ true → a ≡ true) → a ≡ b
same_bools true b first second = sym (first refl)
same_bools false true first second = second refl
same_bools false false first second = refl

-- a name is a node just where its place is the node's number
same_test : (names : List NodeName) → AreApart names → (k : ℕ) (node : NodeName) → k < length names
    → node_eq (name_at names k) node ≡ (k == number_in names node)
same_test names apart k node below =
    same_bools (node_eq (name_at names k) node) (k == number_in names node)
    (λ is. eq-eqb k (number_in names node) (sym (apart k below) ∙ ap (number_in names) (node_same (name_at names k) node is)))
    (λ is.
    let e : k ≡ number_in names node = eqb-true k (number_in names node) is in
    let name : name_at names k ≡ node = ap (name_at names) e ∙ name_of_number names node (subst (λ n. n < length names) e below) in
    subst (λ n. node_eq (name_at names k) n ≡ true) name (node_equiv.refl (name_at names k)))

-- the decided choices, by names and by numbers
chosen_is : (names : List NodeName) (trail : List Assigned) → AreApart names → AreWithin (length names) trail → (node : NodeName)
    → chosen_at (decisions_of names trail) node ≡ at_of names trail node
chosen_is names [] apart within node = refl
chosen_is names (entry ∷ before) apart within node = go entry.reason refl (chosen_is names before apart within.1 node)
  where
    go : (reason : Reason) → entry.reason ≡ reason → chosen_at (decisions_of names before) node ≡ at_of names before node
        → chosen_at (decisions_of names (entry ∷ before)) node ≡ at_of names (entry ∷ before) node
    go (Derived number) same next =
        ap (λ r. chosen_at (by_reason r (decision_of names entry ∷ decisions_of names before) (λ n. decisions_of names before)) node) same
        ∙ next
        ∙ sym (ap (λ r. by_reason r
        (cond (entry.node == number_in names node) (first_or entry.choices.members 0) (chosen before (number_in names node)))
        (λ n. chosen before (number_in names node))) same)
    go Decided same next =
        ap (λ r. chosen_at (by_reason r (decision_of names entry ∷ decisions_of names before) (λ n. decisions_of names before)) node) same
        ∙ ap₂ (λ b (k : ℕ). cond b (first_or entry.choices.members 0) k) (same_test names apart entry.node node within.0) next
        ∙ sym (ap (λ r. by_reason r
        (cond (entry.node == number_in names node) (first_or entry.choices.members 0) (chosen before (number_in names node)))
        (λ n. chosen before (number_in names node))) same)

-- of all nodes
pub chosen_all : (names : List NodeName) (trail : List Assigned) → AreApart names → AreWithin (length names) trail
    → chosen_at (decisions_of names trail) ≡ at_of names trail
chosen_all names trail apart within = λ i node. chosen_is names trail apart within node i

-- ---- over more names

-- an assignment on a named node is the same decision
decision_more : (names more : List NodeName) (entry : Assigned) → entry.node < length names
    → decision_of (names ++ more) entry ≡ decision_of names entry
decision_more names more entry below =
    ap (λ n. record { node = n; choice = first_or entry.choices.members 0 }) (get_or_append_left names more Root entry.node below)

-- and the decisions stay
pub decisions_more : (names more : List NodeName) (trail : List Assigned) → AreWithin (length names) trail
    → decisions_of (names ++ more) trail ≡ decisions_of names trail
decisions_more names more [] within = refl
decisions_more names more (entry ∷ before) within =
    ap₂ (λ first rest. by_reason entry.reason (first ∷ rest) (λ number. rest)) (decision_more names more entry within.0)
    (decisions_more names more before within.1)

-- ---- steps

-- a decision is a step; the first is the root's
abbrev pub IsStepOf : Job → Catalogue → List NodeName → List Assigned → Assigned → Type 0
IsStepOf job c names [] entry = (name_at names entry.node ≡ Root) × (first_or entry.choices.members 0 ≡ 1)
IsStepOf job c names (next ∷ before) entry = IsStep job c (chosen_at (decisions_of names (next ∷ before))) (decision_of names entry)

-- each decision is
abbrev pub AreStepsOf : Job → Catalogue → List NodeName → List Assigned → Type 0
AreStepsOf job c names trail = AreEach (λ before entry. entry.reason ≡ Decided → IsStepOf job c names before entry) trail

-- it is so over more names
step_more : (job : Job) (c : Catalogue) (names more : List NodeName) (before : List Assigned) (entry : Assigned) → entry.node < length names
    → AreWithin (length names) before → IsStepOf job c names before entry → IsStepOf job c (names ++ more) before entry
step_more job c names more [] entry below within is = (get_or_append_left names more Root entry.node below ∙ is.0, is.1)
step_more job c names more (next ∷ before) entry below within is =
    subst (λ steps. IsStep job c (chosen_at steps) (decision_of (names ++ more) entry)) (sym (decisions_more names more (next ∷ before) within))
    (subst (IsStep job c (chosen_at (decisions_of names (next ∷ before)))) (sym (decision_more names more entry below)) is)

-- of all decisions
pub steps_more : (job : Job) (c : Catalogue) (names more : List NodeName) (trail : List Assigned) → AreWithin (length names) trail
    → AreStepsOf job c names trail → AreStepsOf job c (names ++ more) trail
steps_more job c names more [] within are = tt
steps_more job c names more (entry ∷ before) within are = (
  λ reason. step_more job c names more before entry within.0 within.1 (are.0 reason),
  steps_more job c names more before within.1 are.1,
)

-- one step more
steps_cons : (job : Job) (c : Catalogue) (one : Decision) (steps : List Decision) → AreSteps job c steps → IsStep job c (chosen_at steps) one
    → AreSteps job c (one ∷ steps)
steps_cons job c one [] are step = absurd are
steps_cons job c one (next ∷ before) are step = (step, are)

-- the decisions of a trail that begins with the root's are made step by step
pub steps_of : (job : Job) (c : Catalogue) (names : List NodeName) (trail : List Assigned) → Begins trail → AreStepsOf job c names trail
    → AreSteps job c (decisions_of names trail)
steps_of job c names [] begins are = absurd begins
steps_of job c names (entry ∷ []) begins are =
    subst (λ r. AreSteps job c (by_reason r (decision_of names entry ∷ []) (λ n. []))) (sym begins.2) (are.0 begins.2)
steps_of job c names (entry ∷ next ∷ before) begins are =
    go entry.reason refl (steps_of job c names (next ∷ before) begins are.1)
  where
    go : (reason : Reason) → entry.reason ≡ reason → AreSteps job c (decisions_of names (next ∷ before))
        → AreSteps job c (decisions_of names (entry ∷ next ∷ before))
    go (Derived number) same earlier =
        subst (λ r. AreSteps job c
        (by_reason r (decision_of names entry ∷ decisions_of names (next ∷ before)) (λ n. decisions_of names (next ∷ before))))
        (sym same) earlier
    go Decided same earlier =
        subst (λ r. AreSteps job c
        (by_reason r (decision_of names entry ∷ decisions_of names (next ∷ before)) (λ n. decisions_of names (next ∷ before))))
        (sym same) (steps_cons job c (decision_of names entry) (decisions_of names (next ∷ before)) earlier (are.0 same))
