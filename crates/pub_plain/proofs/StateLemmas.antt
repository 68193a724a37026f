-- What a state's decisions and loads are besides: each decision is a step by what was decided before it, its load is done, and what a load that
-- was done brings is among the facts.
use Rattle.std.proofs.Common.{◌≡◌, ◌≢◌, ◌⊎◌, ℕ, ◌<◌, ◌==◌, true, false, ◌&&◌, ◌||◌, cond, List, [], ◌∷◌, length, slice_index, Contains, refl, sym, ap, ap₂, ◌∙◌, subst, inl, inr, arith, eqb-true, eq-eqb}
use Rattle.std.specs.List.{list_any}
use Rattle.std.proofs.lemmas.Bool.{and_parts, cases_eq, cond-false, cond-true, false≢true, ne_eqb, or_cases, or_left, or_right}
use Rattle.pub_set.specs.Choices.{has}
use Rattle.pub_set.proofs.SetLemmas.{has_below}
use Rattle.pub_facts.specs.Catalogue.{Catalogue, Job}
use Rattle.pub_facts.specs.declared.fact.Fact.{Fact}
use Rattle.pub_facts.proofs.Members.{contains_cases, contains_head, contains_nothing, contains_tail}
use Rattle.pub_term.specs.declared.node.NodeName.{NodeName}
use Rattle.pub_term.specs.declared.node.NodeName.TheVariants.{Root}
use Rattle.pub_term.specs.declared.term.Term.{Term}
use Rattle.pub_trail.specs.First.{chosen, first_or}
use Rattle.pub_trail.specs.Invariant.{Begins, IsFormed, IsReason, IsTrail}
use Rattle.pub_trail.specs.Required.{loaded_facts}
use Rattle.pub_trail.specs.Trail.{by_reason, holds, is_decided}
use Rattle.pub_trail.specs.Turn.{State, root_place, same_place}
use Rattle.pub_trail.specs.declared.origin.Origin.{Origin}
use Rattle.pub_trail.specs.declared.origin.Origin.TheVariants.{OfConflict, OfLoad}
use Rattle.pub_trail.specs.declared.trail.Assigned.{Assigned}
use Rattle.pub_trail.specs.declared.trail.Place.{Place}
use Rattle.pub_trail.specs.declared.trail.Reason.{Reason}
use Rattle.pub_trail.specs.declared.trail.Reason.TheVariants.{Decided, Derived}
use Rattle.pub_trail.proofs.HeldLemmas.{at_node, holds-Within}
use Rattle.pub_trail.proofs.LieLemmas.{sized_at}
use Rattle.pub_trail.proofs.FirstLemmas.{fixes}
use Rattle.pub_plain.specs.Answers.{Answers, catalogue_by}
use Rattle.pub_plain.specs.Choosing.{owner_number}
use Rattle.pub_plain.specs.Loading.{facts_at, load_at, name_at}
use Rattle.pub_plain.proofs.DoneLemmas.{IsAmong}
use Rattle.pub_plain.proofs.TrailLemmas.{AreEach, AreStepsOf, IsStepOf}
use Rattle.pub_plain.proofs.WholeLemmas.{is_decided_whole}

-- ---- what is decided

-- what was decided stays so
pub decided_more : (entry : Assigned) (before : List Assigned) (node : ℕ) → is_decided before node ≡ true → is_decided (entry ∷ before) node ≡ true
decided_more entry before node decided = go entry.reason refl
  where
    go : (reason : Reason) → entry.reason ≡ reason → is_decided (entry ∷ before) node ≡ true
    go Decided same =
        ap (λ r. by_reason r (entry.node == node || is_decided before node) (λ n. is_decided before node)) same
        ∙ or_right (entry.node == node) (is_decided before node) decided
    go (Derived number) same = ap (λ r. by_reason r (entry.node == node || is_decided before node) (λ n. is_decided before node)) same ∙ decided

-- at the same choice, where no decision is on a node that is decided
pub chosen_more : (sizes : List ℕ) (incompats : List (List Term)) (entry : Assigned) (before : List Assigned) (node : ℕ)
    → IsReason entry.reason sizes incompats before entry → is_decided before node ≡ true → chosen (entry ∷ before) node ≡ chosen before node
chosen_more sizes incompats entry before node is decided = go entry.reason refl is
  where
    go : (reason : Reason) → entry.reason ≡ reason → IsReason reason sizes incompats before entry → chosen (entry ∷ before) node ≡ chosen before node
    go (Derived number) same by =
        ap (λ r. by_reason r (cond (entry.node == node) (first_or entry.choices.members 0) (chosen before node)) (λ n. chosen before node)) same
    go Decided same by =
        ap (λ r. by_reason r (cond (entry.node == node) (first_or entry.choices.members 0) (chosen before node)) (λ n. chosen before node)) same
        ∙ cond-false (entry.node == node) (first_or entry.choices.members 0) (chosen before node)
        (ne_eqb entry.node node (λ e. false≢true (sym by.fresh ∙ ap (is_decided before) e ∙ decided)))

-- a decision is on its node, or was there before
pub decided_cases : (entry : Assigned) (before : List Assigned) (node : ℕ) → is_decided (entry ∷ before) node ≡ true
    → ((entry.reason ≡ Decided) × (entry.node ≡ node)) ⊎ (is_decided before node ≡ true)
decided_cases entry before node decided = go entry.reason refl
  where
    go : (reason : Reason) → entry.reason ≡ reason → ((entry.reason ≡ Decided) × (entry.node ≡ node)) ⊎ (is_decided before node ≡ true)
    go (Derived number) same =
        inr (sym (ap (λ r. by_reason r (entry.node == node || is_decided before node) (λ n. is_decided before node)) same) ∙ decided)
    go Decided same =
        elim (or_cases (entry.node == node) (is_decided before node)
        (sym (ap (λ r. by_reason r (entry.node == node || is_decided before node) (λ n. is_decided before node)) same) ∙ decided)) [
          | inl here ↦ inl (same, eqb-true entry.node node here)
          | inr there ↦ inr there
        ]

-- the choice of a decision is its first
pub chosen_now : (entry : Assigned) (before : List Assigned) → entry.reason ≡ Decided
    → chosen (entry ∷ before) entry.node ≡ first_or entry.choices.members 0
chosen_now entry before same =
    ap (λ r. by_reason r (cond (entry.node == entry.node) (first_or entry.choices.members 0) (chosen before entry.node))
    (λ k. chosen before entry.node)) same
    ∙ cond-true (entry.node == entry.node) (first_or entry.choices.members 0) (chosen before entry.node) (eq-eqb entry.node entry.node refl)

-- ---- the invariant

-- the load that a decision asks: of a package or the root at its choice, of a trait at its owner's
abbrev pub place_of : List NodeName → List Assigned → ℕ → Place
place_of names trail node = record { node = node; choice = chosen trail (owner_number names (name_at names node)) }

-- its owner is decided, and it is done
pub record IsDoneAt (names : List NodeName) (loads : List Place) (trail : List Assigned) (node : ℕ) : Type 0 where
  pub owned : is_decided trail (owner_number names (name_at names node)) ≡ true
  pub there : Contains loads (place_of names trail node)

-- so it is of each decision but the root's
abbrev pub IsDoneOf : List NodeName → List Place → List Assigned → Assigned → Type 0
IsDoneOf names loads [] entry = Unit {0}
IsDoneOf names loads (next ∷ before) entry = IsDoneAt names loads (entry ∷ next ∷ before) entry.node

-- and of each of a trail
abbrev pub AreDoneOf : List NodeName → List Place → List Assigned → Type 0
AreDoneOf names loads trail = AreEach (λ before entry. entry.reason ≡ Decided → IsDoneOf names loads before entry) trail

-- what the load of a place brings is among the facts
pub record IsPlaceBrought (job : Job) (c : Catalogue) (names : List NodeName) (facts : List (List Term)) (place : Place) : Type 0 where
  pub known : place.node < length names
  pub each : (one : Fact) → Contains (facts_at job c (load_at names place)) one → IsAmong names facts one

-- so it is of a state
pub record AreMore (job : Job) (answers : Answers) (state : State) : Type 0 where
  pub steps : AreStepsOf job (catalogue_by answers) state.names state.trail
  pub done : AreDoneOf state.names state.loads state.trail
  pub brought : (place : Place) → Contains state.loads place
      → IsPlaceBrought job (catalogue_by answers) state.names (loaded_facts state.incompats state.origins) place

-- ---- what follows

-- no decided choice is 0 where one more decision isn't
some_more : (job : Job) (c : Catalogue) (names : List NodeName) (entry : Assigned) (before : List Assigned)
    → (entry.reason ≡ Decided → IsStepOf job c names before entry) → (node : ℕ) → is_decided (entry ∷ before) node ≡ true
    → (is_decided before node ≡ true → chosen before node ≢ 0) → chosen (entry ∷ before) node ≢ 0
some_more job c names entry before step node decided later = go entry.reason refl
  where
    choice_of : (before : List Assigned) → IsStepOf job c names before entry → first_or entry.choices.members 0 ≢ 0
    choice_of [] is = λ none. (let one = is.1 in absurd (omega (arith, one, none)))
    choice_of (next ∷ before) is = is.some

    go : (reason : Reason) → entry.reason ≡ reason → chosen (entry ∷ before) node ≢ 0
    go (Derived number) same none =
        later (sym (ap (λ r. by_reason r (entry.node == node || is_decided before node) (λ n. is_decided before node)) same) ∙ decided)
        (sym (ap (λ r. by_reason r (cond (entry.node == node) (first_or entry.choices.members 0) (chosen before node))
        (λ n. chosen before node)) same)
        ∙ none)
    go Decided same none = elim (cases_eq entry.node node) [
      | inl here ↦ choice_of before (step same) (sym (chosen_now entry before same) ∙ ap (chosen (entry ∷ before)) here ∙ none)
      | inr differs ↦ elim (decided_cases entry before node decided) [
        | inl its ↦ differs its.1
        | inr earlier ↦
            later earlier
            (sym (ap (λ r. by_reason r (cond (entry.node == node) (first_or entry.choices.members 0) (chosen before node))
            (λ n. chosen before node)) same
            ∙ cond-false (entry.node == node) (first_or entry.choices.members 0) (chosen before node) (ne_eqb entry.node node differs)) ∙ none)
      ]
    ]

-- no decided choice is 0
pub decided_some : (job : Job) (c : Catalogue) (names : List NodeName) (trail : List Assigned) → AreStepsOf job c names trail → (node : ℕ)
    → is_decided trail node ≡ true → chosen trail node ≢ 0
decided_some job c names [] are node decided = absurd (false≢true decided)
decided_some job c names (entry ∷ before) are node decided =
    some_more job c names entry before (are.0) node decided (λ earlier. decided_some job c names before are.1 node earlier)

-- the root's decision alone, where its load is done
root_done : (rest : List NodeName) (loads : List Place) (entry : Assigned) → entry.node ≡ 0 → entry.reason ≡ Decided
    → first_or entry.choices.members 0 ≡ 1 → Contains loads root_place → IsDoneAt (Root ∷ rest) loads (entry ∷ []) 0
root_done rest loads entry node reason choice there =
    let is : chosen (entry ∷ []) 0 ≡ 1 = ap (chosen (entry ∷ [])) (sym node) ∙ chosen_now entry [] reason ∙ choice in
    record {
      owned = ap (λ r. by_reason r (entry.node == 0 || false) (λ n. false)) reason ∙ or_left (entry.node == 0) false (eq-eqb entry.node 0 node);
      there = subst (λ choice. Contains loads (record { node = 0; choice = choice })) (sym is) there;
    }

-- the load of each decided node is done, where the root's is
pub done_all : (job : Job) (c : Catalogue) (names rest : List NodeName) (loads : List Place) (sizes : List ℕ) (incompats : List (List Term))
    (trail : List Assigned) → names ≡ Root ∷ rest → IsTrail sizes incompats trail → Begins trail → AreStepsOf job c names trail
    → Contains loads root_place → AreDoneOf names loads trail → (node : ℕ) → is_decided trail node ≡ true → IsDoneAt names loads trail node
done_all job c names rest loads sizes incompats [] rooted is begins steps root are node decided = absurd begins
done_all job c names rest loads sizes incompats (entry ∷ []) rooted is begins steps root are node decided =
    elim (decided_cases entry [] node decided) [
      | inl its ↦
          subst (IsDoneAt names loads (entry ∷ [])) (sym begins.0 ∙ its.1)
          (subst (λ all. IsDoneAt all loads (entry ∷ []) 0) (sym rooted)
          (root_done rest loads entry begins.0 begins.2 (steps.0 begins.2).1 root))
      | inr none ↦ absurd (false≢true none)
    ]
done_all job c names rest loads sizes incompats (entry ∷ next ∷ before) rooted is begins steps root are node decided =
    elim (decided_cases entry (next ∷ before) node decided) [
      | inl its ↦ subst (IsDoneAt names loads (entry ∷ next ∷ before)) its.1 (are.0 its.0)
      | inr earlier ↦
          (let it = done_all job c names rest loads sizes incompats (next ∷ before) rooted is.1 begins steps.1 root are.1 node earlier in
          let same = chosen_more sizes incompats entry (next ∷ before) (owner_number names (name_at names node)) is.0 it.owned in
          record {
            owned = decided_more entry (next ∷ before) (owner_number names (name_at names node)) it.owned;
            there = subst (λ choice. Contains loads (record { node = node; choice = choice })) (sym same) it.there;
          })
    ]

-- a place that is among the loads
pub loaded_there : (loads : List Place) (place : Place) → list_any (same_place place) loads ≡ true → Contains loads place
loaded_there [] place is = absurd (false≢true is)
loaded_there (first ∷ loads) place is = elim (or_cases (same_place place first) (list_any (same_place place) loads) is) [
  | inl here ↦
      (let parts = and_parts (place.node == first.node) (place.choice == first.choice) here in
      let same : first ≡ place
      = ap₂ (λ (node choice : ℕ). record { node = node; choice = choice }) (sym (eqb-true place.node first.node parts.0))
      (sym (eqb-true place.choice first.choice parts.1)) in
      subst (λ one. Contains (one ∷ loads) place) (sym same) (contains_head place loads))
  | inr later ↦ contains_tail first place loads (loaded_there loads place later)
]

-- what loads brought is among the incompatibilities
pub brought_there : (incompats : List (List Term)) (origins : List Origin) (terms : List Term) → Contains (loaded_facts incompats origins) terms
    → Contains incompats terms
brought_there [] origins terms here = absurd (contains_nothing terms here)
brought_there (first ∷ incompats) [] terms here = absurd (contains_nothing terms here)
brought_there (first ∷ incompats) (OfLoad cause ∷ origins) terms here = elim (contains_cases first terms (loaded_facts incompats origins) here) [
  | inl same ↦ subst (λ one. Contains (one ∷ incompats) terms) (sym same) (contains_head terms incompats)
  | inr there ↦ contains_tail first terms incompats (brought_there incompats origins terms there)
]
brought_there (first ∷ incompats) (OfConflict number steps ∷ origins) terms here =
    contains_tail first terms incompats (brought_there incompats origins terms here)

-- what is decided whole holds
pub whole_holds : (sizes : List ℕ) (incompats : List (List Term)) (trail : List Assigned) (fact : List Term) → IsTrail sizes incompats trail
    → IsFormed sizes fact → is_decided_whole trail fact ≡ true → holds sizes trail fact ≡ true
whole_holds sizes incompats trail fact is formed whole =
    holds-Within sizes trail fact formed.incompat.ascending
    (λ node set at choice below allowed.
    let both = at_node (λ t. is_decided trail t.node && has t.choices (chosen trail t.node)) fact node set whole at in
    let parts = and_parts (is_decided trail node) (has set (chosen trail node)) both in
    let sized = sized_at sizes fact node set formed.sized at in
    let known : chosen trail node < slice_index sizes node
    = subst (λ size. chosen trail node < size) sized.1 (has_below set (chosen trail node) sized.2 parts.1) in
    ap (has set) (fixes sizes incompats trail node is parts.0 known choice below allowed) ∙ parts.1)
