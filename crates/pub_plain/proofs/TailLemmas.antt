-- Tails of decisions: what was decided stays so, and past the traits comes a package's decision.
use Rattle.std.proofs.Common.{◌≡◌, ◌≢◌, ◌⊎◌, ℕ, zero, suc, ◌<◌, true, List, [], ◌∷◌, length, Some, None, refl, sym, ap, ◌∙◌, subst, inl, inr, arith}
use Rattle.std.specs.Cmp.Lexicographic.{slice_cmp, nat_list_cmp_total}
use Rattle.std.specs.FinMap.{nat_cmp-IsAntisymmetric, slice_cmp-IsAntisymmetric}
use Rattle.std.specs.List.{slice_get}
use Rattle.std.specs.Ordering.{is_le, nat_cmp, ordering_reverse}
use Rattle.std.specs.declared.cmp.Ordering.{Ordering}
use Rattle.std.specs.declared.cmp.Ordering.TheVariants.{Less, Equal, Greater}
use Rattle.std.proofs.lemmas.Bool.{cases_Bool, cond-false, false≢true}
use Rattle.pub_facts.specs.Assigns.{selection_of}
use Rattle.pub_facts.specs.Catalogue.{Catalogue, Job, release_at}
use Rattle.pub_facts.proofs.FactLemmas.{node_same}
use Rattle.pub_term.specs.NodeLaws.{node_eq}
use Rattle.pub_term.specs.declared.node.NodeName.{NodeName}
use Rattle.pub_term.specs.declared.node.NodeName.TheVariants.{Root, RootTrait, Package, PackageTrait}
use Rattle.spm_version.specs.Release.{Parts}
use Rattle.pub_plain.proofs.Decisions.{AreSteps, Decision, IsTail, Keeps, chosen_at, package_decision, step_keeps}

-- ---- orders and releases

-- identities that are below one another are one
pub ties : (x y : List ℕ) → is_le (slice_cmp nat_cmp x y) ≡ true → is_le (slice_cmp nat_cmp y x) ≡ true → x ≡ y
ties x y first second = go (slice_cmp nat_cmp x y) refl first
  where
    go : (order : Ordering) → slice_cmp nat_cmp x y ≡ order → is_le order ≡ true → x ≡ y
    go Equal is le = slice_cmp-IsAntisymmetric nat_cmp-IsAntisymmetric x y is
    go Less is le =
        let e : slice_cmp nat_cmp y x ≡ Greater = nat_list_cmp_total.antisymm y x ∙ ap ordering_reverse is in
        absurd (false≢true (sym (ap is_le e) ∙ second))
    go Greater is le = absurd (false≢true le)

-- a choice that isn't none, in range, has a release
pub release_some : (list : List Parts) (choice : ℕ) → choice ≢ 0 → choice < suc (length list)
    → (release : Parts) × (release_at list choice ≡ Some release)
release_some list zero some below = absurd (some refl)
release_some list (suc k) some below = go list k (omega (arith, below))
  where
    go : (list : List Parts) (k : ℕ) → k < length list → (release : Parts) × (slice_get list k ≡ Some release)
    go [] k below = absurd (omega (arith, below))
    go (first ∷ list) zero below = (first, refl)
    go (first ∷ list) (suc k) below = go list k (omega (arith, below))

-- and one without a release is none
pub none_zero : (list : List Parts) (choice : ℕ) → choice < suc (length list) → release_at list choice ≡ None → choice ≡ 0
none_zero list zero below none = refl
none_zero list (suc k) below none =
    let found = release_some list (suc k) (λ e. absurd (omega (arith, e))) below in
    let e : None ≡ Some found.0 = sym none ∙ found.1 in
    cc

-- ---- tails

module _ (job : Job) (c : Catalogue) where
  -- what was decided earlier was decided step by step
  pub tail_steps : (steps : List Decision) → AreSteps job c steps → (one : Decision) (before : List Decision) → IsTail steps (one ∷ before)
      → AreSteps job c (one ∷ before)
  tail_steps [] are one before tail = absurd are
  tail_steps (d ∷ []) are one before tail = elim tail [
    | inl is ↦ subst (AreSteps job c) is are
    | inr none ↦ (let e : [] ≡ one ∷ before = none in cc)
  ]
  tail_steps (d ∷ next ∷ rest) are one before tail = elim tail [
    | inl is ↦ subst (AreSteps job c) is are
    | inr behind ↦ tail_steps (next ∷ rest) are.1 one before behind
  ]

  -- and stays so
  pub keeps_tail : (steps : List Decision) → AreSteps job c steps → (one : Decision) (before : List Decision) → IsTail steps (one ∷ before)
      → Keeps (chosen_at (one ∷ before)) (chosen_at steps)
  keeps_tail [] are one before tail node some = absurd are
  keeps_tail (d ∷ []) are one before tail node some = elim tail [
    | inl is ↦ ap (λ steps. chosen_at steps node) is
    | inr none ↦ (let e : [] ≡ one ∷ before = none in cc)
  ]
  keeps_tail (d ∷ next ∷ rest) are one before tail node some = elim tail [
    | inl is ↦ ap (λ steps. chosen_at steps node) is
    | inr behind ↦
        (let earlier = keeps_tail (next ∷ rest) are.1 one before behind node some in
        step_keeps d (next ∷ rest) are.0.fresh node (λ none. some (sym earlier ∙ none)) ∙ earlier)
  ]

  -- the next decision is a package's, or all is decided
  abbrev pub IsAhead : List Decision → List Decision → Type 0
  IsAhead steps before = (steps ≡ before) ⊎ ((identity : List ℕ) × (choice : ℕ) × IsTail steps (package_decision identity choice ∷ before))

  -- past the traits the same is selected, and a package's decision comes, or none
  pub record Ahead (steps first_part : List Decision) : Type 0 where
    pub one : Decision
    pub before : List Decision
    pub tail : IsTail steps (one ∷ before)
    pub ahead : IsAhead steps (one ∷ before)
    pub selects : (identity : List ℕ) → selection_of c (chosen_at first_part) identity ≡ selection_of c (chosen_at (one ∷ before)) identity

  -- a decision on another node doesn't change what is selected of a package
  apart : (d : Decision) (rest : List Decision) (identity : List ℕ) → (d.node ≡ Package identity → ⊥)
      → selection_of c (chosen_at rest) identity ≡ selection_of c (chosen_at (d ∷ rest)) identity
  apart d rest identity differs = elim (cases_Bool (node_eq d.node (Package identity))) [
    | inl is ↦ absurd (differs (node_same d.node (Package identity) is))
    | inr isnt ↦
        ap (release_at (c.lookups.list identity))
        (sym (cond-false (node_eq d.node (Package identity)) d.choice (chosen_at rest (Package identity)) isnt))
  ]

  -- past the traits
  pub advance : (steps : List Decision) → AreSteps job c steps → (one : Decision) (before : List Decision) → IsTail steps (one ∷ before)
      → Ahead steps (one ∷ before)
  advance [] are one before tail = absurd are
  advance (d ∷ []) are one before tail = elim tail [
    | inl is ↦ record { one = one; before = before; tail = inl is; ahead = inl is; selects = λ identity. refl }
    | inr none ↦ (let e : [] ≡ one ∷ before = none in cc)
  ]
  advance (d ∷ next ∷ rest) are one before tail = elim tail [
    | inl is ↦ record { one = one; before = before; tail = inl is; ahead = inl is; selects = λ identity. refl }
    | inr behind ↦
        (let found = advance (next ∷ rest) are.1 one before behind in
        elim found.ahead [
          | inr next_one ↦ record {
            one = found.one;
            before = found.before;
            tail = inr found.tail;
            ahead = inr (next_one.0, next_one.1, inr next_one.2);
            selects = found.selects;
          }
          | inl end ↦ go found end d.node refl
        ])
  ]
    where
      over : (found : Ahead (next ∷ rest) (one ∷ before)) → (next ∷ rest) ≡ (found.one ∷ found.before)
          → ((identity : List ℕ) → d.node ≡ Package identity → ⊥) → Ahead (d ∷ next ∷ rest) (one ∷ before)
      over found end other = record {
        one = d;
        before = next ∷ rest;
        tail = inl refl;
        ahead = inl refl;
        selects = λ identity.
            found.selects identity ∙ ap (λ steps. selection_of c (chosen_at steps) identity) (sym end)
            ∙ apart d (next ∷ rest) identity (other identity);
      }

      go : (found : Ahead (next ∷ rest) (one ∷ before)) → (next ∷ rest) ≡ (found.one ∷ found.before) → (node : NodeName) → d.node ≡ node
          → Ahead (d ∷ next ∷ rest) (one ∷ before)
      go found end (Package identity) is = record {
        one = found.one;
        before = found.before;
        tail = inr found.tail;
        ahead = inr (
          identity,
          d.choice,
          inl (ap (λ n. record { node = n; choice = d.choice } ∷ next ∷ rest) is ∙ ap (λ steps. package_decision identity d.choice ∷ steps) end),
        );
        selects = found.selects;
      }
      go found end Root is = over found end (λ identity e. let f : Root ≡ Package identity = sym is ∙ e in cc)
      go found end (RootTrait name) is = over found end (λ identity e. let f : RootTrait name ≡ Package identity = sym is ∙ e in cc)
      go found end (PackageTrait other name) is = over found end (λ identity e. let f : PackageTrait other name ≡ Package identity = sym is ∙ e in cc)

  -- the first decision is the root's
  pub record Begins (steps : List Decision) : Type 0 where
    pub one : Decision
    pub tail : IsTail steps (one ∷ [])
    pub root : one.node ≡ Root

  -- each run of steps has it
  pub begins : (steps : List Decision) → AreSteps job c steps → Begins steps
  begins [] are = absurd are
  begins (d ∷ []) are = record { one = d; tail = inl refl; root = are.0 }
  begins (d ∷ next ∷ rest) are = (let found = begins (next ∷ rest) are.1 in record { one = found.one; tail = inr found.tail; root = found.root })
