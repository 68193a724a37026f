-- Of some things the first that breaks a rule; pins by their identities; and nodes that are on as one list.
use Rattle.std.specs.Str.{bytes_eq}
use Rattle.std.proofs.Common.{◌≡◌, ℕ, Bool, true, false, cond, List, [], ◌∷◌, map, Contains, Option, Some, None, refl, sym, ap, ◌∙◌, subst, inl, inr}
use Rattle.std.specs.BTreeSet.{BTreeSet}
use Rattle.std.specs.Cmp.Lexicographic.{bytes_decides, nat_list_eq_equiv, slice_cmp, texts_ties}
use Rattle.std.specs.List.{AllByRecursion}
use Rattle.std.specs.List.Sorted.{IsStrictlySortedBy}
use Rattle.std.specs.Ordering.{is_eq, nat_cmp}
use Rattle.std.specs.declared.cmp.Ordering.TheVariants.{Less, Equal}
use Rattle.std.proofs.lemmas.Bool.{cases_Bool, cond-false, cond-true, false≢true}
use Rattle.std.proofs.lemmas.Map.Keys.{sorted_head, sorted_tail}
use Rattle.std.proofs.lemmas.Map.Lookups.{btree_set_from_contains}
use Rattle.spm_version.specs.Release.{Parts}
use Rattle.pub_term.specs.Node.{node_cmp}
use Rattle.pub_term.specs.NodeLaws.{node_total}
use Rattle.pub_term.specs.declared.node.NodeName.{NodeName}
use Rattle.pub_facts.specs.Enabled.{World}
use Rattle.pub_facts.proofs.Members.{contains_cases, contains_head, contains_nothing, contains_tail}
use Rattle.pub_trail.specs.Turn.{or_some}
use Rattle.pub_plain.specs.Choosing.{Pins, pin_of}
use Rattle.spm_judge.specs.Judged.{Broken, first_of}
use Rattle.spm_judge.specs.On.{AreOn}
use Rattle.spm_judge.specs.Spread.{is_on}
use Rattle.spm_judge.proofs.OnLemmas.{contains_on, node_one, on_contains}

-- ---- the first that breaks

-- where neither is there
pub or_none : {A : Type 0} (first second : Option A) → or_some first second ≡ None → (first ≡ None) × (second ≡ None)
or_none None second is = (refl, is)
or_none (Some here) second is = absurd (cc)

-- and the other way
pub none_both : {A : Type 0} (first second : Option A) → first ≡ None → second ≡ None → or_some first second ≡ None
none_both first second a b = ap (λ f. or_some f second) a ∙ b

-- where nothing breaks, no thing does
pub none_breaks : {X : Type 0} (breaks : X → Option Broken) (xs : List X) → first_of breaks xs ≡ None → (x : X) → Contains xs x → breaks x ≡ None
none_breaks breaks [] is x here = absurd (contains_nothing x here)
none_breaks breaks (y ∷ xs) is x here =
    let parts = or_none (breaks y) (first_of breaks xs) is in
    elim (contains_cases y x xs here) [
      | inl same ↦ subst (λ z. breaks z ≡ None) same parts.0
      | inr later ↦ none_breaks breaks xs parts.1 x later
    ]

-- and the other way
pub breaks_none : {X : Type 0} (breaks : X → Option Broken) (xs : List X) → ((x : X) → Contains xs x → breaks x ≡ None) → first_of breaks xs ≡ None
breaks_none breaks [] all = refl
breaks_none breaks (x ∷ xs) all =
    none_both (breaks x) (first_of breaks xs) (all x (contains_head x xs)) (breaks_none breaks xs (λ y here. all y (contains_tail x y xs here)))

-- what is let through breaks nothing
pub unless : (test : Bool) (broken : Broken) → test ≡ true → cond test None (Some broken) ≡ None
unless true broken is = refl
unless false broken is = absurd (false≢true is)

-- what breaks nothing was let through
pub holds_since : (test : Bool) (broken : Broken) → cond test None (Some broken) ≡ None → test ≡ true
holds_since true broken is = refl
holds_since false broken is = absurd (cc)

-- ---- pins

-- the pins ascend by their identities
abbrev pub Ascend : Pins → Type 0
Ascend pins = IsStrictlySortedBy (slice_cmp nat_cmp) (map (λ (pin : List ℕ × Parts). pin.0) pins)

-- a release that is pinned is in the list
pub pin_found : (pins : Pins) (identity : List ℕ) (release : Parts) → pin_of pins identity ≡ Some release
    → Contains pins (identity, release)
pin_found [] identity release is = absurd (cc)
pin_found (pin ∷ pins) identity release is = elim (cases_Bool (bytes_eq pin.0 identity)) [
  | inl same ↦
      (let here : Some pin.1 ≡ Some release = sym (cond-true (bytes_eq pin.0 identity) (Some pin.1) (pin_of pins identity) same) ∙ is in
      let one : pin.1 ≡ release = cc in
      subst (λ (p : List ℕ × Parts). Contains (pin ∷ pins) p) (λ i. ((bytes_decides pin.0 identity).0 same i, one i)) (contains_head pin pins))
  | inr differs ↦
      contains_tail pin (identity, release) pins
      (pin_found pins identity release (sym (cond-false (bytes_eq pin.0 identity) (Some pin.1) (pin_of pins identity) differs) ∙ is))
]

-- what is below all pins is below one of them
less_of_all : (first : List ℕ) (pins : Pins) → AllByRecursion (λ other. slice_cmp nat_cmp first other ≡ Less) (map (λ (pin : List ℕ × Parts). pin.0) pins)
    → (pin : List ℕ × Parts) → Contains pins pin → slice_cmp nat_cmp first pin.0 ≡ Less
less_of_all first [] all pin here = absurd (contains_nothing pin here)
less_of_all first (one ∷ pins) all pin here = elim (contains_cases one pin pins here) [
  | inl same ↦ subst (λ (p : List ℕ × Parts). slice_cmp nat_cmp first p.0 ≡ Less) same all.0
  | inr later ↦ less_of_all first pins all.1 pin later
]

-- identities in order are apart
apart : (first second : List ℕ) → slice_cmp nat_cmp first second ≡ Less → bytes_eq first second ≡ false
apart first second less = texts_ties first second ∙ ap is_eq less

-- a pin of the list is the one of its package
pub pin_there : (pins : Pins) → Ascend pins → (pin : List ℕ × Parts) → Contains pins pin → pin_of pins pin.0 ≡ Some pin.1
pin_there [] ascend pin here = absurd (contains_nothing pin here)
pin_there (first ∷ pins) ascend pin here = elim (contains_cases first pin pins here) [
  | inl same ↦
      subst (λ (p : List ℕ × Parts). pin_of (first ∷ pins) p.0 ≡ Some p.1) same
      (cond-true (bytes_eq first.0 first.0) (Some first.1) (pin_of pins first.0) (nat_list_eq_equiv.refl first.0))
  | inr later ↦
      cond-false (bytes_eq first.0 pin.0) (Some first.1) (pin_of pins pin.0)
      (apart first.0 pin.0
      (less_of_all first.0 pins (sorted_head (slice_cmp nat_cmp) first.0 (map (λ (p : List ℕ × Parts). p.0) pins) ascend) pin later))
      ∙ pin_there pins (sorted_tail (slice_cmp nat_cmp) first.0 (map (λ (p : List ℕ × Parts). p.0) pins) ascend) pin later
]

-- ---- one list of nodes

-- nodes that the order ties are one
node_exact : (first second : NodeName) → node_cmp first second ≡ Equal → first ≡ second
node_exact first second is = node_one first second (ap is_eq is)

-- tests that follow from each other are one
both_ways : (a b : Bool) → (a ≡ true → b ≡ true) → (b ≡ true → a ≡ true) → a ≡ b
both_ways true b there back = sym (there refl)
both_ways false true there back = back refl
both_ways false false there back = refl

-- the nodes that are on are one list
pub on_are_one : (world : World) (first second : List NodeName) → AreOn world first → AreOn world second → first ≡ second
on_are_one world first second a b =
    let one : BTreeSet NodeName = record { keys = first } in
    let other : BTreeSet NodeName = record { keys = second } in
    btree_set_from_contains node_total one other a.ordered b.ordered
    (λ node. both_ways (is_on first node) (is_on second node)
    (λ is. on_contains second node (b.all node (a.in_sets node (contains_on first node is))))
    (λ is. on_contains first node (a.all node (b.in_sets node (contains_on second node is)))))
    node_exact
