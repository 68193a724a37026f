-- What is resolved is resolved again with the same pins: they are valid and preferred to all others, so they are the first selection, and there is
-- one.
use Rattle.std.proofs.Common.{◌≡◌, ℕ, Bool, true, false, cond, List, [], ◌∷◌, map, Contains, Option, Some, None, refl, sym, ap, ◌∙◌, subst, inl, inr}
use Rattle.std.proofs.lemmas.Bool.{cases_Bool, cond-false, cond-true, false≢true}
use Rattle.std.specs.Cmp.Lexicographic.{nat_list_cmp_total, slice_cmp}
use Rattle.std.specs.List.{AllByRecursion}
use Rattle.std.specs.List.Sorted.{IsStrictlySortedBy}
use Rattle.std.specs.Ordering.{is_eq, is_lt, nat_cmp, ordering_reverse}
use Rattle.std.specs.Str.{bytes_eq}
use Rattle.std.specs.declared.cmp.Ordering.{Ordering}
use Rattle.std.specs.declared.cmp.Ordering.TheVariants.{Less, Equal, Greater}
use Rattle.pub_facts.specs.Catalogue.{Catalogue, Job}
use Rattle.pub_facts.specs.First.{IsAmong, IsFirst, IsPreferred, TellsApart}
use Rattle.pub_facts.proofs.FirstOne.{one_first, settled}
use Rattle.pub_facts.proofs.Members.{contains_head, contains_tail}
use Rattle.std.proofs.lemmas.Map.Text.{is_eq-slice_cmp}
use Rattle.spm_trait.proofs.Names.{same-from_true, same_name-itself}
use Rattle.spm_version.proofs.ReleaseLemmas.{same_release}
use Rattle.spm_version.specs.Release.{Parts}
use Rattle.spm_version.specs.ReleaseLaws.{release_cmp, release_equiv, release_ties, release_total}
use Rattle.pub_plain.specs.Answers.{Answers, AreShort, catalogue_by}
use Rattle.pub_plain.specs.Choosing.{Pins, is_pinned, pin_of}
use Rattle.pub_plain.specs.Preferred.{IsWider, prefers_by}

-- the identities of pins
abbrev pub pinned_in : Pins → List (List ℕ)
pinned_in pins = map (λ (pin : List ℕ × Parts). pin.0) pins

-- ---- pins in order are told by what is pinned

-- one that is below another isn't it
below_differs : (identity other : List ℕ) → slice_cmp nat_cmp identity other ≡ Less → bytes_eq other identity ≡ false
below_differs identity other below = elim (cases_Bool (bytes_eq other identity)) [
  | inl same ↦
      (let e : slice_cmp nat_cmp identity identity ≡ Less = ap (slice_cmp nat_cmp identity) (sym (same-from_true other identity same)) ∙ below in
      let turned : slice_cmp nat_cmp identity identity ≡ ordering_reverse (slice_cmp nat_cmp identity identity) = nat_list_cmp_total.antisymm identity identity in
      let both : Less ≡ ordering_reverse Less = sym e ∙ turned ∙ ap ordering_reverse e in cc)
  | inr differs ↦ differs
]

-- of what is below all pins there is none
none_below : (identity : List ℕ) (pins : Pins) → AllByRecursion (λ other. slice_cmp nat_cmp identity other ≡ Less) (pinned_in pins)
    → pin_of pins identity ≡ None
none_below identity [] above = refl
none_below identity (pin ∷ pins) above =
    cond-false (bytes_eq pin.0 identity) (Some pin.1) (pin_of pins identity) (below_differs identity pin.0 above.0) ∙ none_below identity pins above.1

-- the first pin is that of its identity
first_pin : (pin : List ℕ × Parts) (pins : Pins) → pin_of (pin ∷ pins) pin.0 ≡ Some pin.1
first_pin pin pins = cond-true (bytes_eq pin.0 pin.0) (Some pin.1) (pin_of pins pin.0) (same_name-itself pin.0)

-- what is below the first of pins in order is below all of them
below_all : (identity : List ℕ) (pin : List ℕ × Parts) (pins : Pins) → slice_cmp nat_cmp identity pin.0 ≡ Less
    → AllByRecursion (λ other. slice_cmp nat_cmp pin.0 other ≡ Less) (pinned_in pins)
    → AllByRecursion (λ other. slice_cmp nat_cmp identity other ≡ Less) (pinned_in pins)
below_all identity pin [] below above = tt
below_all identity pin (next ∷ pins) below above =
    (nat_list_cmp_total.trans identity pin.0 next.0 below above.0, below_all identity pin pins below above.1)

-- so a pin below the first of others isn't theirs
missing : (pin other : List ℕ × Parts) (pins others : Pins) → slice_cmp nat_cmp pin.0 other.0 ≡ Less
    → AllByRecursion (λ further. slice_cmp nat_cmp other.0 further ≡ Less) (pinned_in others)
    → pin_of (pin ∷ pins) pin.0 ≡ pin_of (other ∷ others) pin.0 → ⊥
missing pin other pins others below above same =
    let none : pin_of (other ∷ others) pin.0 ≡ None = none_below pin.0 (other ∷ others) (below, below_all pin.0 other others below above) in
    let e : Some pin.1 ≡ None = sym (first_pin pin pins) ∙ same ∙ none in cc

-- behind equal first pins the same is pinned
behind : (identity : List ℕ) (first second : Parts) (pins others : Pins)
    → AllByRecursion (λ other. slice_cmp nat_cmp identity other ≡ Less) (pinned_in pins)
    → AllByRecursion (λ other. slice_cmp nat_cmp identity other ≡ Less) (pinned_in others)
    → ((other : List ℕ) → pin_of ((identity, first) ∷ pins) other ≡ pin_of ((identity, second) ∷ others) other)
    → (other : List ℕ) → pin_of pins other ≡ pin_of others other
behind identity first second pins others above above_others same other = elim (cases_Bool (bytes_eq identity other)) [
  | inl is ↦
      let it : identity ≡ other = same-from_true identity other is in
      subst (λ text. pin_of pins text ≡ pin_of others text) it (none_below identity pins above ∙ sym (none_below identity others above_others))
  | inr isnt ↦
      sym (cond-false (bytes_eq identity other) (Some first) (pin_of pins other) isnt) ∙ same other
      ∙ cond-false (bytes_eq identity other) (Some second) (pin_of others other) isnt
]

-- texts that their order doesn't tell apart are equal
same_name : (first second : List ℕ) → slice_cmp nat_cmp first second ≡ Equal → first ≡ second
same_name first second is = same-from_true first second (sym (is_eq-slice_cmp first second) ∙ ap is_eq is)

-- first pins are equal where the same is pinned, if then the others are
same_heads : (pin other : List ℕ × Parts) (pins others : Pins) → AllByRecursion (λ further. slice_cmp nat_cmp pin.0 further ≡ Less) (pinned_in pins)
    → AllByRecursion (λ further. slice_cmp nat_cmp other.0 further ≡ Less) (pinned_in others)
    → ((identity : List ℕ) → pin_of (pin ∷ pins) identity ≡ pin_of (other ∷ others) identity)
    → (((identity : List ℕ) → pin_of pins identity ≡ pin_of others identity) → pins ≡ others) → pin ∷ pins ≡ other ∷ others
same_heads pin other pins others above above_others same rest = go (slice_cmp nat_cmp pin.0 other.0) refl
  where
    equal : pin.0 ≡ other.0 → pin ∷ pins ≡ other ∷ others
    equal names =
        let found : Some pin.1 ≡ Some other.1
        = sym (first_pin pin pins) ∙ same pin.0 ∙ ap (pin_of (other ∷ others)) names ∙ first_pin other others in
        let release : pin.1 ≡ other.1 = cc in
        let pair : pin ≡ other = ap (λ name. (name, pin.1)) names ∙ ap (λ parts. (other.0, parts)) release in
        let tail : pins ≡ others
        = rest (behind pin.0 pin.1 pin.1 pins others above
        (subst (λ name. AllByRecursion (λ further. slice_cmp nat_cmp name further ≡ Less) (pinned_in others)) (sym names) above_others)
        (λ identity. same identity ∙ ap (λ (first : List ℕ × Parts). pin_of (first ∷ others) identity) (sym pair))) in
        ap (λ first. first ∷ pins) pair ∙ ap (λ further. other ∷ further) tail

    go : (o : Ordering) → slice_cmp nat_cmp pin.0 other.0 ≡ o → pin ∷ pins ≡ other ∷ others
    go Less below = absurd (missing pin other pins others below above_others (same pin.0))
    go Equal is = equal (same_name pin.0 other.0 is)
    go Greater over =
        absurd (missing other pin others pins (nat_list_cmp_total.antisymm other.0 pin.0 ∙ ap ordering_reverse over) above (sym (same other.0)))

-- pins in order are equal where the same is pinned
pub same_pins : (pins others : Pins) → IsStrictlySortedBy (slice_cmp nat_cmp) (pinned_in pins) → IsStrictlySortedBy (slice_cmp nat_cmp) (pinned_in others)
    → ((identity : List ℕ) → pin_of pins identity ≡ pin_of others identity) → pins ≡ others
unfolding IsStrictlySortedBy
same_pins [] [] sorted sorted_others same = refl
same_pins [] (other ∷ others) sorted sorted_others same = (let e : None ≡ Some other.1 = same other.0 ∙ first_pin other others in cc)
same_pins (pin ∷ pins) [] sorted sorted_others same = (let e : Some pin.1 ≡ None = sym (first_pin pin pins) ∙ same pin.0 in cc)
same_pins (pin ∷ pins) (other ∷ others) sorted sorted_others same =
    same_heads pin other pins others sorted.0 sorted_others.0 same (λ rest. same_pins pins others sorted.1 sorted_others.1 rest)

-- ---- preference by the pins

-- what is pinned is preferred to all others
pub pins_preferred : (pins : Pins) → IsPreferred (prefers_by pins) (pin_of pins)
pins_preferred pins identity release other selected =
    cond-true (is_pinned (pin_of pins identity) (Some release)) false
    (cond (is_pinned (pin_of pins identity) (Some other)) true (is_lt (release_cmp release other)))
    (ap (λ pin. is_pinned pin (Some release)) selected ∙ release_equiv.refl release)

-- both are the pin
both_pinned : (pin : Option Parts) (first second : Parts) → is_pinned pin (Some first) ≡ true → is_pinned pin (Some second) ≡ true → first ≡ second
both_pinned None first second is too = absurd (false≢true is)
both_pinned (Some release) first second is too = sym (same_release release first is) ∙ same_release release second too

-- neither is greater
neither_greater : (first second : Parts) → is_lt (release_cmp second first) ≡ false → is_lt (release_cmp first second) ≡ false → first ≡ second
neither_greater first second first_not second_not = go (release_cmp first second) refl
  where
    go : (o : Ordering) → release_cmp first second ≡ o → first ≡ second
    go Less is = absurd (false≢true (sym second_not ∙ ap is_lt is))
    go Equal is = same_release first second (release_ties first second ∙ ap is_eq is)
    go Greater is = absurd (false≢true (sym first_not ∙ ap is_lt (release_total.antisymm second first ∙ ap ordering_reverse is)))

-- what is preferred where the second isn't pinned, and where the first is not either
prefers_where : (first second greater : Bool) → second ≡ false → cond second false (cond first true greater) ≡ cond first true greater
prefers_where first second greater isnt = cond-false second false (cond first true greater) isnt

-- of two releases one is pinned, or greater
pub pins_tell : (pins : Pins) (c : Catalogue) → TellsApart (prefers_by pins) c
pins_tell pins c identity first second listed too first_not second_not =
    go (is_pinned (pin_of pins identity) (Some first)) refl (is_pinned (pin_of pins identity) (Some second)) refl
  where
    first_is : Bool
    first_is = is_pinned (pin_of pins identity) (Some first)

    second_is : Bool
    second_is = is_pinned (pin_of pins identity) (Some second)

    go : (a : Bool) → first_is ≡ a → (b : Bool) → second_is ≡ b → first ≡ second
    go true is true too_is = both_pinned (pin_of pins identity) first second is too_is
    go true is false isnt =
        absurd (false≢true (sym first_not ∙ prefers_where first_is second_is (is_lt (release_cmp second first)) isnt
        ∙ cond-true first_is true (is_lt (release_cmp second first)) is))
    go false isnt true is =
        absurd (false≢true (sym second_not ∙ prefers_where second_is first_is (is_lt (release_cmp first second)) isnt
        ∙ cond-true second_is true (is_lt (release_cmp first second)) is))
    go false isnt false too_isnt =
        neither_greater first second
        (sym (prefers_where first_is second_is (is_lt (release_cmp second first)) too_isnt ∙ cond-false first_is true (is_lt (release_cmp second first)) isnt)
        ∙ first_not)
        (sym (prefers_where second_is first_is (is_lt (release_cmp first second)) isnt ∙ cond-false second_is true (is_lt (release_cmp first second)) too_isnt)
        ∙ second_not)

-- ---- again

-- what is pinned is among the identities of the pins
pub pins_among : (pins : Pins) → IsAmong (pinned_in pins) (pin_of pins)
pins_among [] identity release selected = (let e : None ≡ Some release = selected in cc)
pins_among (pin ∷ pins) identity release selected = elim (cases_Bool (bytes_eq pin.0 identity)) [
  | inl is ↦ subst (Contains (pinned_in (pin ∷ pins))) (same-from_true pin.0 identity is) (contains_head pin.0 (pinned_in pins))
  | inr isnt ↦
      contains_tail pin.0 identity (pinned_in pins)
      (pins_among pins identity release (sym (cond-false (bytes_eq pin.0 identity) (Some pin.1) (pin_of pins identity) isnt) ∙ selected))
]

-- the first selection by its own pins is itself
pub kept_pins : (job : Job) (pins : Pins) (answers : Answers) (found again : Pins) → AreShort answers
    → IsStrictlySortedBy (slice_cmp nat_cmp) (pinned_in found) → IsStrictlySortedBy (slice_cmp nat_cmp) (pinned_in again)
    → IsFirst (prefers_by pins) (IsWider answers) job (catalogue_by answers) (pin_of found)
    → IsFirst (prefers_by found) (IsWider answers) job (catalogue_by answers) (pin_of again) → again ≡ found
kept_pins job pins answers found again short sorted sorted_again first first_again =
    let c = catalogue_by answers in
    let itself : IsWider answers c c = record { more = answers; carries = λ asked said is. is; short = short; is = refl } in
    let kept : IsFirst (prefers_by found) (IsWider answers) job c (pin_of found)
    = settled (prefers_by found) (IsWider answers) job c (pin_of found) (pins_preferred found) first.valid in
    same_pins again found sorted_again sorted
    (λ identity. sym (one_first (prefers_by found) (IsWider answers) job c (pin_of found) (pin_of again) (pinned_in found) itself
    (pins_tell found c) (pins_among found) kept first_again identity))
