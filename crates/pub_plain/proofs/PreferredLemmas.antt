-- A package is decided at the first of its preferred releases that is left: so no release that is preferred to the chosen one is left.
use Rattle.std.proofs.Common.{◌≡◌, ◌⊎◌, ℕ, zero, suc, ◌<◌, ◌≤◌, Bool, true, false, not, cond, List, [], ◌∷◌, length, Contains, Option, Some, None, refl, sym, ap, ◌∙◌, subst, inl, inr, arith}
use Rattle.std.specs.Cmp.{tied_itself}
use Rattle.std.specs.List.{filter, slice_get}
use Rattle.std.specs.List.Sorted.{IsStrictlySortedBy}
use Rattle.std.specs.Ordering.{is_lt}
use Rattle.std.specs.declared.cmp.Ordering.{Ordering}
use Rattle.std.specs.declared.cmp.Ordering.TheVariants.{Less, Equal, Greater}
use Rattle.std.proofs.lemmas.Bool.{cases_Bool, cases_lt, cond-false, cond-true, false≢true, false_from_ne_true}
use Rattle.std.proofs.lemmas.List.Elements.{All-contains, Contains-append_left, Contains-append_right}
use Rattle.std.proofs.lemmas.Map.Keys.{sorted_tail}
use Rattle.std.proofs.lemmas.Map.Views.{All-after_first}
use Rattle.pub_facts.specs.Catalogue.{release_at}
use Rattle.pub_facts.proofs.Members.{contains_cases, contains_filter, contains_head, contains_nothing, contains_tail, from_filter, listed_at}
use Rattle.spm_version.specs.Release.{Parts}
use Rattle.spm_version.specs.ReleaseLaws.{release_cmp, release_total}
use Rattle.pub_plain.specs.Choosing.{Pins, choices_down, first_that, is_pinned, pin_of, ranked_in}
use Rattle.pub_plain.specs.Preferred.{prefers_by}
use Rattle.pub_plain.proofs.PreferenceLemmas.{down, down-suc, prefers_greatest, prefers_pinned}

-- ---- lists that ascend

-- what comes later in a list that ascends is greater
got_less : (list : List Parts) (i j : ℕ) (first second : Parts) → IsStrictlySortedBy release_cmp list → slice_get list i ≡ Some first
    → slice_get list j ≡ Some second → i < j → release_cmp first second ≡ Less
got_less [] i j first second sorted at_i at_j below = cc
got_less (head ∷ list) zero zero first second sorted at_i at_j below = absurd (omega (arith, below))
got_less (head ∷ list) zero (suc j) first second sorted at_i at_j below =
    let same : head ≡ first = cc in
    subst (λ (release : Parts). release_cmp release second ≡ Less) same
    (All-contains (λ other. release_cmp head other ≡ Less) list second (All-after_first release_cmp head list sorted)
    (listed_at list (suc j) second at_j))
got_less (head ∷ list) (suc i) zero first second sorted at_i at_j below = absurd (omega (arith, below))
got_less (head ∷ list) (suc i) (suc j) first second sorted at_i at_j below =
    got_less list i j first second (sorted_tail release_cmp head list sorted) at_i at_j (omega (arith, below))

-- so a greater choice has a greater release
pub choice_less : (list : List Parts) (a b : ℕ) (first second : Parts) → IsStrictlySortedBy release_cmp list → release_at list a ≡ Some first
    → release_at list b ≡ Some second → a < b → release_cmp first second ≡ Less
choice_less list zero b first second sorted at_a at_b below = cc
choice_less list (suc a) zero first second sorted at_a at_b below = cc
choice_less list (suc a) (suc b) first second sorted at_a at_b below = got_less list a b first second sorted at_a at_b (omega (arith, below))

-- no release is below itself
not_below : (release : Parts) → release_cmp release release ≡ Less → ⊥
not_below release below = cc (below, tied_itself release_total release)

-- a release has one choice
pub choice_once : (list : List Parts) (release : Parts) (a b : ℕ) → IsStrictlySortedBy release_cmp list → release_at list a ≡ Some release
    → release_at list b ≡ Some release → a ≡ b
choice_once list release a b sorted at_a at_b = elim (cases_lt a b) [
  | inl below ↦ absurd (not_below release (choice_less list a b release release sorted at_a at_b below))
  | inr above ↦ elim (cases_lt b a) [
    | inl below ↦ absurd (not_below release (choice_less list b a release release sorted at_b at_a below))
    | inr other ↦ omega (arith, above, other)
  ]
]

-- and a greater release a greater choice
choice_above : (list : List Parts) (a b : ℕ) (first second : Parts) → IsStrictlySortedBy release_cmp list → release_at list a ≡ Some first
    → release_at list b ≡ Some second → is_lt (release_cmp first second) ≡ true → a < b
choice_above list a b first second sorted at_a at_b less = elim (cases_lt a b) [
  | inl below ↦ below
  | inr above ↦ elim (cases_lt b a) [
    | inl below ↦
        (let other : release_cmp second first ≡ Less = choice_less list b a second first sorted at_b at_a below in
        absurd (not_below second (release_total.trans second first second other (is_less (release_cmp first second) less))))
    | inr equal ↦
        (let same : a ≡ b = omega (arith, above, equal) in
        let one : Some first ≡ Some second = sym at_a ∙ ap (release_at list) same ∙ at_b in
        let e : first ≡ second = cc in
        absurd (not_below second
        (is_less (release_cmp second second) (subst (λ (release : Parts). is_lt (release_cmp release second) ≡ true) e less))))
  ]
]
  where
    is_less : (order : Ordering) → is_lt order ≡ true → order ≡ Less
    is_less Less is = refl
    is_less Equal is = absurd (false≢true is)
    is_less Greater is = absurd (false≢true is)

-- a choice of a release is one of the list
choice_within : (list : List Parts) (choice : ℕ) (release : Parts) → release_at list choice ≡ Some release → choice ≤ length list
choice_within list zero release is = omega arith
choice_within list (suc k) release is = go list k is
  where
    go : (list : List Parts) (k : ℕ) → slice_get list k ≡ Some release → suc k ≤ length list
    go [] k is = cc
    go (first ∷ list) zero is = omega arith
    go (first ∷ list) (suc k) is = (let rest = go list k is in omega (arith, rest))

-- ---- the first that passes

-- where none is found, none passes
pub first_none : (test : ℕ → Bool) (numbers : List ℕ) (k : ℕ) → first_that test numbers ≡ None → Contains numbers k → test k ≡ true → ⊥
first_none test [] k none here passes = contains_nothing k here
first_none test (x ∷ xs) k none here passes = elim (cases_Bool (test x)) [
  | inl is ↦ (let e : Some x ≡ None = sym (cond-true (test x) (Some x) (first_that test xs) is) ∙ none in cc)
  | inr isnt ↦ elim (contains_cases x k xs here) [
    | inl same ↦ false≢true (sym isnt ∙ ap test same ∙ passes)
    | inr there ↦ first_none test xs k (sym (cond-false (test x) (Some x) (first_that test xs) isnt) ∙ none) there passes
  ]
]

-- what is found is there
first_there : (test : ℕ → Bool) (numbers : List ℕ) (k : ℕ) → first_that test numbers ≡ Some k → Contains numbers k
first_there test [] k found = cc
first_there test (x ∷ xs) k found = elim (cases_Bool (test x)) [
  | inl is ↦
      (let e : Some x ≡ Some k = sym (cond-true (test x) (Some x) (first_that test xs) is) ∙ found in
      let same : x ≡ k = cc in
      subst (λ y. Contains (y ∷ xs) k) (sym same) (contains_head k xs))
  | inr isnt ↦ contains_tail x k xs (first_there test xs k (sym (cond-false (test x) (Some x) (first_that test xs) isnt) ∙ found))
]

-- each number from n down to 1 is there
down_there : (n k : ℕ) → k < n → Contains (down n) (suc k)
down_there zero k below = absurd (omega (arith, below))
down_there (suc n) k below = elim (cases_lt k n) [
  | inl less ↦ subst (λ all. Contains all (suc k)) (sym (down-suc n)) (contains_tail (suc n) (suc k) (down n) (down_there n k less))
  | inr last ↦
      (let same : suc n ≡ suc k = omega (arith, below, last) in
      subst (λ all. Contains all (suc k)) (sym (down-suc n)) (subst (λ m. Contains (m ∷ down n) (suc k)) (sym same) (contains_head (suc k) (down n))))
]

-- so none above what is found passes
down_first : (test : ℕ → Bool) (n choice k : ℕ) → first_that test (down n) ≡ Some choice → choice < k → k ≤ n → test k ≡ true → ⊥
down_first test zero choice k found above within passes = absurd (omega (arith, above, within))
down_first test (suc n) choice k found above within passes =
    let here : first_that test (suc n ∷ down n) ≡ Some choice = sym (ap (first_that test) (down-suc n)) ∙ found in
    elim (cases_Bool (test (suc n))) [
      | inl is ↦
          (let e : Some (suc n) ≡ Some choice = sym (cond-true (test (suc n)) (Some (suc n)) (first_that test (down n)) is) ∙ here in
          let same : suc n ≡ choice = cc in
          absurd (omega (arith, same, above, within)))
      | inr isnt ↦ elim (cases_lt k (suc n)) [
        | inl less ↦
            down_first test n choice k (sym (cond-false (test (suc n)) (Some (suc n)) (first_that test (down n)) isnt) ∙ here) above
            (omega (arith, less)) passes
        | inr last ↦
            (let same : k ≡ suc n = omega (arith, within, last) in
            false≢true (sym isnt ∙ ap test (sym same) ∙ passes))
      ]
    ]

-- each choice of a release is among all
pub choice_there : (list : List Parts) (choice : ℕ) (release : Parts) → release_at list choice ≡ Some release → Contains (choices_down list) choice
choice_there list zero release is = cc
choice_there list (suc k) release is = (let within = choice_within list (suc k) release is in down_there (length list) k (omega (arith, within)))

-- and, pinned or not, among the ranked ones
pub ranked_there : (pin : Option Parts) (list : List Parts) (choice : ℕ) → Contains (choices_down list) choice → Contains (ranked_in pin list) choice
ranked_there pin list choice here = elim (cases_Bool (is_pinned pin (release_at list choice))) [
  | inl pinned ↦
      Contains-append_left (filter (λ k. is_pinned pin (release_at list k)) (choices_down list))
      (filter (λ k. not (is_pinned pin (release_at list k))) (choices_down list)) choice
      (contains_filter (λ k. is_pinned pin (release_at list k)) (choices_down list) choice pinned here)
  | inr other ↦
      Contains-append_right (filter (λ k. is_pinned pin (release_at list k)) (choices_down list))
      (filter (λ k. not (is_pinned pin (release_at list k))) (choices_down list)) choice
      (contains_filter (λ k. not (is_pinned pin (release_at list k))) (choices_down list) choice (ap not other) here)
]

-- ---- what is preferred

-- the pinned one is found first, so where another is found no pinned one passes
unpinned_first : (test : ℕ → Bool) (pin : Option Parts) (list : List Parts) (choice : ℕ) → first_that test (ranked_in pin list) ≡ Some choice
    → is_pinned pin (release_at list choice) ≡ false → first_that test (filter (λ k. is_pinned pin (release_at list k)) (choices_down list)) ≡ None
unpinned_first test pin list choice found other =
    go (first_that test (filter (λ k. is_pinned pin (release_at list k)) (choices_down list))) refl
  where
    go : (first : Option ℕ) → first_that test (filter (λ k. is_pinned pin (release_at list k)) (choices_down list)) ≡ first
        → first_that test (filter (λ k. is_pinned pin (release_at list k)) (choices_down list)) ≡ None
    go None is = is
    go (Some k) is =
        let e : Some k ≡ Some choice = sym (prefers_pinned test pin list k is) ∙ found in
        let same : k ≡ choice = cc in
        let passes = (from_filter (λ k. is_pinned pin (release_at list k)) (choices_down list) k
        (first_there test (filter (λ k. is_pinned pin (release_at list k)) (choices_down list)) k is)).1 in
        absurd (false≢true (sym other ∙ ap (λ j. is_pinned pin (release_at list j)) (sym same) ∙ passes))

-- what it takes to be preferred: the chosen one isn't pinned, and the other is, or is greater
pub record IsPreferredTo (pin : Option Parts) (other release : Parts) : Type 0 where
  pub unpinned : is_pinned pin (Some release) ≡ false
  pub better : (is_pinned pin (Some other) ≡ true) ⊎ (is_lt (release_cmp release other) ≡ true)

-- each preferred one takes it
preferred_to : (pins : Pins) (identity : List ℕ) (other release : Parts) → prefers_by pins identity other release ≡ true
    → IsPreferredTo (pin_of pins identity) other release
preferred_to pins identity other release is = elim (cases_Bool (is_pinned pin (Some release))) [
  | inl pinned ↦ absurd (false≢true (sym (cond-true (is_pinned pin (Some release)) false _ pinned) ∙ is))
  | inr unpinned ↦
      (let rest : cond (is_pinned pin (Some other)) true (is_lt (release_cmp release other)) ≡ true
      = sym (cond-false (is_pinned pin (Some release)) false _ unpinned) ∙ is in
      elim (cases_Bool (is_pinned pin (Some other))) [
        | inl pinned ↦ record { unpinned = unpinned; better = inl pinned }
        | inr free ↦ record {
          unpinned = unpinned;
          better = inr (sym (cond-false (is_pinned pin (Some other)) true (is_lt (release_cmp release other)) free) ∙ rest);
        }
      ])
]
  where
    pin : Option Parts
    pin = pin_of pins identity

-- no release that is preferred to the one that is found passes
pub none_preferred : (pins : Pins) (identity : List ℕ) (list : List Parts) (test : ℕ → Bool) (choice k : ℕ) (release other : Parts)
    → IsStrictlySortedBy release_cmp list → first_that test (ranked_in (pin_of pins identity) list) ≡ Some choice
    → release_at list choice ≡ Some release → release_at list k ≡ Some other → prefers_by pins identity other release ≡ true → test k ≡ false
none_preferred pins identity list test choice k release other sorted found at_choice at_k preferred =
    false_from_ne_true (test k) (λ passes. go passes)
  where
    pin : Option Parts
    pin = pin_of pins identity

    it : IsPreferredTo pin other release
    it = preferred_to pins identity other release preferred

    none : first_that test (filter (λ k. is_pinned pin (release_at list k)) (choices_down list)) ≡ None
    none = unpinned_first test pin list choice found (ap (is_pinned pin) at_choice ∙ it.unpinned)

    go : test k ≡ true → ⊥
    go passes = elim it.better [
      | inl pinned ↦
          first_none test (filter (λ k. is_pinned pin (release_at list k)) (choices_down list)) k none
          (contains_filter (λ k. is_pinned pin (release_at list k)) (choices_down list) k (ap (is_pinned pin) at_k ∙ pinned)
          (choice_there list k other at_k)) passes
      | inr less ↦
          down_first test (length list) choice k (sym (prefers_greatest test pin list none) ∙ found)
          (choice_above list choice k release other sorted at_choice at_k less) (choice_within list k other at_k) passes
    ]
