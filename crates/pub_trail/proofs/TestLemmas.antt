-- Tests of the numbers below a size, and what sets that are made by a test have.
use Rattle.std.proofs.Common.{◌≡◌, ℕ, zero, suc, ◌<◌, Bool, true, false, cond, not, ◌&&◌, ◌||◌, nat_lt, List, [], ◌∷◌, refl, sym, ap, ◌∙◌, inl, inr, arith, lt-ltb, ltb-true}
use Rattle.std.specs.List.{filter, list_all, list_any}
use Rattle.std.proofs.lemmas.Bool.{and_cases, and_from, and_parts, cases_lt, false≢true, or_cases, or_left, or_right}
use Rattle.std.proofs.lemmas.List.Folds.{list_all-append, list_any-append}
use Rattle.pub_set.specs.Choices.{ChoiceSet, do_meet, has, is_within, numbers_below, opposite, set_where}
use Rattle.pub_set.proofs.AscendingLemmas.{is_among-where}

-- some number below passes
pub passes_below : (test : ℕ → Bool) (n : ℕ) → list_any test (numbers_below n) ≡ true → (k : ℕ) × (k < n) × (test k ≡ true)
passes_below test zero any = absurd (false≢true any)
passes_below test (suc n) any =
    elim (or_cases (list_any test (numbers_below n)) (test n || false) (sym (list_any-append test (numbers_below n) (n ∷ [])) ∙ any)) [
      | inl before ↦ (let place = passes_below test n before in (place.0, omega (arith, place.1), place.2))
      | inr here ↦
          elim (or_cases (test n) false here) [
            | inl passes ↦ (n, omega arith, passes)
            | inr never ↦ absurd (false≢true never)
          ]
    ]

-- and the other way round
pub any_below : (test : ℕ → Bool) (n k : ℕ) → k < n → test k ≡ true → list_any test (numbers_below n) ≡ true
any_below test zero k below passes = absurd (omega arith)
any_below test (suc n) k below passes =
    list_any-append test (numbers_below n) (n ∷ [])
    ∙ elim (cases_lt k n) [
      | inl before ↦ or_left (list_any test (numbers_below n)) (test n || false) (any_below test n k before passes)
      | inr here ↦
          (let e : n ≡ k = omega arith in
          or_right (list_any test (numbers_below n)) (test n || false) (or_left (test n) false (ap test e ∙ passes)))
    ]

-- each number below passes
pub all_below : (test : ℕ → Bool) (n : ℕ) → ((k : ℕ) → k < n → test k ≡ true) → list_all test (numbers_below n) ≡ true
all_below test zero each = refl
all_below test (suc n) each =
    list_all-append test (numbers_below n) (n ∷ [])
    ∙ and_from (list_all test (numbers_below n)) (test n && true) (all_below test n (λ k below. each k (omega arith)))
    (and_from (test n) true (each n (omega arith)) refl)

-- and the other way round
pub each_below : (test : ℕ → Bool) (n k : ℕ) → list_all test (numbers_below n) ≡ true → k < n → test k ≡ true
each_below test zero k all below = absurd (omega arith)
each_below test (suc n) k all below =
    let parts = and_parts (list_all test (numbers_below n)) (test n && true) (sym (list_all-append test (numbers_below n) (n ∷ [])) ∙ all) in
    elim (cases_lt k n) [
      | inl before ↦ each_below test n k parts.0 before
      | inr here ↦ (let e : k ≡ n = omega arith in ap test e ∙ (and_parts (test n) true parts.1).0)
    ]

-- ---- a filter

-- one number of those that are kept
list_all-filter_step : (keep test : Bool) (x : ℕ) (kept : List ℕ) (p : ℕ → Bool) (rest : Bool) → p x ≡ test → list_all p kept ≡ rest
    → list_all p (cond keep (x ∷ kept) kept) ≡ ((not keep || test) && rest)
list_all-filter_step true test x kept p rest here behind = ap (λ b. b && list_all p kept) here ∙ ap (λ b. test && b) behind
list_all-filter_step false test x kept p rest here behind = behind

-- all that are kept pass
list_all-filter : (p q : ℕ → Bool) (xs : List ℕ) → list_all p (filter q xs) ≡ list_all (λ x. not (q x) || p x) xs
list_all-filter p q [] = refl
list_all-filter p q (x ∷ xs) = list_all-filter_step (q x) (p x) x (filter q xs) p (list_all (λ y. not (q y) || p y) xs) refl (list_all-filter p q xs)

-- one number of those that are kept
list_any-filter_step : (keep test : Bool) (x : ℕ) (kept : List ℕ) (p : ℕ → Bool) (rest : Bool) → p x ≡ test → list_any p kept ≡ rest
    → list_any p (cond keep (x ∷ kept) kept) ≡ ((keep && test) || rest)
list_any-filter_step true test x kept p rest here behind = ap (λ b. b || list_any p kept) here ∙ ap (λ b. test || b) behind
list_any-filter_step false test x kept p rest here behind = behind

-- some that is kept passes
list_any-filter : (p q : ℕ → Bool) (xs : List ℕ) → list_any p (filter q xs) ≡ list_any (λ x. q x && p x) xs
list_any-filter p q [] = refl
list_any-filter p q (x ∷ xs) = list_any-filter_step (q x) (p x) x (filter q xs) p (list_any (λ y. q y && p y) xs) refl (list_any-filter p q xs)

-- ---- sets that are made by a test

-- the second test follows from the first
implied : (a b : Bool) → (not a || b) ≡ true → a ≡ true → b ≡ true
implied true b holds here = holds
implied false b holds here = absurd (false≢true here)

-- and the other way round
implies : (a b : Bool) → (a ≡ true → b ≡ true) → (not a || b) ≡ true
implies true b holds = holds refl
implies false b holds = refl

-- a set within another: each choice
pub within_each : (size : ℕ) (test : ℕ → Bool) (set : ChoiceSet) → is_within (set_where size test) set ≡ true
    → (k : ℕ) → k < size → test k ≡ true → has set k ≡ true
within_each size test set within k below passes =
    implied (test k) (has set k) (each_below (λ j. not (test j) || has set j) size k (sym (list_all-filter (has set) test (numbers_below size)) ∙ within) below) passes

-- and the other way round
pub within_from : (size : ℕ) (test : ℕ → Bool) (set : ChoiceSet) → ((k : ℕ) → k < size → test k ≡ true → has set k ≡ true)
    → is_within (set_where size test) set ≡ true
within_from size test set each =
    list_all-filter (has set) test (numbers_below size)
    ∙ all_below (λ j. not (test j) || has set j) size (λ k below. implies (test k) (has set k) (each k below))

-- two sets that meet: some choice
pub meets_one : (size : ℕ) (test : ℕ → Bool) (set : ChoiceSet) → do_meet (set_where size test) set ≡ true
    → (k : ℕ) × (k < size) × (test k ≡ true) × (has set k ≡ true)
meets_one size test set meets =
    let place = passes_below (λ k. test k && has set k) size (sym (list_any-filter (has set) test (numbers_below size)) ∙ meets) in
    let parts = and_parts (test place.0) (has set place.0) place.2 in
    (place.0, place.1, parts.0, parts.1)

-- and the other way round
pub meets_from : (size : ℕ) (test : ℕ → Bool) (set : ChoiceSet) (k : ℕ) → k < size → test k ≡ true → has set k ≡ true
    → do_meet (set_where size test) set ≡ true
meets_from size test set k below passes here =
    list_any-filter (has set) test (numbers_below size)
    ∙ any_below (λ j. test j && has set j) size k below (and_from (test k) (has set k) passes here)

-- a choice that passes is in the set
pub has-where : (size choice : ℕ) (test : ℕ → Bool) → choice < size → test choice ≡ true → has (set_where size test) choice ≡ true
has-where size choice test below passes =
    is_among-where size test choice ∙ and_from (nat_lt choice size) (test choice) (lt-ltb choice size below) passes

-- and the other way round
pub passes-where : (size choice : ℕ) (test : ℕ → Bool) → has (set_where size test) choice ≡ true → (choice < size) × (test choice ≡ true)
passes-where size choice test here =
    let parts = and_parts (nat_lt choice size) (test choice) (sym (is_among-where size test choice) ∙ here) in
    (ltb-true choice size parts.0, parts.1)

-- a choice that a set lacks is in its opposite
pub has-opposite : (set : ChoiceSet) (choice : ℕ) → choice < set.size → has set choice ≡ false → has (opposite set) choice ≡ true
has-opposite set choice below lacks = has-where set.size choice (λ k. not (has set k)) below (ap not lacks)

-- what isn't true is false
not_true : (a : Bool) → not a ≡ true → a ≡ false
not_true false holds = refl
not_true true holds = absurd (false≢true holds)

-- and the other way round
pub lacks-opposite : (set : ChoiceSet) (choice : ℕ) → has (opposite set) choice ≡ true → has set choice ≡ false
lacks-opposite set choice here = not_true (has set choice) (passes-where set.size choice (λ k. not (has set k)) here).1

-- where not all pass, one fails
pub not_all_below : (test : ℕ → Bool) (n : ℕ) → list_all test (numbers_below n) ≡ false → (k : ℕ) × (k < n) × (test k ≡ false)
not_all_below test zero all = absurd (false≢true (sym all))
not_all_below test (suc n) all =
    elim (and_cases (list_all test (numbers_below n)) (test n && true) (sym (list_all-append test (numbers_below n) (n ∷ [])) ∙ all)) [
      | inl before ↦ (let place = not_all_below test n before in (place.0, omega (arith, place.1), place.2))
      | inr here ↦
          elim (and_cases (test n) true here) [
            | inl fails ↦ (n, omega arith, fails)
            | inr never ↦ absurd (false≢true (sym never))
          ]
    ]

-- the first is true and the second false
not_implied : (a b : Bool) → (not a || b) ≡ false → (a ≡ true) × (b ≡ false)
not_implied true b fails = (refl, fails)
not_implied false b fails = absurd (false≢true (sym fails))

-- a set that isn't within another has a choice that it lacks
pub not_within : (size : ℕ) (test : ℕ → Bool) (set : ChoiceSet) → is_within (set_where size test) set ≡ false
    → (k : ℕ) × (k < size) × (test k ≡ true) × (has set k ≡ false)
not_within size test set open_set =
    let place = not_all_below (λ k. not (test k) || has set k) size (sym (list_all-filter (has set) test (numbers_below size)) ∙ open_set) in
    let parts = not_implied (test place.0) (has set place.0) place.2 in
    (place.0, place.1, parts.0, parts.1)
