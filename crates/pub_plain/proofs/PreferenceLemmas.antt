-- The walk down a package's choices, and the pinned one before the others.
use Rattle.std.proofs.Common.{◌≡◌, inl, inr, ℕ, zero, suc, ◌-◌, ◌<◌, ◌&&◌, Bool, true, false, not, cond, List, [], ◌∷◌, ◌++◌, map, reverse, length, get_or, Option, Some, None, refl, sym, ap, ◌∙◌, subst, arith}
use Rattle.std.specs.List.{filter}
use Rattle.std.specs.Prelude.{slice_get}
use Rattle.std.proofs.lemmas.Bool.{cases_Bool, cond-false, cond-true}
use Rattle.std.proofs.lemmas.List.{reverse-append}
use Rattle.pub_facts.specs.Catalogue.{release_at}
use Rattle.pub_set.specs.Choices.{numbers_below}
use Rattle.spm_version.specs.Release.{Parts}
use Rattle.spm_version.specs.ReleaseLaws.{release_eq}
use Rattle.pub_plain.specs.Choosing.{choices_down, first_that, is_pinned, ranked_in}

-- the numbers from n down to 1
abbrev pub down : ℕ → List ℕ
down n = map (λ k. suc k) (reverse (numbers_below n))

-- one more comes first
pub down-suc : (n : ℕ) → down (suc n) ≡ suc n ∷ down n
down-suc n = ap (map (λ k. suc k)) (reverse-append (numbers_below n) (n ∷ []))

-- the same of a number that isn't 0
pub down_more : (n : ℕ) → 0 < n → down n ≡ n ∷ down (n - 1)
down_more n some =
    let e : suc (n - 1) ≡ n = omega arith in
    subst (λ m. down m ≡ m ∷ down (n - 1)) e (down-suc (n - 1))

-- ---- the greatest that is left

-- one that isn't left is passed over
pub greatest_step : (test : ℕ → Bool) (n : ℕ) (whole : Option ℕ) → 0 < n → test n ≡ false → first_that test (down n) ≡ whole → first_that test (down (n - 1)) ≡ whole
greatest_step test n whole some fails is =
    sym (ap (first_that test) (down_more n some) ∙ cond-false (test n) (Some n) (first_that test (down (n - 1))) fails) ∙ is

-- the first that is left is found
pub greatest_found : (test : ℕ → Bool) (n : ℕ) (whole : Option ℕ) → 0 < n → test n ≡ true → first_that test (down n) ≡ whole → Some n ≡ whole
greatest_found test n whole some passes is =
    sym (ap (first_that test) (down_more n some) ∙ cond-true (test n) (Some n) (first_that test (down (n - 1))) passes) ∙ is

-- ---- the pinned one

-- of those that pass another test, one that fails either is passed over
pub pinned_step : (test pinned : ℕ → Bool) (n : ℕ) (whole : Option ℕ) → 0 < n → (pinned n && test n) ≡ false
    → first_that test (filter pinned (down n)) ≡ whole → first_that test (filter pinned (down (n - 1))) ≡ whole
pinned_step test pinned n whole some fails is =
    sym (ap (λ xs. first_that test (filter pinned xs)) (down_more n some) ∙ go (pinned n) (test n) refl fails) ∙ is
  where
    go : (a b : Bool) → test n ≡ b → (a && b) ≡ false
        → first_that test (cond a (n ∷ filter pinned (down (n - 1))) (filter pinned (down (n - 1)))) ≡ first_that test (filter pinned (down (n - 1)))
    go true true at either = cc
    go true false at either = cond-false (test n) (Some n) (first_that test (filter pinned (down (n - 1)))) at
    go false b at either = refl

-- the first that passes both is found
pub pinned_found : (test pinned : ℕ → Bool) (n : ℕ) (whole : Option ℕ) → 0 < n → pinned n ≡ true → test n ≡ true
    → first_that test (filter pinned (down n)) ≡ whole → Some n ≡ whole
pinned_found test pinned n whole some is_it passes is =
    sym (ap (λ xs. first_that test (filter pinned xs)) (down_more n some)
    ∙ ap (λ b. first_that test (cond b (n ∷ filter pinned (down (n - 1))) (filter pinned (down (n - 1))))) is_it
    ∙ cond-true (test n) (Some n) (first_that test (filter pinned (down (n - 1)))) passes) ∙ is

-- whether a choice is the pinned release
pub pinned_at : (pin : Parts) (list : List Parts) (n : ℕ) (release : Parts) → 0 < n → n - 1 < length list → release ≡ get_or list (n - 1) release
    → is_pinned (Some pin) (release_at list n) ≡ release_eq pin release
pinned_at pin list n release some within at =
    let e : suc (n - 1) ≡ n = omega arith in
    ap (λ m. is_pinned (Some pin) (release_at list m)) (sym e) ∙ ap (is_pinned (Some pin)) (read list (n - 1) within at)
  where
    read : (xs : List Parts) (i : ℕ) → i < length xs → release ≡ get_or xs i release → slice_get xs i ≡ Some release
    read [] i below at = absurd (omega arith)
    read (x ∷ xs) zero below at = ap (λ (p : Parts). Some p) (sym at)
    read (x ∷ xs) (suc i) below at = read xs i (omega arith) at

-- ---- both

-- behind those of a kind come the others
first-append : (test : ℕ → Bool) (xs ys : List ℕ) → first_that test xs ≡ None → first_that test (xs ++ ys) ≡ first_that test ys
first-append test [] ys none = refl
first-append test (x ∷ xs) ys none =
    elim (cases_Bool (test x)) [
      | inl passes ↦ (let e : Some x ≡ None = sym (cond-true (test x) (Some x) (first_that test xs) passes) ∙ none in cc)
      | inr fails ↦
          cond-false (test x) (Some x) (first_that test (xs ++ ys)) fails
          ∙ first-append test xs ys (sym (cond-false (test x) (Some x) (first_that test xs) fails) ∙ none)
    ]

-- what is found among those of a kind is found among all
found-append : (test : ℕ → Bool) (xs ys : List ℕ) (x : ℕ) → first_that test xs ≡ Some x → first_that test (xs ++ ys) ≡ Some x
found-append test [] ys x found = cc
found-append test (y ∷ xs) ys x found =
    elim (cases_Bool (test y)) [
      | inl passes ↦
          cond-true (test y) (Some y) (first_that test (xs ++ ys)) passes ∙ sym (cond-true (test y) (Some y) (first_that test xs) passes) ∙ found
      | inr fails ↦
          cond-false (test y) (Some y) (first_that test (xs ++ ys)) fails
          ∙ found-append test xs ys x (sym (cond-false (test y) (Some y) (first_that test xs) fails) ∙ found)
    ]

-- where none of a kind is found, the others are as good as all
others_found : (test kind : ℕ → Bool) (xs : List ℕ) → first_that test (filter kind xs) ≡ None
    → first_that test (filter (λ x. not (kind x)) xs) ≡ first_that test xs
others_found test kind [] none = refl
others_found test kind (x ∷ xs) none = go (others_found test kind xs) (kind x) (test x) refl none
  where
    go : (first_that test (filter kind xs) ≡ None → first_that test (filter (λ y. not (kind y)) xs) ≡ first_that test xs) → (a b : Bool) → test x ≡ b
        → first_that test (cond a (x ∷ filter kind xs) (filter kind xs)) ≡ None
        → first_that test (cond (not a) (x ∷ filter (λ y. not (kind y)) xs) (filter (λ y. not (kind y)) xs)) ≡ cond (test x) (Some x) (first_that test xs)
    go rest true true at none =
        let e : Some x ≡ None = sym (cond-true (test x) (Some x) (first_that test (filter kind xs)) at) ∙ none in
        cc
    go rest true false at none =
        rest (sym (cond-false (test x) (Some x) (first_that test (filter kind xs)) at) ∙ none) ∙ sym (cond-false (test x) (Some x) (first_that test xs) at)
    go rest false b at none = ap (cond (test x) (Some x)) (rest none)

-- no release is the pinned one where none is pinned
none_pinned : (list : List Parts) (xs : List ℕ) → filter (λ k. is_pinned None (release_at list k)) xs ≡ []
none_pinned list [] = refl
none_pinned list (x ∷ xs) = none_pinned list xs

-- the pinned one is preferred
pub prefers_pinned : (test : ℕ → Bool) (pin : Option Parts) (list : List Parts) (choice : ℕ)
    → first_that test (filter (λ k. is_pinned pin (release_at list k)) (choices_down list)) ≡ Some choice
    → first_that test (ranked_in pin list) ≡ Some choice
prefers_pinned test pin list choice found =
    found-append test (filter (λ k. is_pinned pin (release_at list k)) (choices_down list))
    (filter (λ k. not (is_pinned pin (release_at list k))) (choices_down list)) choice found

-- where it isn't left, the greatest is
pub prefers_greatest : (test : ℕ → Bool) (pin : Option Parts) (list : List Parts)
    → first_that test (filter (λ k. is_pinned pin (release_at list k)) (choices_down list)) ≡ None
    → first_that test (ranked_in pin list) ≡ first_that test (choices_down list)
prefers_greatest test pin list none =
    first-append test (filter (λ k. is_pinned pin (release_at list k)) (choices_down list))
    (filter (λ k. not (is_pinned pin (release_at list k))) (choices_down list)) none
    ∙ others_found test (λ k. is_pinned pin (release_at list k)) (choices_down list) none

-- and where there is no pin
pub prefers_unpinned : (test : ℕ → Bool) (list : List Parts) → first_that test (ranked_in None list) ≡ first_that test (choices_down list)
prefers_unpinned test list = prefers_greatest test None list (ap (first_that test) (none_pinned list (choices_down list)))
