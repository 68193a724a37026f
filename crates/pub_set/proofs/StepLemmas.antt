-- The loops over runs: what a step of each keeps.
use Rattle.std.proofs.Common.{◌≡◌, ◌⊎◌, ℕ, ◌+◌, ◌-◌, ◌<◌, ◌≤◌, Bool, true, false, cond, not, ◌&&◌, ◌||◌, ◌==◌, ltb, nat_lt, max, min, List, [], ◌∷◌, ◌++◌, refl, length, get_or, drop, sym, ap, ap₂, ◌∙◌, subst, inl, inr, arith, append-nil, eqb-true, eq-eqb, lt-ltb, le-ltb}
use Rattle.std.specs.List.{list_all, list_any}
use Rattle.std.proofs.lemmas.Bool.{cases_Bool, cases_lt, cond-false, cond-true, false_from_ne_true, false≢true, or_cases, or_left, ltb-true}
use Rattle.std.proofs.lemmas.Bool.Decides.{nat_tests}
use Rattle.std.proofs.lemmas.List.{drop_all, drop_more}
use Rattle.std.proofs.lemmas.List.Folds.{list_all-append, list_any-append}
use Rattle.pub_set.specs.Choices.{is_among}
use Rattle.pub_set.specs.Runs.{AreBegun, AreRuns, HasRuns, gap_run, is_in, is_in_run, numbers_in, numbers_of, shared_run}
use Rattle.pub_set.specs.declared.runs.Run.{Run}
use Rattle.pub_set.proofs.AscendingLemmas.{or_false, or_right}
use Rattle.pub_set.proofs.RunLemmas.{AreBegun-raise, AreRuns-lower, AreRuns-push, AreRuns-raise, is_among-numbers_in, is_among-numbers_of}

-- ---- where the numbers of runs lie

-- a number between a run's ends lies in it
pub in_run : (run : Run) (k : ℕ) → run.first ≤ k → k ≤ run.last → is_in_run run k ≡ true
in_run run k above below = grind (arith, nat_tests)

-- what is neither less than one nor above the other lies between
run_bounds_step : (a b k : ℕ) → (not (ltb k a) && not (ltb b k)) ≡ true → (a ≤ k) × (k ≤ b)
run_bounds_step a b k here = grind (arith, nat_tests)

-- a number of a run lies between its ends
pub run_bounds : (run : Run) (k : ℕ) → is_in_run run k ≡ true → (run.first ≤ k) × (k ≤ run.last)
run_bounds run k here = run_bounds_step run.first run.last k here

-- a number of runs lies between their bounds
pub is_in-bounds : (low limit : ℕ) (runs : List Run) (k : ℕ) → AreRuns low limit runs → is_in runs k ≡ true → (low ≤ k) × (k + 2 ≤ limit)
is_in-bounds low limit [] k up here = absurd (false≢true here)
is_in-bounds low limit (run ∷ runs) k up here =
    elim (or_cases (is_in_run run k) (is_in runs k) here) [
      | inl in_first ↦ (let b = run_bounds run k in_first in (omega (arith, b.0), omega (arith, b.1)))
      | inr behind ↦ (let b = is_in-bounds (run.last + 2) limit runs k up.3 behind in (omega (arith, b.0), b.1))
    ]

-- a number outside a run, and outside those behind it
pub not_in_run : (run : Run) (k : ℕ) → (k < run.first) ⊎ (run.last < k) → is_in_run run k ≡ false
not_in_run run k outside = false_from_ne_true (is_in_run run k) (λ here. let b = run_bounds run k here in omega (arith, b.0, b.1))

-- what is less than the lower bound lies in none
pub not_in : (low limit : ℕ) (runs : List Run) (k : ℕ) → AreRuns low limit runs → k < low → is_in runs k ≡ false
not_in low limit runs k up below = false_from_ne_true (is_in runs k) (λ here. let b = is_in-bounds low limit runs k up here in omega (arith, b.0))

-- ---- tests of the numbers of a list

-- tests that agree on a list are passed alike by all
pub list_all-same : (f g : ℕ → Bool) (xs : List ℕ) → ((k : ℕ) → is_among xs k ≡ true → f k ≡ g k) → list_all f xs ≡ list_all g xs
list_all-same f g [] same = refl
list_all-same f g (x ∷ xs) same =
    ap₂ ◌&&◌ (same x (or_left (x == x) (is_among xs x) (eq-eqb x x refl)))
    (list_all-same f g xs (λ k here. same k (or_right (x == k) (is_among xs k) here)))

-- and by some
pub list_any-same : (f g : ℕ → Bool) (xs : List ℕ) → ((k : ℕ) → is_among xs k ≡ true → f k ≡ g k) → list_any f xs ≡ list_any g xs
list_any-same f g [] same = refl
list_any-same f g (x ∷ xs) same =
    ap₂ ◌||◌ (same x (or_left (x == x) (is_among xs x) (eq-eqb x x refl)))
    (list_any-same f g xs (λ k here. same k (or_right (x == k) (is_among xs k) here)))

-- every number passes a test that always holds
all_true : (xs : List ℕ) → list_all (λ k. true) xs ≡ true
all_true [] = refl
all_true (x ∷ xs) = all_true xs

-- none passes one that never does
none_true : (xs : List ℕ) → list_any (λ k. false) xs ≡ false
none_true [] = refl
none_true (x ∷ xs) = none_true xs

-- what each passes all pass
pub list_all-each : (f : ℕ → Bool) (xs : List ℕ) → ((k : ℕ) → is_among xs k ≡ true → f k ≡ true) → list_all f xs ≡ true
list_all-each f xs each = list_all-same f (λ k. true) xs each ∙ all_true xs

-- what each fails none passes
pub list_any-none : (f : ℕ → Bool) (xs : List ℕ) → ((k : ℕ) → is_among xs k ≡ true → f k ≡ false) → list_any f xs ≡ false
list_any-none f xs none = list_any-same f (λ k. false) xs none ∙ none_true xs

-- one test that fails is enough
and_false : (a b : Bool) → (a ≡ false) ⊎ (b ≡ false) → (a && b) ≡ false
and_false true b (inl e) = absurd (false≢true (sym e))
and_false true b (inr e) = e
and_false false b e = refl

-- one number that fails: not all pass
pub list_all-out : (f : ℕ → Bool) (xs : List ℕ) (k : ℕ) → is_among xs k ≡ true → f k ≡ false → list_all f xs ≡ false
list_all-out f [] k here out = absurd (false≢true here)
list_all-out f (x ∷ xs) k here out =
    and_false (f x) (list_all f xs)
    (elim (or_cases (x == k) (is_among xs k) here) [
      | inl same ↦ inl (ap f (eqb-true x k same) ∙ out)
      | inr behind ↦ inr (list_all-out f xs k behind out)
    ])

-- one that passes: some do
pub list_any-here : (f : ℕ → Bool) (xs : List ℕ) (k : ℕ) → is_among xs k ≡ true → f k ≡ true → list_any f xs ≡ true
list_any-here f [] k here passes = absurd (false≢true here)
list_any-here f (x ∷ xs) k here passes =
    elim (or_cases (x == k) (is_among xs k) here) [
      | inl same ↦ or_left (f x) (list_any f xs) (ap f (eqb-true x k same) ∙ passes)
      | inr behind ↦ or_right (f x) (list_any f xs) (list_any-here f xs k behind passes)
    ]

-- ---- the numbers that are in both

-- runs that don't meet share no number
shared_tests : (a b c d k : ℕ) → ltb (min b d) (max a c) ≡ true → false ≡ ((not (ltb k a) && not (ltb b k)) && (not (ltb k c) && not (ltb d k)))
shared_tests a b c d k none = grind (arith, nat_tests)

-- runs that meet share those from the later first to the earlier last
shared_some : (a b c d k : ℕ)
    → ((not (ltb k (max a c)) && not (ltb (min b d) k)) || false) ≡ ((not (ltb k a) && not (ltb b k)) && (not (ltb k c) && not (ltb d k)))
shared_some a b c d k = grind (arith, nat_tests)

-- the run that two share has the numbers of both
is_in-shared_run : (x y : Run) (k : ℕ) → is_in (shared_run x y) k ≡ (is_in_run x k && is_in_run y k)
is_in-shared_run x y k =
    elim (cases_Bool (nat_lt (min x.last y.last) (max x.first y.first))) [
      | inl none ↦
          ap (λ runs. is_in runs k) (cond-true (nat_lt (min x.last y.last) (max x.first y.first)) [] _ none)
          ∙ shared_tests x.first x.last y.first y.last k none
      | inr some ↦
          ap (λ runs. is_in runs k) (cond-false (nat_lt (min x.last y.last) (max x.first y.first)) [] _ some)
          ∙ shared_some x.first x.last y.first y.last k
    ]

-- what is left of both lists, and the runs so far: those behind a number of both that is left have a gap before it
pub record IsSharing (limit : ℕ) (test : ℕ → Bool) (first second runs : List Run) : Type 0 where
  pub first_ascends : AreRuns 0 limit first
  pub second_ascends : AreRuns 0 limit second
  pub ascending : AreRuns 0 limit runs
  pub apart : (k : ℕ) → is_in first k ≡ true → is_in second k ≡ true → AreRuns 0 k runs
  pub has : (k : ℕ) → (is_in runs k || (is_in first k && is_in second k)) ≡ test k

-- the first of each list dealt with, in alternatives
sharing_step : (r x xs y ys : Bool) → (x ≡ true → ys ≡ true → ⊥) → ((r || (x && y)) || (xs && (y || ys))) ≡ (r || ((x || xs) && (y || ys)))
sharing_step true x xs y ys apart = refl
sharing_step false false xs y ys apart = refl
sharing_step false true xs true ys apart = refl
sharing_step false true xs false true apart = absurd (apart refl refl)
sharing_step false true true false false apart = refl
sharing_step false true false false false apart = refl

-- what two runs share stands behind what was shared before
shared_ascends : (limit m : ℕ) (x y : Run) (runs : List Run) → (max x.first y.first ≤ min x.last y.last → AreRuns 0 (max x.first y.first) runs)
    → min x.last y.last + 2 ≤ m → AreRuns 0 m runs → AreRuns 0 m (runs ++ shared_run x y)
shared_ascends limit m x y runs apart below up =
    elim (cases_Bool (nat_lt (min x.last y.last) (max x.first y.first))) [
      | inl none ↦
          subst (λ more. AreRuns 0 m (runs ++ more)) (sym (cond-true (nat_lt (min x.last y.last) (max x.first y.first)) [] _ none))
          (subst (AreRuns 0 m) (sym (append-nil runs)) up)
      | inr some ↦
          (let ordered : max x.first y.first ≤ min x.last y.last = grind (arith, nat_tests) in
          subst (λ more. AreRuns 0 m (runs ++ more)) (sym (cond-false (nat_lt (min x.last y.last) (max x.first y.first)) [] _ some))
          (AreRuns-push 0 (max x.first y.first) m runs (record { first = max x.first y.first; last = min x.last y.last }) (apart ordered)
          (omega arith) (omega arith) ordered below))
    ]

-- the first list's run ends first
pub IsSharing-first : (limit : ℕ) (test : ℕ → Bool) (x y : Run) (xs ys runs : List Run) → IsSharing limit test (x ∷ xs) (y ∷ ys) runs → x.last ≤ y.last
    → IsSharing limit test xs (y ∷ ys) (runs ++ shared_run x y)
IsSharing-first limit test x y xs ys runs s ends =
    let at = max x.first y.first in
    let up_first = s.first_ascends in
    let up_second = s.second_ascends in
    let apart : at ≤ min x.last y.last → AreRuns 0 at runs
    = λ ordered.
    s.apart at (or_left (is_in_run x at) (is_in xs at) (in_run x at (omega arith) (omega arith)))
    (or_left (is_in_run y at) (is_in ys at) (in_run y at (omega arith) (omega arith))) in
    record {
      first_ascends = AreRuns-lower 0 (x.last + 2) limit xs (omega arith) up_first.3;
      second_ascends = up_second;
      ascending = shared_ascends limit limit x y runs apart (omega arith) s.ascending;
      apart = λ k in_first in_second.
          let b = is_in-bounds (x.last + 2) limit xs k up_first.3 in_first in
          shared_ascends limit k x y runs apart (omega arith) (s.apart k (or_right (is_in_run x k) (is_in xs k) in_first) in_second);
      has = λ k.
          ap (λ r. r || (is_in xs k && is_in (y ∷ ys) k))
          (list_any-append (λ run. is_in_run run k) runs (shared_run x y) ∙ ap (λ b. is_in runs k || b) (is_in-shared_run x y k))
          ∙ sharing_step (is_in runs k) (is_in_run x k) (is_in xs k) (is_in_run y k) (is_in ys k)
          (λ in_x behind. let a = run_bounds x k in_x in let b = is_in-bounds (y.last + 2) limit ys k up_second.3 behind in omega (arith, a.1, b.0))
          ∙ s.has k;
    }

-- tests may change places
and_comm : (a b : Bool) → (a && b) ≡ (b && a)
and_comm true true = refl
and_comm true false = refl
and_comm false true = refl
and_comm false false = refl

-- sharing is the same with the lists swapped
IsSharing-swap : (limit : ℕ) (test : ℕ → Bool) (first second runs : List Run) → IsSharing limit test first second runs → IsSharing limit test second first runs
IsSharing-swap limit test first second runs s = record {
  first_ascends = s.second_ascends;
  second_ascends = s.first_ascends;
  ascending = s.ascending;
  apart = λ k in_second in_first. s.apart k in_first in_second;
  has = λ k. ap (λ b. is_in runs k || b) (and_comm (is_in second k) (is_in first k)) ∙ s.has k;
}

-- and so is what two runs share
shared_run-swap : (x y : Run) → shared_run y x ≡ shared_run x y
shared_run-swap x y =
    let firsts : max y.first x.first ≡ max x.first y.first = omega arith in
    let lasts : min y.last x.last ≡ min x.last y.last = omega arith in
    ap₂ (λ (first last : ℕ). cond (nat_lt last first) [] (record { first = first; last = last } ∷ [])) firsts lasts

-- the second list's run ends first
pub IsSharing-second : (limit : ℕ) (test : ℕ → Bool) (x y : Run) (xs ys runs : List Run) → IsSharing limit test (x ∷ xs) (y ∷ ys) runs → y.last < x.last
    → IsSharing limit test (x ∷ xs) ys (runs ++ shared_run x y)
IsSharing-second limit test x y xs ys runs s ends =
    subst (λ more. IsSharing limit test (x ∷ xs) ys (runs ++ more)) (shared_run-swap x y)
    (IsSharing-swap limit test ys (x ∷ xs) (runs ++ shared_run y x)
    (IsSharing-first limit test y x ys xs runs (IsSharing-swap limit test (x ∷ xs) (y ∷ ys) runs s) (omega arith)))

-- one of the lists is at its end
pub HasRuns-shared : (limit : ℕ) (test : ℕ → Bool) (first second runs : List Run) → IsSharing limit test first second runs
    → (first ≡ []) ⊎ (second ≡ []) → HasRuns limit test runs
HasRuns-shared limit test first second runs s past = record {
  ascending = s.ascending;
  has = λ k.
      let none : (is_in first k && is_in second k) ≡ false
      = and_false (is_in first k) (is_in second k)
      (elim past [ inl e ↦ inl (ap (λ xs. is_in xs k) e) | inr e ↦ inr (ap (λ xs. is_in xs k) e) ]) in
      sym (or_false (is_in runs k)) ∙ ap (λ b. is_in runs k || b) (sym none) ∙ s.has k;
}

-- ---- the numbers that are in one of them

-- the runs so far begin no later than what is left
abbrev AreBefore : List Run → List Run → Type 0
AreBefore runs [] = Unit {0}
AreBefore runs (run ∷ rest) = AreBegun run.first runs

-- what is left begins no sooner
abbrev pub BeginsFrom : ℕ → List Run → Type 0
BeginsFrom first [] = Unit {0}
BeginsFrom first (run ∷ rest) = first ≤ run.first

pub record IsUniting (limit : ℕ) (test : ℕ → Bool) (first second runs : List Run) : Type 0 where
  pub first_ascends : AreRuns 0 limit first
  pub second_ascends : AreRuns 0 limit second
  pub ascending : AreRuns 0 limit runs
  pub before_first : AreBefore runs first
  pub before_second : AreBefore runs second
  pub has : (k : ℕ) → (is_in runs k || (is_in first k || is_in second k)) ≡ test k

-- what `add` says of a run that is put behind others
pub record IsAdded (old : List Run) (run : Run) (new : List Run) : Type 0 where
  pub ascending : (limit : ℕ) → AreBegun run.first old → run.first ≤ run.last → run.last + 2 ≤ limit → AreRuns 0 limit old → AreRuns 0 limit new
  pub begun : AreBegun run.first old → AreBegun run.first new
  pub has : AreBegun run.first old → run.first ≤ run.last → (k : ℕ) → is_in new k ≡ (is_in old k || is_in_run run k)

-- runs that began by a number end before what begins from it on, or meet it
before_more : (first : ℕ) (runs rest : List Run) → AreBegun first runs → BeginsFrom first rest → AreBefore runs rest
before_more first runs [] begun from = tt
before_more first runs (run ∷ rest) begun from = AreBegun-raise first run.first runs from begun

-- the rest begins from the first run on
begins_behind : (first limit : ℕ) (run : Run) (rest : List Run) → AreRuns 0 limit (run ∷ rest) → BeginsFrom run.first rest
begins_behind first limit run [] up = tt
begins_behind first limit run (next ∷ rest) up = omega arith

-- a run moved from the rest to the result
moved_one : (r x xs s : Bool) → ((r || x) || (xs || s)) ≡ (r || ((x || xs) || s))
moved_one true x xs s = refl
moved_one false true xs s = refl
moved_one false false xs s = refl

-- a run of the first list was added
pub IsUniting-first : (limit : ℕ) (test : ℕ → Bool) (x : Run) (xs second runs more : List Run) → IsUniting limit test (x ∷ xs) second runs
    → BeginsFrom x.first second → IsAdded runs x more → IsUniting limit test xs second more
IsUniting-first limit test x xs second runs more u from added =
    let up = u.first_ascends in
    let begun = added.begun u.before_first in
    record {
      first_ascends = AreRuns-lower 0 (x.last + 2) limit xs (omega arith) up.3;
      second_ascends = u.second_ascends;
      ascending = added.ascending limit u.before_first up.1 up.2 u.ascending;
      before_first = before_more x.first more xs begun (begins_behind 0 limit x xs up);
      before_second = before_more x.first more second begun from;
      has = λ k.
          ap (λ r. r || (is_in xs k || is_in second k)) (added.has u.before_first up.1 k)
          ∙ moved_one (is_in runs k) (is_in_run x k) (is_in xs k) (is_in second k) ∙ u.has k;
    }

-- alternatives may change places
or_comm : (a b : Bool) → (a || b) ≡ (b || a)
or_comm true true = refl
or_comm true false = refl
or_comm false true = refl
or_comm false false = refl

-- uniting is the same with the lists swapped
IsUniting-swap : (limit : ℕ) (test : ℕ → Bool) (first second runs : List Run) → IsUniting limit test first second runs → IsUniting limit test second first runs
IsUniting-swap limit test first second runs u = record {
  first_ascends = u.second_ascends;
  second_ascends = u.first_ascends;
  ascending = u.ascending;
  before_first = u.before_second;
  before_second = u.before_first;
  has = λ k. ap (λ b. is_in runs k || b) (or_comm (is_in second k) (is_in first k)) ∙ u.has k;
}

-- a run of the second list was added
pub IsUniting-second : (limit : ℕ) (test : ℕ → Bool) (y : Run) (first ys runs more : List Run) → IsUniting limit test first (y ∷ ys) runs
    → BeginsFrom y.first first → IsAdded runs y more → IsUniting limit test first ys more
IsUniting-second limit test y first ys runs more u from added =
    IsUniting-swap limit test ys first more
    (IsUniting-first limit test y ys first runs more (IsUniting-swap limit test first (y ∷ ys) runs u) from added)

-- both lists are at their end
pub HasRuns-united : (limit : ℕ) (test : ℕ → Bool) (first second runs : List Run) → IsUniting limit test first second runs → first ≡ [] → second ≡ []
    → HasRuns limit test runs
HasRuns-united limit test first second runs u no_first no_second = record {
  ascending = u.ascending;
  has = λ k.
      sym (or_false (is_in runs k))
      ∙ ap (λ b. is_in runs k || b) (sym (ap₂ (λ xs ys. is_in xs k || is_in ys k) no_first no_second)) ∙ u.has k;
}

-- ---- the numbers that are in none

-- the numbers before `from` are done, and what is left has those from there on
pub record IsOther (size : ℕ) (all : ℕ → Bool) (from : ℕ) (rest others : List Run) : Type 0 where
  pub rest_ascends : AreRuns from (size + 1) rest
  pub ascending : AreRuns 0 from others
  pub within : from ≤ size
  pub left : (k : ℕ) → from ≤ k → is_in rest k ≡ all k
  pub has : (k : ℕ) → is_in others k ≡ (ltb k from && not (all k))

-- a gap stands behind the gaps before it
gap_ascends : (from next limit : ℕ) (runs : List Run) → AreRuns 0 from runs → from ≤ limit → next + 1 ≤ limit → AreRuns 0 limit (runs ++ gap_run from next)
gap_ascends from next limit runs up before below =
    elim (cases_Bool (nat_lt from next)) [
      | inl some ↦
          (let less : from < next = ltb-true from next some in
          subst (λ more. AreRuns 0 limit (runs ++ more)) (sym (cond-true (nat_lt from next) _ [] some))
          (AreRuns-push 0 from limit runs (record { first = from; last = next - 1 }) up (omega arith) (omega arith) (omega arith) (omega arith)))
      | inr none ↦
          subst (λ more. AreRuns 0 limit (runs ++ more)) (sym (cond-false (nat_lt from next) _ [] none))
          (subst (AreRuns 0 limit) (sym (append-nil runs)) (AreRuns-raise 0 from limit runs before up))
    ]

-- the numbers of a gap
gap_some : (from next k : ℕ) → ltb from next ≡ true → ((not (ltb k from) && not (ltb (next - 1) k)) || false) ≡ (not (ltb k from) && ltb k next)
gap_some from next k some = grind (arith, nat_tests)

-- no gap, no numbers
gap_none : (from next k : ℕ) → ltb from next ≡ false → false ≡ (not (ltb k from) && ltb k next)
gap_none from next k none = grind (arith, nat_tests)

-- a gap has the numbers between two runs
is_in-gap_run : (from next k : ℕ) → is_in (gap_run from next) k ≡ (not (ltb k from) && ltb k next)
is_in-gap_run from next k =
    elim (cases_Bool (nat_lt from next)) [
      | inl some ↦ ap (λ runs. is_in runs k) (cond-true (nat_lt from next) _ [] some) ∙ gap_some from next k some
      | inr none ↦ ap (λ runs. is_in runs k) (cond-false (nat_lt from next) _ [] none) ∙ gap_none from next k none
    ]

-- the numbers up to the next that is left are none of all
other_step : (from next until k : ℕ) (all : Bool) → from ≤ until → next ≤ until → (from ≤ k → k < next → all ≡ false)
    → (from ≤ k → next ≤ k → k < until → all ≡ true)
    → ((ltb k from && not all) || (not (ltb k from) && ltb k next)) ≡ (ltb k until && not all)
other_step from next until k all before behind none some =
    elim (cases_lt k from) [
      | inl done ↦
          (let less : ltb k from ≡ true = lt-ltb k from done in
          let less_too : ltb k until ≡ true = lt-ltb k until (omega arith) in
          ap (λ a. (a && not all) || (not a && ltb k next)) less ∙ or_false (not all) ∙ ap (λ b. b && not all) (sym less_too))
      | inr here ↦
          (let past : ltb k from ≡ false = le-ltb k from here in
          ap (λ a. (a && not all) || (not a && ltb k next)) past
          ∙ elim (cases_lt k next) [
            | inl gap ↦
                lt-ltb k next gap
                ∙ sym (ap₂ (λ a b. a && not b) (lt-ltb k until (omega arith)) (none here gap))
            | inr over ↦
                le-ltb k next over
                ∙ elim (cases_lt k until) [
                  | inl inside ↦ sym (ap₂ (λ a b. a && not b) (lt-ltb k until inside) (some here over inside))
                  | inr behind ↦ sym (ap (λ a. a && not all) (le-ltb k until behind))
                ]
          ])
    ]

-- the gap before a run was put down
pub IsOther-next : (size : ℕ) (all : ℕ → Bool) (from : ℕ) (run : Run) (rest others : List Run) → IsOther size all from (run ∷ rest) others
    → IsOther size all (run.last + 1) rest (others ++ gap_run from run.first)
IsOther-next size all from run rest others o =
    let up = o.rest_ascends in
    record {
      rest_ascends = AreRuns-lower (run.last + 1) (run.last + 2) (size + 1) rest (omega arith) up.3;
      ascending = gap_ascends from run.first (run.last + 1) others o.ascending (omega arith) (omega arith);
      within = omega arith;
      left = λ k behind.
          ap (λ b. b || is_in rest k) (sym (not_in_run run k (inr (omega arith)))) ∙ o.left k (omega arith);
      has = λ k.
          list_any-append (λ run. is_in_run run k) others (gap_run from run.first) ∙ ap₂ ◌||◌ (o.has k) (is_in-gap_run from run.first k)
          ∙ other_step from run.first (run.last + 1) k (all k) (omega arith) (omega arith)
          (λ above below.
          sym (o.left k above)
          ∙ ap₂ ◌||◌ (not_in_run run k (inl below)) (not_in (run.last + 2) (size + 1) rest k up.3 (omega arith)))
          (λ above here below. sym (o.left k above) ∙ or_left (is_in_run run k) (is_in rest k) (in_run run k here (omega arith)));
    }

-- at the end, with the last gap, they are the opposite's runs
pub HasRuns-others : (size : ℕ) (all : ℕ → Bool) (from : ℕ) (others : List Run) → IsOther size all from [] others
    → HasRuns (size + 1) (λ k. ltb k size && not (all k)) (others ++ gap_run from size)
HasRuns-others size all from others o =
    let w = o.within in
    record {
      ascending = gap_ascends from size (size + 1) others o.ascending (omega arith) (omega arith);
      has = λ k.
          list_any-append (λ run. is_in_run run k) others (gap_run from size) ∙ ap₂ ◌||◌ (o.has k) (is_in-gap_run from size k)
          ∙ other_step from size size k (all k) (omega arith) (omega arith) (λ above below. sym (o.left k above))
          (λ above here below. absurd (omega arith));
    }

-- ---- whether the numbers are within, or some is in both

-- what is left of both lists, and the answer
pub record IsComparing (limit : ℕ) (judge : (ℕ → Bool) → List ℕ → Bool) (answer : Bool) (first second : List Run) : Type 0 where
  pub first_ascends : AreRuns 0 limit first
  pub second_ascends : AreRuns 0 limit second
  pub left : judge (is_in second) (numbers_in first) ≡ answer

-- a number of runs
among : (runs : List Run) (k : ℕ) → is_in runs k ≡ true → is_among (numbers_in runs) k ≡ true
among runs k here = is_among-numbers_in runs k ∙ here

-- the numbers from the first run on are none of a run before it
past_second : (limit : ℕ) (x y : Run) (xs ys : List Run) → AreRuns 0 limit (x ∷ xs) → y.last < x.first
    → (k : ℕ) → is_among (numbers_in (x ∷ xs)) k ≡ true → is_in ys k ≡ is_in (y ∷ ys) k
past_second limit x y xs ys up before k here =
    let b = is_in-bounds x.first limit (x ∷ xs) k (omega arith, up.1, up.2, up.3) (sym (is_among-numbers_in (x ∷ xs) k) ∙ here) in
    ap (λ b. b || is_in ys k) (sym (not_in_run y k (inr (omega (arith, b.0)))))

-- a run that ends before the first one plays no more part in it
pub IsWithin-second : (limit : ℕ) (answer : Bool) (x y : Run) (xs ys : List Run) → IsComparing limit list_all answer (x ∷ xs) (y ∷ ys) → y.last < x.first
    → IsComparing limit list_all answer (x ∷ xs) ys
IsWithin-second limit answer x y xs ys w before =
    let up = w.second_ascends in
    record {
      first_ascends = w.first_ascends;
      second_ascends = AreRuns-lower 0 (y.last + 2) limit ys (omega arith) up.3;
      left =
          list_all-same (is_in ys) (is_in (y ∷ ys)) (numbers_in (x ∷ xs)) (past_second limit x y xs ys w.first_ascends before) ∙ w.left;
    }

-- nor in whether they meet
pub IsMeeting-second : (limit : ℕ) (answer : Bool) (x y : Run) (xs ys : List Run) → IsComparing limit list_any answer (x ∷ xs) (y ∷ ys) → y.last < x.first
    → IsComparing limit list_any answer (x ∷ xs) ys
IsMeeting-second limit answer x y xs ys w before =
    let up = w.second_ascends in
    record {
      first_ascends = w.first_ascends;
      second_ascends = AreRuns-lower 0 (y.last + 2) limit ys (omega arith) up.3;
      left =
          list_any-same (is_in ys) (is_in (y ∷ ys)) (numbers_in (x ∷ xs)) (past_second limit x y xs ys w.first_ascends before) ∙ w.left;
    }

-- the numbers of a run lie between its ends
in_numbers : (x : Run) (k : ℕ) → is_among (numbers_of x) k ≡ true → (x.first ≤ k) × (k ≤ x.last)
in_numbers x k here = run_bounds x k (sym (is_among-numbers_of x k) ∙ here)

-- the first run lies within the second list's
pub IsWithin-first : (limit : ℕ) (answer : Bool) (x y : Run) (xs ys : List Run) → IsComparing limit list_all answer (x ∷ xs) (y ∷ ys) → y.first ≤ x.first
    → x.last ≤ y.last → IsComparing limit list_all answer xs (y ∷ ys)
IsWithin-first limit answer x y xs ys w begins ends =
    let up = w.first_ascends in
    let here : list_all (is_in (y ∷ ys)) (numbers_of x) ≡ true
    = list_all-each (is_in (y ∷ ys)) (numbers_of x)
    (λ k among. let b = in_numbers x k among in or_left (is_in_run y k) (is_in ys k) (in_run y k (omega (arith, b.0)) (omega (arith, b.1)))) in
    record {
      first_ascends = AreRuns-lower 0 (x.last + 2) limit xs (omega arith) up.3;
      second_ascends = w.second_ascends;
      left =
          ap (λ b. b && list_all (is_in (y ∷ ys)) (numbers_in xs)) (sym here)
          ∙ sym (list_all-append (is_in (y ∷ ys)) (numbers_of x) (numbers_in xs)) ∙ w.left;
    }

-- the first run ends before the second list's begins
pub IsMeeting-first : (limit : ℕ) (answer : Bool) (x y : Run) (xs ys : List Run) → IsComparing limit list_any answer (x ∷ xs) (y ∷ ys) → x.last < y.first
    → IsComparing limit list_any answer xs (y ∷ ys)
IsMeeting-first limit answer x y xs ys w before =
    let up = w.first_ascends in
    let up_second = w.second_ascends in
    let none : list_any (is_in (y ∷ ys)) (numbers_of x) ≡ false
    = list_any-none (is_in (y ∷ ys)) (numbers_of x)
    (λ k among.
    let b = in_numbers x k among in
    not_in y.first limit (y ∷ ys) k (omega arith, up_second.1, up_second.2, up_second.3) (omega (arith, b.1))) in
    record {
      first_ascends = AreRuns-lower 0 (x.last + 2) limit xs (omega arith) up.3;
      second_ascends = up_second;
      left =
          ap (λ b. b || list_any (is_in (y ∷ ys)) (numbers_in xs)) (sym none)
          ∙ sym (list_any-append (is_in (y ∷ ys)) (numbers_of x) (numbers_in xs)) ∙ w.left;
    }

-- a number of the first run is none of the second list's
pub not_within : (limit : ℕ) (answer : Bool) (x : Run) (xs second : List Run) (k : ℕ) → IsComparing limit list_all answer (x ∷ xs) second → x.first ≤ k → k ≤ x.last
    → is_in second k ≡ false → false ≡ answer
not_within limit answer x xs second k w above below out =
    sym (list_all-out (is_in second) (numbers_in (x ∷ xs)) k
    (among (x ∷ xs) k (or_left (is_in_run x k) (is_in xs k) (in_run x k above below))) out) ∙ w.left

-- a run that no other holds whole: not within
pub not_within_run : (limit : ℕ) (answer : Bool) (x y : Run) (xs ys : List Run) → IsComparing limit list_all answer (x ∷ xs) (y ∷ ys) → x.first ≤ y.last
    → (x.first < y.first) ⊎ (y.last < x.last) → false ≡ answer
not_within_run limit answer x y xs ys w overlap (inl before) =
    let up = w.first_ascends in
    let up_second = w.second_ascends in
    not_within limit answer x xs (y ∷ ys) x.first w (omega arith) up.1
    (not_in y.first limit (y ∷ ys) x.first (omega arith, up_second.1, up_second.2, up_second.3) before)
not_within_run limit answer x y xs ys w overlap (inr behind) =
    let up_second = w.second_ascends in
    not_within limit answer x xs (y ∷ ys) (y.last + 1) w (omega arith) (omega arith)
    (ap₂ ◌||◌ (not_in_run y (y.last + 1) (inr (omega arith))) (not_in (y.last + 2) limit ys (y.last + 1) up_second.3 (omega arith)))

-- two runs that share a number: they meet
pub do_meet_here : (limit : ℕ) (answer : Bool) (x y : Run) (xs ys : List Run) → IsComparing limit list_any answer (x ∷ xs) (y ∷ ys) → y.first ≤ x.last
    → x.first ≤ y.last → true ≡ answer
do_meet_here limit answer x y xs ys w begins ends =
    let up = w.first_ascends in
    let up_second = w.second_ascends in
    let k = max x.first y.first in
    sym (list_any-here (is_in (y ∷ ys)) (numbers_in (x ∷ xs)) k
    (among (x ∷ xs) k (or_left (is_in_run x k) (is_in xs k) (in_run x k (omega arith) (omega arith))))
    (or_left (is_in_run y k) (is_in ys k) (in_run y k (omega arith) (omega arith)))) ∙ w.left

-- one of the lists is at its end
pub never_meet : (limit : ℕ) (answer : Bool) (first second : List Run) → IsComparing limit list_any answer first second → (first ≡ []) ⊎ (second ≡ [])
    → false ≡ answer
never_meet limit answer first second w (inl e) = ap (λ xs. list_any (is_in second) (numbers_in xs)) (sym e) ∙ w.left
never_meet limit answer first second w (inr e) =
    sym (none_true (numbers_in first)) ∙ ap (λ ys. list_any (is_in ys) (numbers_in first)) (sym e) ∙ w.left

-- ---- a list from a place on

-- a run to read where there is none
abbrev pub no_run : Run
no_run = record { first = 0; last = 0 }

-- what is left of a list begins with the run at the place
pub open_run : (P : List Run → Type 0) (runs : List Run) (i : ℕ) → i < length runs → P (drop i runs) → P (get_or runs i no_run ∷ drop (i + 1) runs)
open_run P runs i within here = subst P (drop_more runs i no_run within) here

-- the run at a place, and those behind it
pub close_run : (P : List Run → Type 0) (runs : List Run) (i : ℕ) → i < length runs → P (get_or runs i no_run ∷ drop (i + 1) runs) → P (drop i runs)
close_run P runs i within here = subst P (sym (drop_more runs i no_run within)) here

-- the same of two lists
pub open_runs : (P : List Run → List Run → Type 0) (first second : List Run) (i j : ℕ) → i < length first → j < length second → P (drop i first) (drop j second)
    → P (get_or first i no_run ∷ drop (i + 1) first) (get_or second j no_run ∷ drop (j + 1) second)
open_runs P first second i j within_first within_second here =
    open_run (λ ys. P (get_or first i no_run ∷ drop (i + 1) first) ys) second j within_second
    (open_run (λ xs. P xs (drop j second)) first i within_first here)

-- the head of what is left begins no sooner than this
pub begins_from_place : (first : ℕ) (runs : List Run) (i : ℕ) → (i < length runs → first ≤ (get_or runs i no_run).first) → BeginsFrom first (drop i runs)
begins_from_place first runs i at =
    elim (cases_lt i (length runs)) [
      | inl within ↦ close_run (BeginsFrom first) runs i within (at within)
      | inr past ↦ subst (BeginsFrom first) (sym (drop_all i runs past)) tt
    ]
