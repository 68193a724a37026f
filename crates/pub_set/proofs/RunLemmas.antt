-- Runs and their numbers: what runs have, that they are told by their numbers, and how they grow.
use Rattle.std.proofs.Common.{◌≡◌, ℕ, zero, suc, ◌+◌, ◌-◌, ◌<◌, ◌≤◌, Bool, true, false, not, ◌&&◌, ◌||◌, ◌==◌, ltb, nat_lt, max, List, [], ◌∷◌, ◌++◌, refl, sym, ap, ap₂, ◌∙◌, subst, arith, eq-eqb, ne_eqb}
use Rattle.std.proofs.lemmas.Bool.{cond-false, cond-true}
use Rattle.std.proofs.lemmas.Bool.Decides.{nat_tests}
use Rattle.std.proofs.lemmas.List.Folds.{list_any-append}
use Rattle.pub_set.specs.Ascending.{IsAscending}
use Rattle.pub_set.specs.Choices.{ChoiceSet, is_among, set_where}
use Rattle.pub_set.specs.Runs.{AreBegun, AreRuns, HasRuns, is_in, is_in_run, numbers_from, numbers_in, numbers_of, runs_in, with_number}
use Rattle.pub_set.specs.declared.runs.Run.{Run}
use Rattle.pub_set.proofs.AscendingLemmas.{IsAscending-lower, ascending_is_where, or_assoc, or_false}

-- ---- the numbers of runs

-- the numbers from one on: this one and those from the next on
from_step : (first count k : ℕ) → ((first == k) || (not (ltb k (first + 1)) && ltb k (first + 1 + count))) ≡ (not (ltb k first) && ltb k (first + suc count))
from_step first count k = grind (arith, nat_tests)

-- no number at all
none_from : (first k : ℕ) → false ≡ (not (ltb k first) && ltb k (first + 0))
none_from first k = grind (arith, nat_tests)

-- so many numbers from the first on are those that are at least the first and not past so many
is_among-from : (first count k : ℕ) → is_among (numbers_from first count) k ≡ (not (ltb k first) && ltb k (first + count))
is_among-from first zero k = none_from first k
is_among-from first (suc count) k = ap (λ b. (first == k) || b) (is_among-from (first + 1) count k) ∙ from_step first count k

-- a number between two others
of_step : (a b k : ℕ) → (not (ltb k a) && ltb k (a + (b + 1 - a))) ≡ (not (ltb k a) && not (ltb b k))
of_step a b k = grind (arith, nat_tests)

-- a run's numbers are those between its ends
pub is_among-numbers_of : (run : Run) (k : ℕ) → is_among (numbers_of run) k ≡ is_in_run run k
is_among-numbers_of run k = is_among-from run.first (run.last + 1 - run.first) k ∙ of_step run.first run.last k

-- the numbers of runs are those that lie in one of them
pub is_among-numbers_in : (runs : List Run) (k : ℕ) → is_among (numbers_in runs) k ≡ is_in runs k
is_among-numbers_in [] k = refl
is_among-numbers_in (run ∷ runs) k =
    list_any-append (λ other. other == k) (numbers_of run) (numbers_in runs)
    ∙ ap₂ ◌||◌ (is_among-numbers_of run k) (is_among-numbers_in runs k)

-- ascending numbers behind ascending ones
IsAscending-append : (low middle size : ℕ) (xs ys : List ℕ) → middle ≤ size → low ≤ middle → IsAscending low middle xs → IsAscending middle size ys
    → IsAscending low size (xs ++ ys)
IsAscending-append low middle size [] ys below above up_x up_y = IsAscending-lower low middle size ys above up_y
IsAscending-append low middle size (x ∷ xs) ys below above up_x up_y =
    (up_x.0, omega arith, IsAscending-append (x + 1) middle size xs ys below (omega arith) up_x.2 up_y)

-- numbers in a row ascend
IsAscending-from : (low size first count : ℕ) → low ≤ first → first + count ≤ size → IsAscending low size (numbers_from first count)
IsAscending-from low size first zero above below = tt
IsAscending-from low size first (suc count) above below =
    (above, omega arith, IsAscending-from (first + 1) size (first + 1) count (omega arith) (omega arith))

-- the numbers of runs ascend
pub IsAscending-numbers_in : (low limit size : ℕ) (runs : List Run) → limit ≤ size + 1 → AreRuns low limit runs → IsAscending low size (numbers_in runs)
IsAscending-numbers_in low limit size [] above up = tt
IsAscending-numbers_in low limit size (run ∷ runs) above up =
    IsAscending-append low (run.last + 1) size (numbers_of run) (numbers_in runs) (omega arith) (omega arith)
    (IsAscending-from low (run.last + 1) run.first (run.last + 1 - run.first) (omega arith) (omega arith))
    (IsAscending-lower (run.last + 1) (run.last + 2) size (numbers_in runs) (omega arith)
    (IsAscending-numbers_in (run.last + 2) limit size runs above up.3))

-- a set of the numbers of runs
abbrev pub set_of : ℕ → List ℕ → ChoiceSet
set_of size members = record { size = size; members = members }

-- runs that have the numbers that pass a test make the set of those below the size that pass
pub runs_are_where : (size : ℕ) (test wanted : ℕ → Bool) (runs : List Run) → HasRuns (size + 1) test runs
    → ((k : ℕ) → k < size → test k ≡ wanted k) → set_of size (numbers_in runs) ≡ set_where size wanted
runs_are_where size test wanted runs made same =
    ap (set_of size)
    (ascending_is_where size (numbers_in runs) wanted (IsAscending-numbers_in 0 (size + 1) size runs (omega arith) made.ascending)
    (λ k below. is_among-numbers_in runs k ∙ made.has k ∙ same k below))

-- ---- the runs of ascending numbers

-- the first of these begins behind the number that follows `last`
abbrev IsApart : ℕ → List Run → Type 0
IsApart last [] = Unit {0}
IsApart last (run ∷ runs) = last + 1 < run.first

-- a number apart from the first run is a run by itself
with_number-apart : (number : ℕ) (runs : List Run) → IsApart number runs → with_number number runs ≡ record { first = number; last = number } ∷ runs
with_number-apart number [] apart = refl
with_number-apart number (run ∷ runs) apart =
    cond-false (run.first == number + 1) (record { first = number; last = run.last } ∷ runs) (record { first = number; last = number } ∷ run ∷ runs)
    (ne_eqb run.first (number + 1) (λ e. omega arith))

-- a number that touches it is joined to it
with_number-joined : (number last : ℕ) (runs : List Run)
    → with_number number (record { first = number + 1; last = last } ∷ runs) ≡ record { first = number; last = last } ∷ runs
with_number-joined number last runs =
    cond-true (number + 1 == number + 1) (record { first = number; last = last } ∷ runs)
    (record { first = number; last = number } ∷ record { first = number + 1; last = last } ∷ runs) (eq-eqb (number + 1) (number + 1) refl)

-- numbers in a row, apart from what follows, are one run
runs_in-from : (first count : ℕ) (rest : List ℕ) → IsApart (first + count) (runs_in rest)
    → runs_in (numbers_from first (suc count) ++ rest) ≡ record { first = first; last = first + count } ∷ runs_in rest
runs_in-from first zero rest apart =
    with_number-apart first (runs_in rest) (subst (λ last. IsApart last (runs_in rest)) (omega arith) apart)
    ∙ ap (λ (last : ℕ). record { first = first; last = last } ∷ runs_in rest) (omega arith)
runs_in-from first (suc count) rest apart =
    ap (with_number first) (runs_in-from (first + 1) count rest (subst (λ last. IsApart last (runs_in rest)) (omega arith) apart))
    ∙ with_number-joined first (first + 1 + count) (runs_in rest)
    ∙ ap (λ (last : ℕ). record { first = first; last = last } ∷ runs_in rest) (omega arith)

-- runs behind a gap are apart
apart_from : (last limit : ℕ) (runs : List Run) → AreRuns (last + 2) limit runs → IsApart last runs
apart_from last limit [] up = tt
apart_from last limit (run ∷ runs) up = omega arith

-- runs are those of their numbers
pub runs_in-numbers_in : (low limit : ℕ) (runs : List Run) → AreRuns low limit runs → runs_in (numbers_in runs) ≡ runs
runs_in-numbers_in low limit [] up = refl
runs_in-numbers_in low limit (run ∷ runs) up =
    let rest = runs_in-numbers_in (run.last + 2) limit runs up.3 in
    let long : run.last + 1 - run.first ≡ suc (run.last - run.first) = omega arith in
    let until : run.first + (run.last - run.first) ≡ run.last = omega arith in
    ap (λ count. runs_in (numbers_from run.first count ++ numbers_in runs)) long
    ∙ runs_in-from run.first (run.last - run.first) (numbers_in runs)
    (subst (λ last. IsApart last (runs_in (numbers_in runs))) (sym until) (subst (IsApart run.last) (sym rest) (apart_from run.last limit runs up.3)))
    ∙ ap₂ (λ (last : ℕ) others. record { first = run.first; last = last } ∷ others) until rest

-- ---- how runs grow

-- runs stand from a lower bound on too
pub AreRuns-lower : (low high limit : ℕ) (runs : List Run) → low ≤ high → AreRuns high limit runs → AreRuns low limit runs
AreRuns-lower low high limit [] below up = tt
AreRuns-lower low high limit (run ∷ runs) below up = (omega arith, up.1, up.2, up.3)

-- and below a higher limit
pub AreRuns-raise : (low limit more : ℕ) (runs : List Run) → limit ≤ more → AreRuns low limit runs → AreRuns low more runs
AreRuns-raise low limit more [] above up = tt
AreRuns-raise low limit more (run ∷ runs) above up = (up.0, up.1, omega arith, AreRuns-raise (run.last + 2) limit more runs above up.3)

-- a run behind a gap makes one more
pub AreRuns-push : (low middle limit : ℕ) (runs : List Run) (run : Run) → AreRuns low middle runs → low ≤ run.first → middle ≤ run.first
    → run.first ≤ run.last → run.last + 2 ≤ limit → AreRuns low limit (runs ++ run ∷ [])
AreRuns-push low middle limit [] run up above behind ordered below = (above, ordered, below, tt)
AreRuns-push low middle limit (head ∷ runs) run up above behind ordered below =
    (up.0, up.1, omega arith, AreRuns-push (head.last + 2) middle limit runs run up.3 (omega arith) behind ordered below)

-- what is known of a last run and those before it
record IsPopped (low limit : ℕ) (runs : List Run) (run : Run) : Type 0 where
  front : AreRuns low run.first runs
  above : low ≤ run.first
  ordered : run.first ≤ run.last
  below : run.last + 2 ≤ limit

-- without the last they are runs, and it stands behind a gap
AreRuns-pop : (low limit : ℕ) (runs : List Run) (run : Run) → AreRuns low limit (runs ++ run ∷ []) → IsPopped low limit runs run
AreRuns-pop low limit [] run up = record { front = tt; above = up.0; ordered = up.1; below = up.2 }
AreRuns-pop low limit (head ∷ runs) run up =
    let rest = AreRuns-pop (head.last + 2) limit runs run up.3 in
    record { front = (up.0, up.1, rest.above, rest.front); above = omega (arith, rest.above); ordered = rest.ordered; below = rest.below }

-- of runs that began by a number each did
AreBegun-pop : (first : ℕ) (runs : List Run) (run : Run) → AreBegun first (runs ++ run ∷ []) → AreBegun first runs × (run.first ≤ first)
AreBegun-pop first [] run begun = (tt, begun.0)
AreBegun-pop first (head ∷ runs) run begun = let rest = AreBegun-pop first runs run begun.1 in ((begun.0, rest.0), rest.1)

-- one more that began by it
AreBegun-push : (first : ℕ) (runs : List Run) (run : Run) → AreBegun first runs → run.first ≤ first → AreBegun first (runs ++ run ∷ [])
AreBegun-push first [] run begun at = (at, tt)
AreBegun-push first (head ∷ runs) run begun at = (begun.0, AreBegun-push first runs run begun.1 at)

-- and by a later number
pub AreBegun-raise : (first later : ℕ) (runs : List Run) → first ≤ later → AreBegun first runs → AreBegun later runs
AreBegun-raise first later [] above begun = tt
AreBegun-raise first later (run ∷ runs) above begun = (omega arith, AreBegun-raise first later runs above begun.1)

-- a number lies in the runs, or in the one behind
pub is_in-push : (runs : List Run) (run : Run) (k : ℕ) → is_in (runs ++ run ∷ []) k ≡ (is_in runs k || is_in_run run k)
is_in-push runs run k =
    list_any-append (λ other. is_in_run other k) runs (run ∷ []) ∙ ap (λ b. is_in runs k || b) (or_false (is_in_run run k))

-- ---- a run that is put behind others

-- behind a gap
pub apart_ascend : (limit : ℕ) (runs : List Run) (last run : Run) → nat_lt (last.last + 1) run.first ≡ true → run.first ≤ run.last → run.last + 2 ≤ limit
    → AreRuns 0 limit (runs ++ last ∷ []) → AreRuns 0 limit ((runs ++ last ∷ []) ++ run ∷ [])
apart_ascend limit runs last run apart ordered below up =
    let popped = AreRuns-pop 0 limit runs last up in
    let gap : last.last + 1 < run.first = grind (arith, nat_tests) in
    AreRuns-push 0 (last.last + 2) limit (runs ++ last ∷ []) run
    (AreRuns-push 0 last.first (last.last + 2) runs last popped.front popped.above (omega arith) popped.ordered (omega arith))
    (omega arith) (omega arith) ordered below

-- joined to the last
pub joined_ascend : (limit : ℕ) (runs : List Run) (last run : Run) → nat_lt (last.last + 1) run.first ≡ false → AreBegun run.first (runs ++ last ∷ [])
    → run.last + 2 ≤ limit → AreRuns 0 limit (runs ++ last ∷ []) → AreRuns 0 limit (runs ++ record { first = last.first; last = max last.last run.last } ∷ [])
joined_ascend limit runs last run touches begun below up =
    let popped = AreRuns-pop 0 limit runs last up in
    let o = popped.ordered in
    let b = popped.below in
    AreRuns-push 0 last.first limit runs (record { first = last.first; last = max last.last run.last }) popped.front popped.above (omega arith)
    (omega arith) (omega arith)

-- two runs that touch or overlap have the numbers of the joined one
joined_step : (a b c d k : ℕ) → ltb (b + 1) c ≡ false → a ≤ c → c ≤ d
    → (not (ltb k a) && not (ltb (max b d) k)) ≡ ((not (ltb k a) && not (ltb b k)) || (not (ltb k c) && not (ltb d k)))
joined_step a b c d k touches begun ordered = grind (arith, nat_tests)

-- so joining the last run with such a one adds just its numbers
pub joined_has : (runs : List Run) (last run : Run) (k : ℕ) → nat_lt (last.last + 1) run.first ≡ false → AreBegun run.first (runs ++ last ∷ [])
    → run.first ≤ run.last
    → is_in (runs ++ record { first = last.first; last = max last.last run.last } ∷ []) k ≡ (is_in (runs ++ last ∷ []) k || is_in_run run k)
joined_has runs last run k touches begun ordered =
    is_in-push runs (record { first = last.first; last = max last.last run.last }) k
    ∙ ap (λ b. is_in runs k || b)
    (joined_step last.first last.last run.first run.last k touches (AreBegun-pop run.first runs last begun).1 ordered)
    ∙ sym (or_assoc (is_in runs k) (is_in_run last k) (is_in_run run k)) ∙ ap (λ b. b || is_in_run run k) (sym (is_in-push runs last k))

-- a longer last run began where it did
pub joined_begun : (first : ℕ) (runs : List Run) (last : Run) (end : ℕ) → AreBegun first (runs ++ last ∷ [])
    → AreBegun first (runs ++ record { first = last.first; last = end } ∷ [])
joined_begun first runs last end begun =
    let parts = AreBegun-pop first runs last begun in
    AreBegun-push first runs (record { first = last.first; last = end }) parts.0 parts.1

-- a run apart from the last began by its first number
pub apart_begun : (first : ℕ) (runs : List Run) (run : Run) → AreBegun first runs → run.first ≤ first → AreBegun first (runs ++ run ∷ [])
apart_begun first runs run begun at = AreBegun-push first runs run begun at
