-- Runs of choices: a set's maximal runs, and what a set keeps in place of its members.
use Rattle.std.specs.Prelude.{◌≡◌, ℕ, ◌+◌, ◌-◌, ◌≤◌, ◌==◌, ◌&&◌, zero, suc, List, [], ◌∷◌, ◌++◌, Bool, not, max, min, nat_lt, if◌then◌else◌}
use Rattle.std.specs.List.{list_any}
use Rattle.std.specs.declared.cmp.Ordering.{Ordering}
use Rattle.std.specs.declared.cmp.Ordering.TheVariants.{Less, Equal, Greater}
use Rattle.pub_set.specs.Choices.{ChoiceSet}
use Rattle.pub_set.specs.declared.runs.Run.{Run}

-- ---- the maximal runs of a set, by its members

-- a number joins the run behind it if that run's first is one more, else it is a run of its own
abbrev pub with_number : ℕ → List Run → List Run
with_number number [] = record { first = number; last = number } ∷ []
with_number number (run ∷ runs) = if run.first == number + 1 then record { first = number; last = run.last } ∷ runs
    else record { first = number; last = number } ∷ run ∷ runs

-- the runs of ascending numbers
abbrev pub runs_in : List ℕ → List Run
runs_in [] = []
runs_in (number ∷ numbers) = with_number number (runs_in numbers)

abbrev pub runs_of : ChoiceSet → List Run
runs_of set = runs_in set.members

-- ---- runs, and their numbers

-- the first run begins at `low` or later, there is a gap between two neighbours, and `limit` is no number of the last one's, nor
-- the next behind it
abbrev pub AreRuns : ℕ → ℕ → List Run → Type 0
AreRuns low limit [] = Unit {0}
AreRuns low limit (run ∷ runs) = (low ≤ run.first) × (run.first ≤ run.last) × (run.last + 2 ≤ limit) × AreRuns (run.last + 2) limit runs

-- so many numbers from the first on
abbrev pub numbers_from : ℕ → ℕ → List ℕ
numbers_from first zero = []
numbers_from first (suc count) = first ∷ numbers_from (first + 1) count

abbrev pub numbers_of : Run → List ℕ
numbers_of run = numbers_from run.first (run.last + 1 - run.first)

abbrev pub numbers_in : List Run → List ℕ
numbers_in [] = []
numbers_in (run ∷ runs) = numbers_of run ++ numbers_in runs

-- the number lies in the run, and in one of these
abbrev pub is_in_run : Run → ℕ → Bool
is_in_run run number = not (nat_lt number run.first) && not (nat_lt run.last number)

abbrev pub is_in : List Run → ℕ → Bool
is_in runs number = list_any (λ run. is_in_run run number) runs

-- where a run stands by a number: before it, behind it, or it has it
abbrev pub run_cmp : ℕ → Run → Ordering
run_cmp number run = if nat_lt run.last number then Less else if nat_lt number run.first then Greater else Equal

-- each of these begins at `first` or sooner
abbrev pub AreBegun : ℕ → List Run → Type 0
AreBegun first [] = Unit {0}
AreBegun first (run ∷ runs) = (run.first ≤ first) × AreBegun first runs

-- the run of the numbers that are in both, where there is one
abbrev pub shared_run : Run → Run → List Run
shared_run x y = if nat_lt (min x.last y.last) (max x.first y.first) then []
    else record { first = max x.first y.first; last = min x.last y.last } ∷ []

-- the run from a number until the next, where there is one
abbrev pub gap_run : ℕ → ℕ → List Run
gap_run from next = if nat_lt from next then record { first = from; last = next - 1 } ∷ [] else []

-- runs before a limit that have just the numbers that pass a test
pub record HasRuns (limit : ℕ) (test : ℕ → Bool) (runs : List Run) : Type 0 where
  pub ascending : AreRuns 0 limit runs
  pub has : (number : ℕ) → is_in runs number ≡ test number
