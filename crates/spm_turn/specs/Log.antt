-- A log whose entries carry numbers, and what one who has some of the numbers knows of it.
use Rattle.std.specs.Prelude.{◌≡◌, ℕ, zero, suc, ◌<◌, Bool, true, false, ◌||◌, ◌==◌, List, [], ◌∷◌, ◌++◌, filter, ◌⊎◌, length, not, if◌then◌else◌, ltb, cond}

-- the number is in the list
abbrev pub has : List ℕ → ℕ → Bool
has [] n = false
has (m ∷ ms) n = (m == n) || has ms n

-- the m numbers from k on
abbrev pub numbers_from : ℕ → ℕ → List ℕ
numbers_from k zero = []
numbers_from k (suc m) = k ∷ numbers_from (suc k) m

-- the numbers below n, ascending
abbrev pub below : ℕ → List ℕ
below n = numbers_from 0 n

-- the numbers but for n
abbrev pub without : ℕ → List ℕ → List ℕ
without n numbers = filter (λ m. not (m == n)) numbers

-- no number is in both lists
abbrev pub NoneShared : List ℕ → List ℕ → Type 0
NoneShared first second = (n : ℕ) → has first n ≡ true → has second n ≡ false

-- the longer of two lists
abbrev pub longer : {E : Type 0} → List E → List E → List E
longer xs ys = (if ltb (length xs) (length ys) then ys else xs)

-- the entries that carry one of these numbers
abbrev pub of_numbers : {E : Type 0} → (E → ℕ) → List ℕ → List E → List E
of_numbers by numbers log = filter (λ e. has numbers (by e)) log

-- the log begins with what was seen
abbrev pub StartsWith : {E : Type 0} → List E → List E → Type 0
StartsWith {E} log seen = (rest : List E) × (log ≡ seen ++ rest)

-- the log begins with what was seen, and goes on with no entry of these numbers
abbrev pub OthersFollow : {E : Type 0} → (E → ℕ) → List ℕ → List E → List E → Type 0
OthersFollow {E} by numbers seen log = (rest : List E) × (log ≡ seen ++ rest) × (of_numbers by numbers rest ≡ [])

-- nothing was added, or one entry that carries one of these numbers
abbrev pub AddsAtMostOne : {E : Type 0} → (E → ℕ) → List ℕ → List E → List E → Type 0
AddsAtMostOne {E} by numbers before after = (after ≡ before) ⊎ ((e : E) × (after ≡ before ++ e ∷ []) × (has numbers (by e) ≡ true))

-- each entry carries a number below count
abbrev pub AreMarkedBelow : {E : Type 0} → (E → ℕ) → ℕ → List E → Type 0
AreMarkedBelow by count [] = Unit {0}
AreMarkedBelow by count (e ∷ es) = (by e < count) × AreMarkedBelow by count es

-- the places, counted from k, of the entries that carry one of these numbers
abbrev pub places_from : {E : Type 0} → (E → ℕ) → List ℕ → ℕ → List E → List ℕ
places_from by numbers k [] = []
places_from by numbers k (e ∷ es) = cond (has numbers (by e)) (k ∷ places_from by numbers (suc k) es) (places_from by numbers (suc k) es)

-- the places, counted from zero, of the entries that carry one of these numbers
abbrev pub places_of : {E : Type 0} → (E → ℕ) → List ℕ → List E → List ℕ
places_of by numbers log = places_from by numbers 0 log
