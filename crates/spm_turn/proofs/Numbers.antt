-- Lists of numbers.
use Rattle.std.proofs.Common.{◌≡◌, ◌≢◌, ℕ, zero, suc, ◌+◌, ◌<◌, ◌≤◌, Bool, true, false, true≢false, ◌||◌, ◌==◌, List, [], ◌∷◌, ◌++◌, length, sym, refl, ap, ◌∙◌, ◌⊎◌, ⊎_elim, arith, eq-eqb}
use mathlib.Core.Logic.{dite}
use native.Mathlib.Decide.{ℕ_discrete}
use Rattle.std.specs.Prelude.{cond, not}
use Rattle.spm_turn.specs.Log.{has, numbers_from, below, without}
use Rattle.spm_turn.proofs.Booleans.{not_both, not_false, or_assoc, or_either, or_left, or_right}

-- a step of from_bound
from_step : (k m n : ℕ) (b : Bool) → (k == n) ≡ b → (b || has (numbers_from (suc k) m) n) ≡ true → (has (numbers_from (suc k) m) n ≡ true → (suc k ≤ n) × (n < suc k + m)) → (k ≤ n) × (n < k + suc m)
from_step k m n true e h less = let same : k ≡ n = grind (arith, e) in (omega arith, omega arith)
from_step k m n false e h less = let l = less h in let p : suc k ≤ n = l.0 in let q : n < suc k + m = l.1 in (omega arith, omega arith)

-- the m numbers from k on are between k and k + m
pub from_bound : (m k n : ℕ) → has (numbers_from k m) n ≡ true → (k ≤ n) × (n < k + m)
from_bound zero k n h = absurd (true≢false (sym h))
from_bound (suc m) k n h = from_step k m n (k == n) refl h (from_bound m (suc k) n)

-- the numbers below count are below count
pub are_below : (count n : ℕ) → has (below count) n ≡ true → n < count
are_below count n h = let l = (from_bound count 0 n h).1 in omega arith

-- how many numbers there are from k on
pub length-from : (m k : ℕ) → length (numbers_from k m) ≡ m
length-from zero k = refl
length-from (suc m) k = ap suc (length-from m (suc k))

-- how many numbers are below count
pub length-below : (count : ℕ) → length (below count) ≡ count
length-below count = length-from count 0

-- the first number is in its list
has_here : (m : ℕ) (ms : List ℕ) → has (m ∷ ms) m ≡ true
has_here m ms = ap (λ b. b || has ms m) (eq-eqb m m refl)

-- a list that is not empty has a number
pub some_number : (ns : List ℕ) → 0 < length ns → (n : ℕ) × (has ns n ≡ true)
some_number [] l = absurd (omega arith)
some_number (m ∷ ms) l = (m, has_here m ms)

-- a step of has_one
one_by : (n k : ℕ) (b : Bool) → (n == k) ≡ b → (b || false) ≡ true → n ≡ k
one_by n k true e h = grind (arith, e)
one_by n k false e h = absurd (true≢false (sym h))

-- a list of one number has no other
pub has_one : (n k : ℕ) → has (n ∷ []) k ≡ true → n ≡ k
has_one n k h = one_by n k (n == k) refl h

-- two lists have what either has
pub has_append : (ns ms : List ℕ) (k : ℕ) → has (ns ++ ms) k ≡ (has ns k || has ms k)
has_append [] ms k = refl
has_append (n ∷ ns) ms k = ap (λ b. (n == k) || b) (has_append ns ms k) ∙ or_assoc (n == k) (has ns k) (has ms k)

-- one of two lists has it
pub has_either : (ns ms : List ℕ) (k : ℕ) → has (ns ++ ms) k ≡ true → (has ns k ≡ true) ⊎ (has ms k ≡ true)
has_either ns ms k h = or_either (has ns k) (has ms k) (sym (has_append ns ms k) ∙ h)

-- what the first has
pub has_left : (ns ms : List ℕ) (n : ℕ) → has ns n ≡ true → has (ns ++ ms) n ≡ true
has_left ns ms n h = has_append ns ms n ∙ or_left (has ns n) (has ms n) h

-- what the second has
pub has_right : (ns ms : List ℕ) (n : ℕ) → has ms n ≡ true → has (ns ++ ms) n ≡ true
has_right ns ms n h = has_append ns ms n ∙ or_right (has ns n) (has ms n) h

-- a step of without_cons
apart_by : (n m k : ℕ) → (m == n) ≡ false → (m == k) ≡ true → n ≡ k → ⊥
apart_by n m k e x same = not_both (m == n) (ap (λ z. m == z) same ∙ x) e

-- a step of without_less
without_cons : (n m : ℕ) (ms : List ℕ) (k : ℕ) (b : Bool) → (m == n) ≡ b → (has (without n ms) k ≡ true → (has ms k ≡ true) × (n ≢ k)) → has (cond (not b) (m ∷ without n ms) (without n ms)) k ≡ true → (has (m ∷ ms) k ≡ true) × (n ≢ k)
without_cons n m ms k true e less h = let t = less h in (or_right (m == k) (has ms k) t.0, t.1)
without_cons n m ms k false e less h = ⊎_elim (λ (x : (m == k) ≡ true). (or_left (m == k) (has ms k) x, λ same. apart_by n m k e x same)) (λ (x : has (without n ms) k ≡ true). let t = less x in (or_right (m == k) (has ms k) t.0, t.1))
    (or_either (m == k) (has (without n ms) k) h)

-- what is left without n
pub without_less : (n : ℕ) (ns : List ℕ) (k : ℕ) → has (without n ns) k ≡ true → (has ns k ≡ true) × (n ≢ k)
without_less n [] k h = absurd (true≢false (sym h))
without_less n (m ∷ ms) k h = without_cons n m ms k (m == n) refl (without_less n ms k) h

-- a step of without_keeps
keeps_cons : (n m : ℕ) (ms : List ℕ) (k : ℕ) (b : Bool) → (m == n) ≡ b → (has ms k ≡ true → has (without n ms) k ≡ true) → ((m == k) || has ms k) ≡ true → n ≢ k → has (cond (not b) (m ∷ without n ms) (without n ms)) k ≡ true
keeps_cons n m ms k true e keeps h other = ⊎_elim (λ (x : (m == k) ≡ true). let p : m ≡ n = grind (arith, e) in let q : m ≡ k = grind (arith, x) in absurd (other (sym p ∙ q))) keeps (or_either (m == k) (has ms k) h)
keeps_cons n m ms k false e keeps h other = ⊎_elim (λ (x : (m == k) ≡ true). or_left (m == k) (has (without n ms) k) x) (λ (x : has ms k ≡ true). or_right (m == k) (has (without n ms) k) (keeps x)) (or_either (m == k) (has ms k) h)

-- what is not n is left
pub without_keeps : (n : ℕ) (ns : List ℕ) (k : ℕ) → has ns k ≡ true → n ≢ k → has (without n ns) k ≡ true
without_keeps n [] k h other = absurd (true≢false (sym h))
without_keeps n (m ∷ ms) k h other = keeps_cons n m ms k (m == n) refl (λ x. without_keeps n ms k x other) h other

-- a step of without_none
without_cons_none : (n m : ℕ) (ms : List ℕ) (b : Bool) → (m == n) ≡ b → b ≡ false → without n ms ≡ ms → cond (not (m == n)) (m ∷ without n ms) (without n ms) ≡ m ∷ ms
without_cons_none n m ms b is none same = ap (λ (c : Bool). cond (not c) (m ∷ without n ms) (without n ms)) (is ∙ none) ∙ ap (λ l. m ∷ l) same

-- without a number that is not there
pub without_none : (n : ℕ) (ns : List ℕ) → (has ns n ≡ true → ⊥) → without n ns ≡ ns
without_none n [] absent = refl
without_none n (m ∷ ms) absent = without_cons_none n m ms (m == n) refl (not_false (m == n) (λ e. absent (or_left (m == n) (has ms n) e))) (without_none n ms (λ h. absent (or_right (m == n) (has ms n) h)))

-- the first of a row of numbers, and the others
pub without_first : (k m : ℕ) → without k (numbers_from k (suc m)) ≡ numbers_from (suc k) m
without_first k m = ap (λ (c : Bool). cond (not c) (k ∷ without k (numbers_from (suc k) m)) (without k (numbers_from (suc k) m))) (eq-eqb k k refl)
    ∙ without_none k (numbers_from (suc k) m) (λ h. let l = (from_bound m (suc k) k h).0 in omega arith)

-- a row has its first number
pub has_first : (k m : ℕ) → has (numbers_from k (suc m)) k ≡ true
has_first k m = has_here k (numbers_from (suc k) m)

-- a row has the numbers between
has_from : (m k n : ℕ) → k ≤ n → n < k + m → has (numbers_from k m) n ≡ true
has_from zero k n low high = absurd (omega arith)
has_from (suc m) k n low high = dite (ℕ_discrete k n) (λ same. or_left (k == n) (has (numbers_from (suc k) m) n) (eq-eqb k n same))
    (λ other. or_right (k == n) (has (numbers_from (suc k) m) n) (has_from m (suc k) n (omega arith) (omega arith)))

-- the numbers below count are all of them
pub has_below : (count n : ℕ) → n < count → has (below count) n ≡ true
has_below count n l = has_from count 0 n (omega arith) (omega arith)
