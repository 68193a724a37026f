-- Sets and the laws about them, from their ascending members.
use Rattle.std.proofs.Common.{◌≡◌, ℕ, zero, suc, ◌+◌, ◌<◌, ◌≤◌, Bool, true, false, cond, not, ◌&&◌, ◌||◌, ◌==◌, ltb, List, [], ◌∷◌, ◌++◌, length, refl, sym, ap, ap₂, ◌∙◌, inl, inr, subst, arith, length-append, add-zero, add_assoc, add_comm, append-nil, eq-eqb, lt-ltb, get_or}
use Rattle.std.specs.List.{Contains, filter, list_all}
use Rattle.std.proofs.lemmas.Bool.{cases_Bool, cases_eq, cond_both, cond-false, cond-true, false≢true, ne_eqb, or_cases, or_left}
use Rattle.std.proofs.lemmas.Bool.Decides.{nat_tests}
use Rattle.std.proofs.lemmas.List.Elements.{filter-append}
use Rattle.std.proofs.lemmas.List.Filters.{length-filter_both}
use Rattle.pub_set.specs.Ascending.{IsAscending}
use Rattle.pub_set.specs.Choices.{ChoiceSet, IsSet, has, intersection, is_among, is_within, numbers_below, opposite, set_where, union}
use Rattle.pub_set.specs.Runs.{AreRuns, is_in, is_in_run, runs_in, runs_of, with_number}
use Rattle.pub_set.specs.declared.runs.Run.{Run}
use Rattle.pub_set.proofs.AscendingLemmas.{IsAscending-where, ascending_is_where, is_among-bounds, is_among-where, or_assoc, or_false, or_right}
use Rattle.pub_set.proofs.RunLemmas.{AreRuns-lower, set_of}
use Rattle.pub_set.proofs.StepLemmas.{in_run, not_in, not_in_run, run_bounds}

-- ---- what a set has

-- a set's choices ascend
IsAscending-set : (set : ChoiceSet) → IsSet set → IsAscending 0 set.size set.members
IsAscending-set set is = subst (λ members. IsAscending 0 set.size members) (sym is) (IsAscending-where set.size (has set))

-- a set has no choice from its size on
pub has_below : (set : ChoiceSet) (choice : ℕ) → IsSet set → has set choice ≡ true → choice < set.size
has_below set choice is here = (is_among-bounds 0 set.size set.members choice (IsAscending-set set is) here).1

-- the choices that pass a test are a set
pub IsSet-where : (size : ℕ) (test : ℕ → Bool) → IsSet (set_where size test)
IsSet-where size test =
    ascending_is_where size (filter test (numbers_below size)) (has (set_where size test)) (IsAscending-where size test) (λ k below. refl)

-- sets of one size with the same choices are equal
pub same_sets : (first second : ChoiceSet) → IsSet first → IsSet second → first.size ≡ second.size
    → ((choice : ℕ) → choice < first.size → has first choice ≡ has second choice) → first ≡ second
same_sets first second is_first is_second sizes same =
    let members : first.members ≡ second.members
    = ascending_is_where first.size first.members (has second) (IsAscending-set first is_first) same
    ∙ ap (λ size. filter (has second) (numbers_below size)) sizes ∙ sym is_second in
    ap₂ set_of sizes members

-- an ascending list of members below the size is a set
pub IsSet-from_ascending : (set : ChoiceSet) → IsAscending 0 set.size set.members → IsSet set
IsSet-from_ascending set up = ascending_is_where set.size set.members (has set) up (λ k below. refl)

-- ---- a set's runs

-- runs with a number before them are runs
with_number-ascends : (x limit : ℕ) (runs : List Run) → x + 2 ≤ limit → AreRuns (x + 1) limit runs → AreRuns x limit (with_number x runs)
with_number-ascends x limit [] below up = (omega arith, omega arith, below, tt)
with_number-ascends x limit (run ∷ runs) below up =
    elim (cases_eq run.first (x + 1)) [
      | inl next ↦
          subst (AreRuns x limit) (sym (cond-true (run.first == x + 1) _ _ (eq-eqb run.first (x + 1) next))) (omega arith, omega arith, up.2, up.3)
      | inr apart ↦
          subst (AreRuns x limit) (sym (cond-false (run.first == x + 1) _ _ (ne_eqb run.first (x + 1) apart)))
          (omega arith, omega arith, omega arith, (omega arith, up.1, up.2, up.3))
    ]

-- the runs of ascending numbers are runs
AreRuns-runs_in : (low size : ℕ) (xs : List ℕ) → IsAscending low size xs → AreRuns low (size + 1) (runs_in xs)
AreRuns-runs_in low size [] up = tt
AreRuns-runs_in low size (x ∷ xs) up =
    AreRuns-lower low x (size + 1) (with_number x (runs_in xs)) up.0
    (with_number-ascends x (size + 1) (runs_in xs) (omega arith) (AreRuns-runs_in (x + 1) size xs up.2))

-- between a number and itself is that number
one_step : (x k : ℕ) → (not (ltb k x) && not (ltb x k)) ≡ (x == k)
one_step x k = grind (arith, nat_tests)

-- a run with the number before it
join_step : (x a b k : ℕ) → a ≡ x + 1 → a ≤ b → (not (ltb k x) && not (ltb b k)) ≡ ((x == k) || (not (ltb k a) && not (ltb b k)))
join_step x a b k next ordered = grind (arith, nat_tests)

-- a run of one number has just that
pub is_in-one : (x k : ℕ) → is_in_run (record { first = x; last = x }) k ≡ (x == k)
is_in-one x k = one_step x k

-- runs with a number before them have it beside their own
is_in-with_number : (x limit : ℕ) (runs : List Run) (k : ℕ) → AreRuns (x + 1) limit runs → is_in (with_number x runs) k ≡ ((x == k) || is_in runs k)
is_in-with_number x limit [] k up = ap (λ b. b || false) (is_in-one x k)
is_in-with_number x limit (run ∷ runs) k up =
    elim (cases_eq run.first (x + 1)) [
      | inl next ↦
          ap (λ rs. is_in rs k) (cond-true (run.first == x + 1) _ _ (eq-eqb run.first (x + 1) next))
          ∙ ap (λ b. b || is_in runs k) (join_step x run.first run.last k next up.1)
          ∙ or_assoc (x == k) (is_in_run run k) (is_in runs k)
      | inr apart ↦
          ap (λ rs. is_in rs k) (cond-false (run.first == x + 1) _ _ (ne_eqb run.first (x + 1) apart))
          ∙ ap (λ b. b || is_in (run ∷ runs) k) (is_in-one x k)
    ]

-- the runs of ascending numbers have just these
is_in-runs_in : (low size : ℕ) (xs : List ℕ) (k : ℕ) → IsAscending low size xs → is_in (runs_in xs) k ≡ is_among xs k
is_in-runs_in low size [] k up = refl
is_in-runs_in low size (x ∷ xs) k up =
    is_in-with_number x (size + 1) (runs_in xs) k (AreRuns-runs_in (x + 1) size xs up.2)
    ∙ ap (λ b. (x == k) || b) (is_in-runs_in (x + 1) size xs k up.2)

-- a set's runs are runs
pub AreRuns-runs_of : (set : ChoiceSet) → IsSet set → AreRuns 0 (set.size + 1) (runs_of set)
AreRuns-runs_of set is = AreRuns-runs_in 0 set.size set.members (IsAscending-set set is)

-- and have its choices
is_in-runs_of : (set : ChoiceSet) (k : ℕ) → IsSet set → is_in (runs_of set) k ≡ has set k
is_in-runs_of set k is = is_in-runs_in 0 set.size set.members k (IsAscending-set set is)

-- the run at a place
filled_at : (runs : List Run) (i : ℕ) (run : Run) (k : ℕ) → i < length runs → get_or runs i run ≡ run → run.first ≤ k → k ≤ run.last → is_in runs k ≡ true
filled_at [] i run k within at above below = absurd (omega arith)
filled_at (head ∷ runs) zero run k within at above below =
    or_left (is_in_run head k) (is_in runs k) (ap (λ r. is_in_run r k) at ∙ in_run run k above below)
filled_at (head ∷ runs) (suc i) run k within at above below =
    or_right (is_in_run head k) (is_in runs k) (filled_at runs i run k (omega arith) at above below)

-- each run begins from the lower bound on
first_at : (low limit : ℕ) (runs : List Run) (i : ℕ) (run : Run) → AreRuns low limit runs → i < length runs → get_or runs i run ≡ run
    → (low ≤ run.first) × (run.first ≤ run.last)
first_at low limit [] i run up within at = absurd (omega arith)
first_at low limit (head ∷ runs) zero run up within at = subst (λ (r : Run). (low ≤ r.first) × (r.first ≤ r.last)) at (up.0, up.1)
first_at low limit (head ∷ runs) (suc i) run up within at =
    let rest = first_at (head.last + 2) limit runs i run up.3 (omega arith) at in (omega (arith, rest.0), rest.1)

-- the number before a run, and the one behind it
none_before : (low limit : ℕ) (runs : List Run) (i : ℕ) (run : Run) (k : ℕ) → AreRuns low limit runs → i < length runs → get_or runs i run ≡ run
    → k + 1 ≡ run.first → is_in runs k ≡ false
none_before low limit [] i run k up within at next = absurd (omega arith)
none_before low limit (head ∷ runs) zero run k up within at next =
    let first : head.first ≡ run.first = ap (λ (r : Run). r.first) at in
    ap₂ ◌||◌ (not_in_run head k (inl (omega arith))) (not_in (head.last + 2) limit runs k up.3 (omega arith))
none_before low limit (head ∷ runs) (suc i) run k up within at next =
    let rest = first_at (head.last + 2) limit runs i run up.3 (omega arith) at in
    ap₂ ◌||◌ (not_in_run head k (inr (omega (arith, rest.0)))) (none_before (head.last + 2) limit runs i run k up.3 (omega arith) at next)

-- nothing lies just behind a run
none_behind : (low limit : ℕ) (runs : List Run) (i : ℕ) (run : Run) → AreRuns low limit runs → i < length runs → get_or runs i run ≡ run
    → is_in runs (run.last + 1) ≡ false
none_behind low limit [] i run up within at = absurd (omega arith)
none_behind low limit (head ∷ runs) zero run up within at =
    let last : head.last ≡ run.last = ap (λ (r : Run). r.last) at in
    ap₂ ◌||◌ (not_in_run head (run.last + 1) (inr (omega arith))) (not_in (head.last + 2) limit runs (run.last + 1) up.3 (omega arith))
none_behind low limit (head ∷ runs) (suc i) run up within at =
    let rest = first_at (head.last + 2) limit runs i run up.3 (omega arith) at in
    ap₂ ◌||◌ (not_in_run head (run.last + 1) (inr (omega (arith, rest.0, rest.1)))) (none_behind (head.last + 2) limit runs i run up.3 (omega arith) at)

-- a run that has the number
abbrev pub IsCovered : List Run → ℕ → Type 0
IsCovered runs k = (run : Run) × Contains runs run × (run.first ≤ k) × (k ≤ run.last)

-- what lies in runs lies in one of them
covered_at : (runs : List Run) (k : ℕ) → is_in runs k ≡ true → IsCovered runs k
covered_at [] k here = absurd (false≢true here)
covered_at (run ∷ runs) k here =
    elim (or_cases (is_in_run run k) (is_in runs k) here) [
      | inl in_first ↦ (let b = run_bounds run k in_first in (run, (0, omega arith, refl), b.0, b.1))
      | inr behind ↦ (let c = covered_at runs k behind in (c.0, (suc c.1.0, omega (arith, c.1.1), c.1.2), c.2, c.3))
    ]

-- each number of a run is a choice of the set
pub run_is_filled : (set : ChoiceSet) (run : Run) (choice : ℕ) → IsSet set → Contains (runs_of set) run → run.first ≤ choice → choice ≤ run.last → has set choice ≡ true
run_is_filled set run choice is there above below =
    sym (is_in-runs_of set choice is) ∙ filled_at (runs_of set) there.0 run choice there.1 there.2 above below

-- the number before a run isn't
pub run_has_none_before : (set : ChoiceSet) (run : Run) (choice : ℕ) → IsSet set → Contains (runs_of set) run → choice + 1 ≡ run.first → has set choice ≡ false
run_has_none_before set run choice is there next =
    sym (is_in-runs_of set choice is) ∙ none_before 0 (set.size + 1) (runs_of set) there.0 run choice (AreRuns-runs_of set is) there.1 there.2 next

-- nor is the number behind it
pub run_has_none_behind : (set : ChoiceSet) (run : Run) → IsSet set → Contains (runs_of set) run → has set (run.last + 1) ≡ false
run_has_none_behind set run is there =
    sym (is_in-runs_of set (run.last + 1) is) ∙ none_behind 0 (set.size + 1) (runs_of set) there.0 run (AreRuns-runs_of set is) there.1 there.2

-- each choice lies in a run
pub choice_is_covered : (set : ChoiceSet) (choice : ℕ) → IsSet set → has set choice ≡ true → IsCovered (runs_of set) choice
choice_is_covered set choice is here = covered_at (runs_of set) choice (is_in-runs_of set choice is ∙ here)

-- ---- how many runs

-- the number before passes
abbrev passed_before : (ℕ → Bool) → ℕ → Bool
passed_before test zero = false
passed_before test (suc n) = test n

-- a run begins at this number
abbrev begins : (ℕ → Bool) → ℕ → ℕ
begins test n = cond (test n && not (passed_before test n)) 1 0

-- how many runs begin below a number
abbrev starts : (ℕ → Bool) → ℕ → ℕ
starts test zero = 0
starts test (suc n) = starts test n + begins test n

-- a number before the first run makes a run more, unless it touches that
joined_length : (x y last : ℕ) (runs : List Run)
    → length (with_number x (record { first = y; last = last } ∷ runs)) ≡ cond (y == x + 1) 0 1 + length (record { first = y; last = last } ∷ runs)
joined_length x y last runs =
    elim (cases_Bool (y == x + 1)) [
      | inl next ↦
          ap length (cond-true (y == x + 1) (record { first = x; last = last } ∷ runs) _ next)
          ∙ sym (ap (λ (b : Bool). cond b 0 1 + suc (length runs)) next ∙ omega arith)
      | inr apart ↦
          ap length (cond-false (y == x + 1) (record { first = x; last = last } ∷ runs) _ apart)
          ∙ sym (ap (λ (b : Bool). cond b 0 1 + suc (length runs)) apart ∙ omega arith)
    ]

-- the same before another number's runs
join_length : (x y : ℕ) (runs : List Run) → length (with_number x (with_number y runs)) ≡ cond (y == x + 1) 0 1 + length (with_number y runs)
join_length x y [] = joined_length x y y []
join_length x y (run ∷ runs) =
    cond_both (run.first == y + 1) (record { first = y; last = run.last } ∷ runs) (record { first = y; last = y } ∷ run ∷ runs)
    (λ rs. length (with_number x rs) ≡ cond (y == x + 1) 0 1 + length rs)
    (λ _. joined_length x y run.last runs) (λ _. joined_length x y y (run ∷ runs))

-- one more number behind ascending ones begins a run, unless the one before it is there
next_step : (x m : ℕ) → x ≤ m → ◌≡◌ {A = ℕ} (cond (suc m == x + 1) 0 1) (cond (x == m) 0 1)
next_step x m below = grind (arith, nat_tests)

-- a number behind makes a run more, unless the one before it is there
length-push : (low m : ℕ) (xs : List ℕ) → IsAscending low (suc m) xs
    → length (runs_in (xs ++ suc m ∷ [])) ≡ length (runs_in xs) + cond (is_among xs m) 0 1
length-push low m [] up = refl
length-push low m (x ∷ []) up =
    join_length x (suc m) [] ∙ ap (λ n. n + 1) (next_step x m (omega arith)) ∙ add_comm (cond (x == m) 0 1) 1
    ∙ ap (λ (b : Bool). 1 + cond b 0 1) (sym (or_false (x == m)))
length-push low m (x ∷ y ∷ ys) up =
    let behind = up.2 in
    let apart : (x == m) ≡ false = ne_eqb x m (λ e. omega (arith, behind.0, behind.1)) in
    join_length x y (runs_in (ys ++ suc m ∷ []))
    ∙ ap (λ n. cond (y == x + 1) 0 1 + n) (length-push (x + 1) m (y ∷ ys) up.2)
    ∙ sym (add_assoc (cond (y == x + 1) 0 1) (length (runs_in (y ∷ ys))) (cond (is_among (y ∷ ys) m) 0 1))
    ∙ ap₂ (λ n (b : Bool). n + cond (b || is_among (y ∷ ys) m) 0 1) (sym (join_length x y (runs_in ys))) (sym apart)

-- a run begins where a number passes and the one before doesn't
starts_step : (here before : Bool) (n : ℕ) → n + cond before 0 1 ≡ n + cond (true && not before) 1 0
starts_step here true n = refl
starts_step here false n = refl

-- one more number, by that
length-next : (test : ℕ → Bool) (n : ℕ)
    → length (runs_in (filter test (numbers_below n) ++ n ∷ [])) ≡ length (runs_in (filter test (numbers_below n))) + cond (passed_before test n) 0 1
length-next test zero = refl
length-next test (suc m) =
    length-push 0 m (filter test (numbers_below (suc m))) (IsAscending-where (suc m) test)
    ∙ ap (λ (b : Bool). length (runs_in (filter test (numbers_below (suc m)))) + cond b 0 1)
    (is_among-where (suc m) test m ∙ ap (λ b. b && test m) (lt-ltb m (suc m) (omega arith)))

-- the runs of the numbers that pass are those that begin
length-runs_in : (test : ℕ → Bool) (n : ℕ) → length (runs_in (filter test (numbers_below n))) ≡ starts test n
length-runs_in test zero = refl
length-runs_in test (suc n) =
    ap (λ xs. length (runs_in xs)) (filter-append test (numbers_below n) (n ∷ []))
    ∙ elim (cases_Bool (test n)) [
      | inl passes ↦
          ap (λ (b : Bool). length (runs_in (filter test (numbers_below n) ++ cond b (n ∷ []) []))) passes ∙ length-next test n
          ∙ ap (λ m. m + cond (passed_before test n) 0 1) (length-runs_in test n)
          ∙ starts_step true (passed_before test n) (starts test n)
          ∙ ap (λ (b : Bool). starts test n + cond (b && not (passed_before test n)) 1 0) (sym passes)
      | inr fails ↦
          ap (λ (b : Bool). length (runs_in (filter test (numbers_below n) ++ cond b (n ∷ []) []))) fails
          ∙ ap (λ xs. length (runs_in xs)) (append-nil (filter test (numbers_below n))) ∙ length-runs_in test n
          ∙ sym (add-zero (starts test n))
          ∙ ap (λ (b : Bool). starts test n + cond (b && not (passed_before test n)) 1 0) (sym fails)
    ]

-- an intersection, a union and an opposite begin where a set begins or ends
both_begin : (f g pf pg : Bool) → cond ((f && g) && not (pf && pg)) 1 0 ≤ cond (f && not pf) 1 0 + cond (g && not pg) 1 0
both_begin true true true true = omega arith
both_begin true true true false = omega arith
both_begin true true false pg = omega arith
both_begin true false pf pg = omega arith
both_begin false g pf pg = omega arith

-- where a run of either begins, one of the two does
either_begins : (f g pf pg : Bool) → cond ((f || g) && not (pf || pg)) 1 0 ≤ cond (f && not pf) 1 0 + cond (g && not pg) 1 0
either_begins true g true pg = omega arith
either_begins true g false true = omega arith
either_begins true g false false = omega arith
either_begins false true true pg = omega arith
either_begins false true false true = omega arith
either_begins false true false false = omega arith
either_begins false false pf pg = omega arith

-- the number before passed both tests
passed_and : (f g : ℕ → Bool) (n : ℕ) → passed_before (λ k. f k && g k) n ≡ (passed_before f n && passed_before g n)
passed_and f g zero = refl
passed_and f g (suc n) = refl

-- or one of them
passed_or : (f g : ℕ → Bool) (n : ℕ) → passed_before (λ k. f k || g k) n ≡ (passed_before f n || passed_before g n)
passed_or f g zero = refl
passed_or f g (suc n) = refl

-- where runs of both begin, no more than of each together
starts-both : (f g : ℕ → Bool) (n : ℕ) → starts (λ k. f k && g k) n ≤ starts f n + starts g n
starts-both f g zero = omega arith
starts-both f g (suc n) =
    let rest = starts-both f g n in
    let here : begins (λ k. f k && g k) n ≤ begins f n + begins g n
    = subst (λ (p : Bool). cond ((f n && g n) && not p) 1 0 ≤ begins f n + begins g n) (sym (passed_and f g n))
    (both_begin (f n) (g n) (passed_before f n) (passed_before g n)) in
    omega arith

-- and so of one of the two
starts-either : (f g : ℕ → Bool) (n : ℕ) → starts (λ k. f k || g k) n ≤ starts f n + starts g n
starts-either f g zero = omega arith
starts-either f g (suc n) =
    let rest = starts-either f g n in
    let here : begins (λ k. f k || g k) n ≤ begins f n + begins g n
    = subst (λ (p : Bool). cond ((f n || g n) && not p) 1 0 ≤ begins f n + begins g n) (sym (passed_or f g n))
    (either_begins (f n) (g n) (passed_before f n) (passed_before g n)) in
    omega arith

-- at 0 the opposite begins where the set doesn't
first_begins : (b : Bool) → cond (not b && true) 1 0 ≤ cond (b && true) 1 0 + cond b 0 1
first_begins true = omega arith
first_begins false = omega arith

-- and further on where a run of the set ended
other_begins : (b p : Bool) (m n : ℕ) → m ≤ n + cond p 0 1 → m + cond (not b && not (not p)) 1 0 ≤ n + cond (b && not p) 1 0 + cond b 0 1
other_begins true true m n few = omega arith
other_begins true false m n few = omega arith
other_begins false true m n few = omega arith
other_begins false false m n few = omega arith

-- one more run may begin, unless the last number passes
starts-not : (f : ℕ → Bool) (n : ℕ) → starts (λ k. not (f k)) (suc n) ≤ starts f (suc n) + cond (f n) 0 1
starts-not f zero = omega (arith, first_begins (f 0))
starts-not f (suc n) =
    other_begins (f (suc n)) (f n) (starts (λ k. not (f k)) (suc n)) (starts f (suc n)) (starts-not f n)

-- so it has at most one run more
few_others : (f : ℕ → Bool) (n : ℕ) → starts (λ k. not (f k)) n ≤ starts f n + 1
few_others f zero = omega arith
few_others f (suc n) =
    let few = starts-not f n in
    cond_both (f n) 0 1 (λ more. starts (λ k. not (f k)) (suc n) ≤ starts f (suc n) + more → starts (λ k. not (f k)) (suc n) ≤ starts f (suc n) + 1)
    (λ _ h. omega arith) (λ _ h. h) few

-- a set has as many runs as begin in it
length-runs_of : (set : ChoiceSet) → IsSet set → length (runs_of set) ≡ starts (has set) set.size
length-runs_of set is = ap (λ members. length (runs_in members)) is ∙ length-runs_in (has set) set.size

-- an intersection has at most as many runs as both sets
pub few_in_intersection : (a b : ChoiceSet) → IsSet a → IsSet b → a.size ≡ b.size
    → length (runs_of (intersection a b)) ≤ length (runs_of a) + length (runs_of b)
few_in_intersection a b is_a is_b sizes =
    let few = starts-both (has a) (has b) a.size in
    let long = length-runs_in (λ k. has a k && has b k) a.size in
    let long_a = length-runs_of a is_a in
    let long_b : length (runs_of b) ≡ starts (has b) a.size = length-runs_of b is_b ∙ ap (starts (has b)) (sym sizes) in
    omega arith

-- and so has a union
pub few_in_union : (a b : ChoiceSet) → IsSet a → IsSet b → a.size ≡ b.size → length (runs_of (union a b)) ≤ length (runs_of a) + length (runs_of b)
few_in_union a b is_a is_b sizes =
    let few = starts-either (has a) (has b) a.size in
    let long = length-runs_in (λ k. has a k || has b k) a.size in
    let long_a = length-runs_of a is_a in
    let long_b : length (runs_of b) ≡ starts (has b) a.size = length-runs_of b is_b ∙ ap (starts (has b)) (sym sizes) in
    omega arith

-- an opposite has at most one more
pub few_in_opposite : (a : ChoiceSet) → IsSet a → length (runs_of (opposite a)) ≤ length (runs_of a) + 1
few_in_opposite a is =
    let few = few_others (has a) a.size in
    let long = length-runs_in (λ k. not (has a k)) a.size in
    let long_a = length-runs_of a is in
    omega arith

-- ---- how many choices

-- as many numbers are below one as it says
length-numbers_below : (n : ℕ) → length (numbers_below n) ≡ n
length-numbers_below zero = refl
length-numbers_below (suc n) = omega (arith, length-append (numbers_below n) (n ∷ []), length-numbers_below n)

-- a set and its opposite have all choices together
pub opposite_is_counted : (set : ChoiceSet) → IsSet set → length set.members + length (opposite set).members ≡ set.size
opposite_is_counted set is =
    ap (λ members. length members + length (opposite set).members) is
    ∙ length-filter_both (has set) (λ k. not (has set k)) (λ k. refl) (numbers_below set.size) ∙ length-numbers_below set.size

-- two filters in a row are one by both tests
filter-filter : (f g : ℕ → Bool) (xs : List ℕ) → filter g (filter f xs) ≡ filter (λ k. f k && g k) xs
filter-filter f g [] = refl
filter-filter f g (x ∷ xs) =
    elim (cases_Bool (f x)) [
      | inl passes ↦
          ap (filter g) (cond-true (f x) (x ∷ filter f xs) (filter f xs) passes)
          ∙ ap (λ rest. cond (g x) (x ∷ rest) rest) (filter-filter f g xs)
          ∙ ap (λ b. cond (b && g x) (x ∷ filter (λ k. f k && g k) xs) (filter (λ k. f k && g k) xs)) (sym passes)
      | inr fails ↦
          ap (filter g) (cond-false (f x) (x ∷ filter f xs) (filter f xs) fails) ∙ filter-filter f g xs
          ∙ ap (λ b. cond (b && g x) (x ∷ filter (λ k. f k && g k) xs) (filter (λ k. f k && g k) xs)) (sym fails)
    ]

-- tests that agree on a list filter it alike
filter-same : (f g : ℕ → Bool) (xs : List ℕ) → ((k : ℕ) → is_among xs k ≡ true → f k ≡ g k) → filter f xs ≡ filter g xs
filter-same f g [] same = refl
filter-same f g (x ∷ xs) same =
    ap₂ (λ b rest. cond b (x ∷ rest) rest) (same x (or_left (x == x) (is_among xs x) (eq-eqb x x refl)))
    (filter-same f g xs (λ k here. same k (or_right (x == k) (is_among xs k) here)))

-- the choices of an intersection are those of the first set that the second has
members_of_intersection : (a b : ChoiceSet) → IsSet a → (intersection a b).members ≡ filter (has b) a.members
members_of_intersection a b is =
    sym (ap (filter (has b)) is ∙ filter-filter (has a) (has b) (numbers_below a.size))

-- the opposite has the choices that the set lacks
has-opposite : (a b : ChoiceSet) (k : ℕ) → IsSet a → a.size ≡ b.size → has a k ≡ true → has (opposite b) k ≡ not (has b k)
has-opposite a b k is sizes here =
    let below = has_below a k is here in
    is_among-where b.size (λ j. not (has b j)) k ∙ ap (λ t. t && not (has b k)) (lt-ltb k b.size (omega arith))

-- the parts inside and outside another set are the whole set
pub parts_are_counted : (a b : ChoiceSet) → IsSet a → IsSet b → a.size ≡ b.size
    → length (intersection a b).members + length (intersection a (opposite b)).members ≡ length a.members
parts_are_counted a b is_a is_b sizes =
    ap₂ (λ xs ys. length xs + length ys) (members_of_intersection a b is_a)
    (members_of_intersection a (opposite b) is_a
    ∙ filter-same (has (opposite b)) (λ k. not (has b k)) a.members (λ k here. has-opposite a b k is_a sizes here))
    ∙ length-filter_both (has b) (λ k. not (has b k)) (λ k. refl) a.members

-- a filtered list isn't longer
length-filter_le : (test : ℕ → Bool) (ys : List ℕ) → length (filter test ys) ≤ length ys
length-filter_le test [] = omega arith
length-filter_le test (y ∷ ys) =
    let rest = length-filter_le test ys in
    cond_both (test y) (y ∷ filter test ys) (filter test ys) (λ kept. length kept ≤ suc (length ys)) (λ _. omega arith) (λ _. omega arith)

-- where one number fails fewer pass
fewer_pass : (test : ℕ → Bool) (ys : List ℕ) → list_all test ys ≡ false → length (filter test ys) < length ys
fewer_pass test [] some = absurd (false≢true (sym some))
fewer_pass test (y ∷ ys) some =
    let rest = length-filter_le test ys in
    elim (cases_Bool (test y)) [
      | inl passes ↦
          (let fewer = fewer_pass test ys (ap (λ b. b && list_all test ys) (sym passes) ∙ some) in
          subst (λ kept. length kept < suc (length ys)) (sym (cond-true (test y) (y ∷ filter test ys) (filter test ys) passes)) (omega arith))
      | inr fails ↦
          subst (λ kept. length kept < suc (length ys)) (sym (cond-false (test y) (y ∷ filter test ys) (filter test ys) fails)) (omega arith)
    ]

-- so a set has fewer choices in common with one that doesn't hold it
pub fewer_in_intersection : (a b : ChoiceSet) → IsSet a → IsSet b → a.size ≡ b.size → is_within a b ≡ false
    → length (intersection a b).members < length a.members
fewer_in_intersection a b is_a is_b sizes outside =
    subst (λ members. length members < length a.members) (sym (members_of_intersection a b is_a)) (fewer_pass (has b) a.members outside)
