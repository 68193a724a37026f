-- The sets of a resolvent are proper: none is empty or whole.
use Rattle.std.proofs.Common.{◌≡◌, ℕ, zero, suc, ◌<◌, ◌==◌, Bool, true, false, not, ◌&&◌, ◌||◌, nat_lt, List, [], ◌∷◌, ◌++◌, length, get_or, drop, Some, refl, sym, ap, ◌∙◌, inl, inr, arith, lt-ltb, eq-eqb}
use Rattle.std.specs.List.{list_all, list_any}
use Rattle.std.proofs.lemmas.Bool.{and_from, and_parts, cases_Bool, cases_lt, cond-false, cond-true, false_from_ne_true, false≢true, not-false, or_cases, or_left, or_right}
use Rattle.std.proofs.lemmas.List.Folds.{list_all-append, list_any-append}
use Rattle.pub_set.specs.Choices.{ChoiceSet, IsSet, do_meet, has, intersection, is_among, is_empty, is_whole, numbers_below, set_where, union}
use Rattle.pub_set.proofs.AscendingLemmas.{is_among-where}
use Rattle.pub_set.proofs.SetLemmas.{has_below}
use Rattle.pub_term.specs.Resolvent.{joined, unless_whole, with_node}
use Rattle.pub_term.specs.Term.{AreProper}
use Rattle.pub_term.specs.declared.term.Term.{Term}

-- ---- tests of the numbers below a size

-- a number below one that passes: some do
any_below : (test : ℕ → Bool) (n k : ℕ) → k < n → test k ≡ true → list_any test (numbers_below n) ≡ true
any_below test zero k below passes = absurd (omega arith)
any_below test (suc n) k below passes =
    list_any-append test (numbers_below n) (n ∷ [])
    ∙ elim (cases_lt k n) [
      | inl before ↦ or_left (list_any test (numbers_below n)) (test n || false) (any_below test n k before passes)
      | inr here ↦
          (let e : n ≡ k = omega arith in
          or_right (list_any test (numbers_below n)) (test n || false) (or_left (test n) false (ap test e ∙ passes)))
    ]

-- some pass: there is one
passes_below : (test : ℕ → Bool) (n : ℕ) → list_any test (numbers_below n) ≡ true → (k : ℕ) × (k < n) × (test k ≡ true)
passes_below test zero any = absurd (false≢true any)
passes_below test (suc n) any =
    elim (or_cases (list_any test (numbers_below n)) (test n || false) (sym (list_any-append test (numbers_below n) (n ∷ [])) ∙ any)) [
      | inl before ↦ (let place = passes_below test n before in (place.0, omega (arith, place.1), place.2))
      | inr here ↦
          elim (or_cases (test n) false here) [
            | inl passes ↦ (n, omega arith, passes)
            | inr never ↦ absurd (false≢true never)
          ]
    ]

-- each passes: all do
all_below : (test : ℕ → Bool) (n : ℕ) → ((k : ℕ) → k < n → test k ≡ true) → list_all test (numbers_below n) ≡ true
all_below test zero each = refl
all_below test (suc n) each =
    list_all-append test (numbers_below n) (n ∷ [])
    ∙ and_from (list_all test (numbers_below n)) (test n && true) (all_below test n (λ k below. each k (omega arith)))
    (and_from (test n) true (each n (omega arith)) refl)

-- all pass: each does
each_below : (test : ℕ → Bool) (n k : ℕ) → list_all test (numbers_below n) ≡ true → k < n → test k ≡ true
each_below test zero k all below = absurd (omega arith)
each_below test (suc n) k all below =
    let parts = and_parts (list_all test (numbers_below n)) (test n && true) (sym (list_all-append test (numbers_below n) (n ∷ [])) ∙ all) in
    elim (cases_lt k n) [
      | inl before ↦ each_below test n k parts.0 before
      | inr here ↦ (let e : k ≡ n = omega arith in ap test e ∙ (and_parts (test n) true parts.1).0)
    ]

-- ---- what proper sets have

-- a set that isn't empty has a choice
some_choice : (set : ChoiceSet) → is_empty set ≡ false → (choice : ℕ) × (choice < set.size) × (has set choice ≡ true)
some_choice set some = passes_below (has set) set.size (not-false (list_any (has set) (numbers_below set.size)) some)

-- a set with a choice isn't empty
not_empty : (set : ChoiceSet) (choice : ℕ) → choice < set.size → has set choice ≡ true → is_empty set ≡ false
not_empty set choice below here = ap not (any_below (has set) set.size choice below here)

-- a whole set has each choice
pub has-whole : (set : ChoiceSet) (choice : ℕ) → is_whole set ≡ true → choice < set.size → has set choice ≡ true
has-whole set choice whole below = each_below (has set) set.size choice whole below

-- a choice that passes is in the set of those that do
has-where : (size choice : ℕ) (test : ℕ → Bool) → choice < size → test choice ≡ true → has (set_where size test) choice ≡ true
has-where size choice test below passes =
    is_among-where size test choice ∙ and_from (nat_lt choice size) (test choice) (lt-ltb choice size below) passes

-- and what is in it passes
pub passes-where : (size choice : ℕ) (test : ℕ → Bool) → has (set_where size test) choice ≡ true → test choice ≡ true
passes-where size choice test here = (and_parts (nat_lt choice size) (test choice) (sym (is_among-where size test choice) ∙ here)).1

-- ---- a union and an intersection

-- a union with a set that isn't empty isn't empty
union_some : (first second : ChoiceSet) → is_empty first ≡ false → is_empty (union first second) ≡ false
union_some first second some =
    let place = some_choice first some in
    not_empty (union first second) place.0 place.1
    (has-where first.size place.0 (λ k. has first k || has second k) place.1 (or_left (has first place.0) (has second place.0) place.2))

-- some number of a list passes: there is one
shared : (test : ℕ → Bool) (numbers : List ℕ) → list_any test numbers ≡ true → (k : ℕ) × (is_among numbers k ≡ true) × (test k ≡ true)
shared test [] any = absurd (false≢true any)
shared test (number ∷ numbers) any =
    elim (or_cases (test number) (list_any test numbers) any) [
      | inl here ↦ (number, or_left (number == number) (is_among numbers number) (eq-eqb number number refl), here)
      | inr behind ↦
          (let place = shared test numbers behind in
          (place.0, or_right (number == place.0) (is_among numbers place.0) place.1, place.2))
    ]

-- an intersection of sets that meet isn't empty
intersection_some : (first second : ChoiceSet) → IsSet first → do_meet first second ≡ true → is_empty (intersection first second) ≡ false
intersection_some first second set meets =
    let place = shared (has second) first.members meets in
    let below = has_below first place.0 set place.1 in
    not_empty (intersection first second) place.0 below
    (has-where first.size place.0 (λ k. has first k && has second k) below (and_from (has first place.0) (has second place.0) place.1 place.2))

-- nor is it whole where the first isn't
intersection_part : (first second : ChoiceSet) → is_whole first ≡ false → is_whole (intersection first second) ≡ false
intersection_part first second part =
    false_from_ne_true (is_whole (intersection first second))
    (λ whole.
    false≢true (sym part ∙ all_below (has first) first.size
    (λ k below.
    let both = passes-where first.size k (λ j. has first j && has second j) (has-whole (intersection first second) k whole below) in
    (and_parts (has first k) (has second k) both).0)))

-- ---- what both say of a node

-- a set that isn't empty, dropped where it is whole, makes a proper term
proper_unless_whole : (set : ChoiceSet) (node : ℕ) → is_empty set ≡ false → AreProper (with_node node (unless_whole set))
proper_unless_whole set node some =
    elim (cases_Bool (is_whole set)) [
      | inl whole ↦ rw (cond-true (is_whole set) _ _ whole) tt
      | inr part ↦ rw (cond-false (is_whole set) _ _ part) (some, part, tt)
    ]

-- so what two sets say together makes a proper term
pub AreProper-joined : (is_on : Bool) (first second : ChoiceSet) (node : ℕ) → IsSet first → is_empty first ≡ false → is_whole first ≡ false
    → (is_on ≡ false → do_meet first second ≡ true) → AreProper (with_node node (joined is_on (Some first) (Some second)))
AreProper-joined true first second node set some part meets =
    proper_unless_whole (union first second) node (union_some first second some)
AreProper-joined false first second node set some part meets =
    (intersection_some first second set (meets refl), intersection_part first second part, tt)

-- ---- lists

-- proper terms behind proper ones
pub AreProper-append : (xs ys : List Term) → AreProper xs → AreProper ys → AreProper (xs ++ ys)
AreProper-append [] ys proper_x proper_y = proper_y
AreProper-append (x ∷ xs) ys proper_x proper_y = (proper_x.0, proper_x.1, AreProper-append xs ys proper_x.2 proper_y)

-- and from any place on
pub AreProper-drop : (i : ℕ) (terms : List Term) → AreProper terms → AreProper (drop i terms)
AreProper-drop zero terms proper = proper
AreProper-drop (suc i) [] proper = tt
AreProper-drop (suc i) (term ∷ terms) proper = AreProper-drop i terms proper.2

-- and each by itself
pub AreProper-place : (terms : List Term) (i : ℕ) (term : Term) → AreProper terms → i < length terms → AreProper (get_or terms i term ∷ [])
AreProper-place [] i term proper within = absurd (omega arith)
AreProper-place (head ∷ terms) zero term proper within = (proper.0, proper.1, tt)
AreProper-place (head ∷ terms) (suc i) term proper within = AreProper-place terms i term proper.2 (omega arith)
