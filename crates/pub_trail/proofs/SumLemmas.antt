-- Sums over nodes: choices that are left, and nodes that are decided.
use Rattle.std.proofs.Common.{◌≡◌, ℕ, zero, suc, ◌+◌, ◌<◌, ◌≤◌, ◌==◌, Bool, true, false, not, ◌&&◌, ◌||◌, cond, List, [], ◌∷◌, ◌++◌, length, slice_index, slice_index_or, refl, sym, ap, ◌∙◌, subst, inl, inr, arith, eq-eqb}
use Rattle.std.specs.List.{filter}
use Rattle.std.proofs.lemmas.Bool.{cases_Bool, cases_lt, cond-false, cond-true, false≢true, false_from_ne_true, or_left, or_right}
use Rattle.pub_set.specs.Choices.{has, numbers_below}
use Rattle.pub_term.specs.declared.term.Term.{Term}
use Rattle.pub_trail.specs.Invariant.{AreFormed, IsDerived, IsFormed, IsReason, IsTrail}
use Rattle.pub_trail.specs.Measure.{all_choices, choices_left, sum_below}
use Rattle.pub_trail.specs.Trail.{accum, allows, by_reason, is_decided, level_of}
use Rattle.pub_trail.specs.declared.trail.Assigned.{Assigned}
use Rattle.pub_trail.specs.declared.trail.Reason.{Reason}
use Rattle.pub_trail.specs.declared.trail.Reason.TheVariants.{Decided, Derived}
use Rattle.pub_trail.proofs.LieLemmas.{formed_at, sized_at}
use Rattle.pub_trail.proofs.ResolveLemmas.{allows-before}
use Rattle.pub_trail.proofs.TestLemmas.{lacks-opposite}

-- ---- sums

-- lesser parts have no greater sum
pub sum_le : (f g : ℕ → ℕ) (n : ℕ) → ((k : ℕ) → k < n → f k ≤ g k) → sum_below f n ≤ sum_below g n
sum_le f g zero each = omega arith
sum_le f g (suc n) each = omega (arith, sum_le f g n (λ k below. each k (omega arith)), each n (omega arith))

-- one less part makes the sum less
pub sum_less : (f g : ℕ → ℕ) (n x : ℕ) → ((k : ℕ) → k < n → f k ≤ g k) → x < n → f x < g x → sum_below f n < sum_below g n
sum_less f g zero x each below less = absurd (omega arith)
sum_less f g (suc n) x each below less =
    elim (cases_lt x n) [
      | inl before ↦ omega (arith, sum_less f g n x (λ k under. each k (omega arith)) before less, each n (omega arith))
      | inr here ↦
          (let e : x ≡ n = omega arith in
          let last : f n < g n = subst (λ k. f k < g k) e less in
          omega (arith, sum_le f g n (λ k under. each k (omega arith)), last))
    ]

-- parts of at most one
pub sum_ones : (f : ℕ → ℕ) (n : ℕ) → ((k : ℕ) → k < n → f k ≤ 1) → sum_below f n ≤ n
sum_ones f zero each = omega arith
sum_ones f (suc n) each = omega (arith, sum_ones f n (λ k below. each k (omega arith)), each n (omega arith))

-- ---- how many pass

-- one more number passes or doesn't
length-filter_next : (test : ℕ → Bool) (xs : List ℕ) (x : ℕ) → length (filter test (xs ++ x ∷ [])) ≡ length (filter test xs) + cond (test x) 1 0
length-filter_next test [] x = one (test x)
  where
    one : (b : Bool) → length (cond b (x ∷ []) []) ≡ 0 + cond b 1 0
    one true = omega arith
    one false = omega arith
length-filter_next test (y ∷ ys) x =
    let rest = length-filter_next test ys x in
    elim (cases_Bool (test y)) [
      | inl passes ↦
          omega (
            arith,
            rest,
            ap (λ (zs : List ℕ). length zs) (cond-true (test y) (y ∷ filter test (ys ++ x ∷ [])) (filter test (ys ++ x ∷ [])) passes),
            ap (λ (zs : List ℕ). length zs) (cond-true (test y) (y ∷ filter test ys) (filter test ys) passes),
          )
      | inr fails ↦
          omega (
            arith,
            rest,
            ap (λ (zs : List ℕ). length zs) (cond-false (test y) (y ∷ filter test (ys ++ x ∷ [])) (filter test (ys ++ x ∷ [])) fails),
            ap (λ (zs : List ℕ). length zs) (cond-false (test y) (y ∷ filter test ys) (filter test ys) fails),
          )
    ]

-- a test that implies another counts no more
pub one_le : (a b : Bool) → (a ≡ true → b ≡ true) → cond a 1 0 ≤ cond b 1 0
one_le true true implies = omega arith
one_le true false implies = absurd (false≢true (implies refl))
one_le false true implies = omega arith
one_le false false implies = omega arith

-- fewer pass a stronger test
pub passing_le : (p q : ℕ → Bool) (n : ℕ) → ((k : ℕ) → k < n → p k ≡ true → q k ≡ true)
    → length (filter p (numbers_below n)) ≤ length (filter q (numbers_below n))
passing_le p q zero implies = omega arith
passing_le p q (suc n) implies =
    omega (
      arith,
      length-filter_next p (numbers_below n) n,
      length-filter_next q (numbers_below n) n,
      passing_le p q n (λ k below. implies k (omega arith)),
      one_le (p n) (q n) (implies n (omega arith)),
    )

-- and less where one fails
pub passing_less : (p q : ℕ → Bool) (n x : ℕ) → ((k : ℕ) → k < n → p k ≡ true → q k ≡ true) → x < n → q x ≡ true → p x ≡ false
    → length (filter p (numbers_below n)) < length (filter q (numbers_below n))
passing_less p q zero x implies below here there = absurd (omega arith)
passing_less p q (suc n) x implies below here there =
    elim (cases_lt x n) [
      | inl before ↦
          omega (
            arith,
            length-filter_next p (numbers_below n) n,
            length-filter_next q (numbers_below n) n,
            passing_less p q n x (λ k under. implies k (omega arith)) before here there,
            one_le (p n) (q n) (implies n (omega arith)),
          )
      | inr last ↦
          (let e : x ≡ n = omega arith in
          omega (
            arith,
            length-filter_next p (numbers_below n) n,
            length-filter_next q (numbers_below n) n,
            passing_le p q n (λ k under. implies k (omega arith)),
            cond-true {A = ℕ} (q n) 1 0 (ap q (sym e) ∙ here),
            cond-false {A = ℕ} (p n) 1 0 (ap p (sym e) ∙ there),
          ))
    ]

-- at most all pass
pub passing_bound : (p : ℕ → Bool) (n : ℕ) → length (filter p (numbers_below n)) ≤ n
passing_bound p zero = omega arith
passing_bound p (suc n) =
    omega (arith, length-filter_next p (numbers_below n) n, passing_bound p n, one_le (p n) true (λ _. refl))

-- ---- choices that are left

-- at most all choices are left
pub left_bound : (sizes : List ℕ) (trail : List Assigned) → choices_left sizes trail ≤ all_choices sizes
left_bound sizes trail =
    sum_le (λ node. length (accum sizes trail node).members) (λ node. slice_index sizes node) (length sizes)
    (λ node below. passing_bound (allows trail node) (slice_index sizes node))

-- a derivation leaves less
derived_less : (sizes : List ℕ) (terms : List Term) (before : List Assigned) (entry : Assigned) → IsFormed sizes terms → IsDerived sizes terms before entry
    → choices_left sizes (entry ∷ before) < choices_left sizes before
derived_less sizes terms before entry formed by =
    let met = by.almost.meets in
    sum_less (λ node. length (accum sizes (entry ∷ before) node).members) (λ node. length (accum sizes before node).members) (length sizes) entry.node
    (λ node known.
    passing_le (allows (entry ∷ before) node) (allows before node) (slice_index sizes node) (λ k below allowed. allows-before entry before node k allowed))
    (sized_at sizes terms entry.node by.set formed.sized by.almost.at).0
    (passing_less (allows (entry ∷ before) entry.node) (allows before entry.node) (slice_index sizes entry.node) met.choice
    (λ k below allowed. allows-before entry before entry.node k allowed) met.below met.allowed
    (false_from_ne_true (allows (entry ∷ before) entry.node met.choice)
    (λ allowed.
    let here : has entry.choices met.choice ≡ true = kept (entry.node == entry.node) (has entry.choices met.choice) (allows before entry.node met.choice) (eq-eqb entry.node entry.node refl) allowed in
    false≢true (sym (lacks-opposite by.set met.choice (ap (λ set. has set met.choice) (sym by.choices) ∙ here)) ∙ met.passes))))
  where
    kept : (same keeps rest : Bool) → same ≡ true → ((not same || keeps) && rest) ≡ true → keeps ≡ true
    kept true true rest is all = refl
    kept true false rest is all = absurd (false≢true all)
    kept false keeps rest is all = absurd (false≢true is)

-- the same by its reason
pub derived_left : (sizes : List ℕ) (incompats : List (List Term)) (before : List Assigned) (entry : Assigned) (number : ℕ) → AreFormed sizes incompats
    → IsReason (Derived number) sizes incompats before entry → choices_left sizes (entry ∷ before) < choices_left sizes before
derived_left sizes incompats before entry number formed by =
    derived_less sizes (slice_index_or incompats number []) before entry (formed_at sizes incompats number formed by.0) by.1

-- ---- nodes that are decided

-- how many nodes are decided
decided_count : List ℕ → List Assigned → ℕ
decided_count sizes trail = sum_below (λ node. cond (is_decided trail node) 1 0) (length sizes)

-- a decision decides one more
decided_more : (reason : Reason) (sizes : List ℕ) (incompats : List (List Term)) (before : List Assigned) (entry : Assigned)
    → entry.reason ≡ reason → IsReason reason sizes incompats before entry → level_of before ≤ decided_count sizes before
    → entry.level ≤ decided_count sizes (entry ∷ before)
unfolding decided_count
decided_more Decided sizes incompats before entry reason by within =
    let at : (node : ℕ) → is_decided (entry ∷ before) node ≡ (entry.node == node || is_decided before node)
    = λ node. ap (λ r. by_reason r (entry.node == node || is_decided before node) (λ number. is_decided before node)) reason in
    omega (
      arith,
      by.level,
      sum_less (λ node. cond (is_decided before node) 1 0) (λ node. cond (is_decided (entry ∷ before) node) 1 0) (length sizes) entry.node
          (λ node known.
          one_le (is_decided before node) (is_decided (entry ∷ before) node) (λ was. at node ∙ or_right (entry.node == node) (is_decided before node) was))
          by.known
          (omega (
            arith,
            cond-false {A = ℕ} (is_decided before entry.node) 1 0 by.fresh,
            cond-true {A = ℕ} (is_decided (entry ∷ before) entry.node) 1 0
                (at entry.node ∙ or_left (entry.node == entry.node) (is_decided before entry.node) (eq-eqb entry.node entry.node refl)),
          )),
    )
decided_more (Derived number) sizes incompats before entry reason by within =
    omega (
      arith,
      by.1.level,
      sum_le (λ node. cond (is_decided before node) 1 0) (λ node. cond (is_decided (entry ∷ before) node) 1 0) (length sizes)
          (λ node known.
          one_le (is_decided before node) (is_decided (entry ∷ before) node)
          (λ was. ap (λ r. by_reason r (entry.node == node || is_decided before node) (λ number. is_decided before node)) reason ∙ was)),
    )

-- there are at most as many levels as decided nodes
decided_levels : (sizes : List ℕ) (incompats : List (List Term)) (trail : List Assigned) → IsTrail sizes incompats trail
    → level_of trail ≤ decided_count sizes trail
decided_levels sizes incompats [] is = omega arith
decided_levels sizes incompats (entry ∷ before) is =
    decided_more entry.reason sizes incompats before entry refl is.0 (decided_levels sizes incompats before is.1)

-- there are at most as many levels as nodes
pub levels_bound : (sizes : List ℕ) (incompats : List (List Term)) (trail : List Assigned) → IsTrail sizes incompats trail → level_of trail ≤ length sizes
unfolding decided_count
levels_bound sizes incompats trail is =
    omega (
      arith,
      decided_levels sizes incompats trail is,
      sum_ones (λ node. cond (is_decided trail node) 1 0) (length sizes) (λ node known. one_le (is_decided trail node) true (λ _. refl)),
    )
