-- The digits fall at each turn that loads nothing.
use Rattle.std.proofs.Common.{◌≡◌, ℕ, suc, ◌+◌, ◌-◌, ◌*◌, ◌^◌, ◌<◌, ◌≤◌, List, [], ◌∷◌, refl, sym, ap, ◌∙◌, subst, inl, inr, arith}
use Rattle.std.proofs.Math.Nat.{one-le-pow, pow-suc}
use Rattle.std.proofs.lemmas.Bool.{cases_lt}
use Rattle.pub_term.specs.declared.term.Term.{Term}
use Rattle.pub_trail.specs.Invariant.{IsReason, IsTrail}
use Rattle.pub_trail.specs.Measure.{all_digits, choices_left, digits_below}
use Rattle.pub_trail.specs.Trail.{by_reason, level_of, up_to}
use Rattle.pub_trail.specs.declared.trail.Assigned.{Assigned}
use Rattle.pub_trail.specs.declared.trail.Reason.{Reason}
use Rattle.pub_trail.specs.declared.trail.Reason.TheVariants.{Decided, Derived}
use Rattle.pub_trail.proofs.BackLemmas.{level_step, up_to-drop, up_to-keep, up_to-whole}

-- ---- numbers

-- a lesser number stays less when both are scaled
scaled : (a b p : ℕ) → 0 < p → a < b → a * p < b * p
scaled a b p some less =
    let e : b ≡ a + 1 + (b - a - 1) = omega arith in
    subst (λ n. a * p < n * p) (sym e) (omega arith)

-- a digit is less than one more of the next place
digit_more : (a base digit p : ℕ) → 0 < p → digit < base → (a * base + digit) * p < (a + 1) * (p * base)
digit_more a base digit p some less =
    let h : digit * p < base * p = scaled digit base p some less in
    omega (arith, h)

-- a power isn't 0
pow_some : (base k : ℕ) → 0 < base → 0 < base ^ k
pow_some base k some = one-le-pow k base some

-- one place less
pow_next : (base levels level : ℕ) → level < levels → base ^ (levels - level) ≡ base ^ (levels - (level + 1)) * base
pow_next base levels level less =
    let e : levels - level ≡ suc (levels - (level + 1)) = omega arith in
    ap (λ k. base ^ k) e ∙ pow-suc base (levels - (level + 1))

-- ---- a derivation

-- a derivation makes the present digit less
pub derived_falls : (base levels : ℕ) (sizes : List ℕ) (before : List Assigned) (entry : Assigned) (number digit : ℕ) → 0 < base
    → entry.reason ≡ Derived number → entry.level ≡ level_of before → digit < 2 * choices_left sizes before
    → all_digits base levels sizes (entry ∷ before) digit < all_digits base levels sizes before (2 * choices_left sizes before)
derived_falls base levels sizes before entry number digit some reason level less =
    let u = digits_below base sizes before in
    let same : digits_below base sizes (entry ∷ before) ≡ u
    = ap (λ r. by_reason r (u * base + (2 * choices_left sizes before + 1)) (λ n. u)) reason in
    subst (λ v. (v * base + (digit + 1)) * base ^ (levels - entry.level) < all_digits base levels sizes before (2 * choices_left sizes before)) (sym same)
    (subst (λ l. (u * base + (digit + 1)) * base ^ (levels - l) < all_digits base levels sizes before (2 * choices_left sizes before)) (sym level)
    (scaled (u * base + (digit + 1)) (u * base + (2 * choices_left sizes before + 1)) (base ^ (levels - level_of before))
    (pow_some base (levels - level_of before) some) (omega arith)))

-- ---- a decision

-- a decision adds a digit below the greatest
pub decided_falls : (base levels : ℕ) (sizes : List ℕ) (before : List Assigned) (entry : Assigned) (digit : ℕ) → 0 < base
    → entry.reason ≡ Decided → entry.level ≡ level_of before + 1 → entry.level ≤ levels → digit + 1 < base
    → all_digits base levels sizes (entry ∷ before) digit < all_digits base levels sizes before (2 * choices_left sizes before + 1)
decided_falls base levels sizes before entry digit some reason level within less =
    let u = digits_below base sizes before in
    let l = choices_left sizes before in
    let same : digits_below base sizes (entry ∷ before) ≡ u * base + (2 * l + 1)
    = ap (λ r. by_reason r (u * base + (2 * l + 1)) (λ n. u)) reason in
    let power : base ^ (levels - level_of before) ≡ base ^ (levels - entry.level) * base
    = pow_next base levels (level_of before) (omega arith) ∙ ap (λ n. base ^ (levels - n) * base) (sym level) in
    let e : (u * base + (2 * l + 1)) + 1 ≡ u * base + (2 * l + 1 + 1) = omega arith in
    subst (λ v. (v * base + (digit + 1)) * base ^ (levels - entry.level) < all_digits base levels sizes before (2 * l + 1)) (sym same)
    (subst (λ q. ((u * base + (2 * l + 1)) * base + (digit + 1)) * base ^ (levels - entry.level) < (u * base + (2 * l + 1 + 1)) * q) (sym power)
    (subst (λ v. ((u * base + (2 * l + 1)) * base + (digit + 1)) * base ^ (levels - entry.level) < v * (base ^ (levels - entry.level) * base)) e
    (digit_more (u * base + (2 * l + 1)) base (digit + 1) (base ^ (levels - entry.level)) (pow_some base (levels - entry.level) some) less)))

-- ---- going back

-- levels go up by one at most, so going back to a level ends at it
pub level_of-up_to : (sizes : List ℕ) (incompats : List (List Term)) (level : ℕ) (trail : List Assigned) → IsTrail sizes incompats trail
    → level ≤ level_of trail → level_of (up_to level trail) ≡ level
level_of-up_to sizes incompats level [] is below = omega arith
level_of-up_to sizes incompats level (entry ∷ before) is below =
    let step = level_step entry.reason sizes incompats before entry is.0 in
    elim (cases_lt level entry.level) [
      | inl less ↦ ap level_of (up_to-drop level entry before less) ∙ level_of-up_to sizes incompats level before is.1 (omega (arith, step))
      | inr here ↦ ap level_of (up_to-keep level entry before here) ∙ omega arith
    ]

-- a level's digits, in the place of its level
abbrev digits_at : ℕ → ℕ → List ℕ → List Assigned → ℕ
digits_at base levels sizes trail = digits_below base sizes trail * base ^ (levels + 1 - level_of trail)

-- one place more
shifted : (base levels level : ℕ) → level ≤ levels → base ^ (levels + 1 - level) ≡ base ^ (levels - level) * base
shifted base levels level within =
    let e : levels + 1 - level ≡ suc (levels - level) = omega arith in
    ap (λ k. base ^ k) e ∙ pow-suc base (levels - level)

-- the digits of a level don't rise with what is above it
digits_rise : (reason : Reason) (base levels : ℕ) (sizes : List ℕ) (incompats : List (List Term)) (before : List Assigned) (entry : Assigned)
    → entry.reason ≡ reason → IsReason reason sizes incompats before entry → entry.level ≤ levels
    → digits_at base levels sizes before ≤ digits_at base levels sizes (entry ∷ before)
digits_rise Decided base levels sizes incompats before entry reason by within =
    let u = digits_below base sizes before in
    let l = choices_left sizes before in
    let same : digits_below base sizes (entry ∷ before) ≡ u * base + (2 * l + 1)
    = ap (λ r. by_reason r (u * base + (2 * l + 1)) (λ n. u)) reason in
    let p = base ^ (levels + 1 - entry.level) in
    let power : base ^ (levels + 1 - level_of before) ≡ p * base
    = pow_next base (levels + 1) (level_of before) (omega (arith, by.level)) ∙ ap (λ n. base ^ (levels + 1 - n) * base) (sym by.level) in
    subst (λ v. u * base ^ (levels + 1 - level_of before) ≤ v * p) (sym same)
    (subst (λ q. u * q ≤ (u * base + (2 * l + 1)) * p) (sym power) (rises u base (2 * l + 1) p))
  where
    rises : (a b c p : ℕ) → a * (p * b) ≤ (a * b + c) * p
    rises a b c p = omega arith
digits_rise (Derived number) base levels sizes incompats before entry reason by within =
    let u = digits_below base sizes before in
    let same : digits_below base sizes (entry ∷ before) ≡ u
    = ap (λ r. by_reason r (u * base + (2 * choices_left sizes before + 1)) (λ n. u)) reason in
    subst (λ v. u * base ^ (levels + 1 - level_of before) ≤ v * base ^ (levels + 1 - entry.level)) (sym same)
    (subst (λ n. u * base ^ (levels + 1 - level_of before) ≤ u * base ^ (levels + 1 - n)) (sym by.1.level) (omega arith))

-- above a level: the digits are at least those of the levels up to it
digits_above : (base levels : ℕ) (sizes : List ℕ) (incompats : List (List Term)) (level : ℕ) (trail : List Assigned) → IsTrail sizes incompats trail
    → level < level_of trail → level_of trail ≤ levels
    → (digits_below base sizes (up_to level trail) * base + (2 * choices_left sizes (up_to level trail) + 1)) * base ^ (levels - level)
    ≤ digits_at base levels sizes trail
digits_above base levels sizes incompats level [] is above within = absurd (omega arith)
digits_above base levels sizes incompats level (entry ∷ before) is above within =
    let step = level_step entry.reason sizes incompats before entry is.0 in
    subst (λ trail. (digits_below base sizes trail * base + (2 * choices_left sizes trail + 1)) * base ^ (levels - level)
    ≤ digits_at base levels sizes (entry ∷ before)) (sym (up_to-drop level entry before above))
    (elim (cases_lt level (level_of before)) [
      | inl earlier ↦
          le_trans
          (digits_above base levels sizes incompats level before is.1 earlier (omega (arith, step)))
          (digits_rise entry.reason base levels sizes incompats before entry refl is.0 within)
      | inr first ↦ at_first entry.reason refl is.0 first
    ])
  where
    le_trans : {a b c : ℕ} → a ≤ b → b ≤ c → a ≤ c
    le_trans h k = omega arith

    at_first : (reason : Reason) → entry.reason ≡ reason → IsReason reason sizes incompats before entry → level_of before ≤ level
        → (digits_below base sizes (up_to level before) * base + (2 * choices_left sizes (up_to level before) + 1)) * base ^ (levels - level)
        ≤ digits_at base levels sizes (entry ∷ before)
    at_first (Derived number) reason by below = absurd (omega (arith, by.1.level))
    at_first Decided reason by below =
        let u = digits_below base sizes before in
        let l = choices_left sizes before in
        let same : digits_below base sizes (entry ∷ before) ≡ u * base + (2 * l + 1)
        = ap (λ r. by_reason r (u * base + (2 * l + 1)) (λ n. u)) reason in
        let whole : up_to level before ≡ before = up_to-whole level before below in
        let power : levels - level ≡ levels + 1 - entry.level = omega (arith, by.level) in
        subst (λ trail. (digits_below base sizes trail * base + (2 * choices_left sizes trail + 1)) * base ^ (levels - level)
        ≤ digits_at base levels sizes (entry ∷ before)) (sym whole)
        (subst (λ v. (u * base + (2 * l + 1)) * base ^ (levels - level) ≤ v * base ^ (levels + 1 - entry.level)) (sym same)
        (subst (λ k. (u * base + (2 * l + 1)) * base ^ (levels - level) ≤ (u * base + (2 * l + 1)) * base ^ k) power (omega arith)))

-- going back makes a lower level's digit less
pub back_falls : (base levels : ℕ) (sizes : List ℕ) (incompats : List (List Term)) (level digit : ℕ) (trail : List Assigned) → 0 < base
    → IsTrail sizes incompats trail → level < level_of trail → level_of trail ≤ levels
    → all_digits base levels sizes (up_to level trail) (2 * choices_left sizes (up_to level trail)) < all_digits base levels sizes trail digit
back_falls base levels sizes incompats level digit trail some is above within =
    let above_it = digits_above base levels sizes incompats level trail is above within in
    let at : level_of (up_to level trail) ≡ level = level_of-up_to sizes incompats level trail is (omega arith) in
    let p = base ^ (levels - level_of trail) in
    let power : base ^ (levels + 1 - level_of trail) ≡ p * base = shifted base levels (level_of trail) within in
    let u = digits_below base sizes trail in
    let more : u * (p * base) < (u * base + (digit + 1)) * p = larger u base digit p (pow_some base (levels - level_of trail) some) in
    let low : u * base ^ (levels + 1 - level_of trail) < (u * base + (digit + 1)) * p
    = subst (λ q. u * q < (u * base + (digit + 1)) * p) (sym power) more in
    subst (λ n. (digits_below base sizes (up_to level trail) * base + (2 * choices_left sizes (up_to level trail) + 1)) * base ^ (levels - n)
    < all_digits base levels sizes trail digit) (sym at) (le_lt above_it low)
  where
    larger : (a b digit p : ℕ) → 0 < p → a * (p * b) < (a * b + (digit + 1)) * p
    larger a b digit p some = omega arith

    le_lt : {a b c : ℕ} → a ≤ b → b < c → a < c
    le_lt h k = omega arith
