-- The least of the names that pass: where none is found none passes, and none that passes is below what is found.
use Rattle.std.proofs.Common.{◌≡◌, ℕ, zero, suc, ◌+◌, ◌<◌, Bool, true, false, List, [], ◌∷◌, length, Option, Some, None, refl, sym, ap, ◌∙◌, subst, inl, inr, arith}
use Rattle.std.specs.Ordering.{is_eq, is_lt, ordering_reverse}
use Rattle.std.specs.Cmp.{tied_itself}
use Rattle.std.specs.declared.cmp.Ordering.{Ordering}
use Rattle.std.specs.declared.cmp.Ordering.TheVariants.{Less, Equal, Greater}
use Rattle.std.proofs.lemmas.Bool.{cases_Bool, cond-false, cond-true, cond_both, false≢true, false_from_ne_true}
use Rattle.std.proofs.lemmas.Option.{same_Some}
use Rattle.pub_term.specs.Node.{node_cmp}
use Rattle.pub_term.specs.NodeLaws.{node_ties, node_total}
use Rattle.pub_facts.proofs.FactLemmas.{node_same}
use Rattle.pub_term.specs.declared.node.NodeName.{NodeName}
use Rattle.pub_trail.specs.Turn.{when_true}
use Rattle.pub_plain.specs.Choosing.{least_from, lesser}
use Rattle.pub_plain.specs.Loading.{name_at}

-- ---- the least that passes

-- something isn't nothing
some_none : (one : ℕ × NodeName) → Some one ≡ None → ⊥
some_none one e = cc

-- nothing isn't the lesser of something
lesser_none : (first second : Option (ℕ × NodeName)) → lesser first second ≡ None → (first ≡ None) × (second ≡ None)
lesser_none None second is = (refl, is)
lesser_none (Some first) None is = cc
lesser_none (Some first) (Some second) is =
    absurd (cond_both (is_lt (node_cmp second.1 first.1)) (Some second) (Some first) (λ least. least ≡ None → ⊥) (λ _ e. some_none second e)
    (λ _ e. some_none first e) is)

-- where none is found, none passes
least_none : (test : ℕ → NodeName → Bool) (from : ℕ) (names : List NodeName) → least_from test from names ≡ None → (k : ℕ) → k < length names
    → test (from + k) (name_at names k) ≡ true → ⊥
least_none test from [] is k within passes = absurd (omega (arith, within))
least_none test from (name ∷ names) is zero within passes =
    let first = (lesser_none (when_true (test from name) (from, name)) (least_from test (from + 1) names) is).0 in
    let here : test from name ≡ true = subst (λ n. test n name ≡ true) (omega arith) passes in
    some_none (from, name) (sym (ap (λ b. when_true b (from, name)) here) ∙ first)
least_none test from (name ∷ names) is (suc k) within passes =
    let rest = (lesser_none (when_true (test from name) (from, name)) (least_from test (from + 1) names) is).1 in
    let same : from + suc k ≡ from + 1 + k = omega arith in
    least_none test (from + 1) names rest k (omega (arith, within)) (subst (λ n. test n (name_at names k) ≡ true) same passes)

-- the name isn't below this one
abbrev pub NotBelow : NodeName → NodeName → Type 0
NotBelow name found = is_lt (node_cmp name found) ≡ false

-- no name is below itself
itself_not_below : (name : NodeName) → NotBelow name name
itself_not_below name = go (node_cmp name name) refl
  where
    go : (order : Ordering) → node_cmp name name ≡ order → is_lt order ≡ false
    go Less is = absurd (cc (is, tied_itself node_total name))
    go Equal is = refl
    go Greater is = refl

-- what is below another is below all that the other isn't above
not_below_more : (name middle found : NodeName) → NotBelow name middle → is_lt (node_cmp found middle) ≡ true → NotBelow name found
not_below_more name middle found above below =
    false_from_ne_true (is_lt (node_cmp name found))
    (λ less. false≢true (sym above ∙ ap is_lt
    (node_total.trans name found middle (is_less (node_cmp name found) less) (is_less (node_cmp found middle) below))))
  where
    is_less : (order : Ordering) → is_lt order ≡ true → order ≡ Less
    is_less Less is = refl
    is_less Equal is = absurd (false≢true is)
    is_less Greater is = absurd (false≢true is)

-- of two of which neither is below a third, nor one below the other
not_below_other : (name first second : NodeName) → NotBelow name second → NotBelow second first → NotBelow name first
not_below_other name first second above behind =
    false_from_ne_true (is_lt (node_cmp name first))
    (λ less. go (node_cmp second first) refl less)
  where
    is_less : (order : Ordering) → is_lt order ≡ true → order ≡ Less
    is_less Less is = refl
    is_less Equal is = absurd (false≢true is)
    is_less Greater is = absurd (false≢true is)

    go : (order : Ordering) → node_cmp second first ≡ order → is_lt (node_cmp name first) ≡ true → ⊥
    go Less is less = false≢true (sym behind ∙ ap is_lt is)
    go Equal is less =
        let same : second ≡ first = node_same second first (node_ties second first ∙ ap is_eq is) in
        false≢true (sym above ∙ ap (λ n. is_lt (node_cmp name n)) same ∙ less)
    go Greater is less =
        let below : node_cmp first second ≡ Less = node_total.antisymm first second ∙ ap ordering_reverse is in
        false≢true (sym above ∙ ap is_lt (node_total.trans name first second (is_less (node_cmp name first) less) below))

-- no name that passes among those behind is below what is found of them
abbrev IsLeastBehind : (ℕ → NodeName → Bool) → ℕ → List NodeName → Type 0
IsLeastBehind test from names = (second : ℕ × NodeName) → least_from test from names ≡ Some second → (k : ℕ) → k < length names
    → test (from + k) (name_at names k) ≡ true → NotBelow (name_at names k) second.1

-- so none of all is below what is found
least_behind : (test : ℕ → NodeName → Bool) (from : ℕ) (name : NodeName) (names : List NodeName) (found : ℕ × NodeName)
    → IsLeastBehind test (from + 1) names → (b : Bool) (rest : Option (ℕ × NodeName)) → test from name ≡ b → least_from test (from + 1) names ≡ rest
    → lesser (when_true b (from, name)) rest ≡ Some found → (k : ℕ) → k < length (name ∷ names) → test (from + k) (name_at (name ∷ names) k) ≡ true
    → NotBelow (name_at (name ∷ names) k) found.1
least_behind test from name names found behind false rest fails at is zero within passes =
    absurd (false≢true (sym fails ∙ subst (λ n. test n name ≡ true) (omega arith) passes))
least_behind test from name names found behind false rest fails at is (suc k) within passes =
    behind found (at ∙ is) k (omega (arith, within)) (subst (λ n. test n (name_at names k) ≡ true) (omega arith) passes)
least_behind test from name names found behind true None here at is zero within passes =
    subst (λ (one : ℕ × NodeName). NotBelow name one.1) (same_Some (from, name) found is) (itself_not_below name)
least_behind test from name names found behind true None here at is (suc k) within passes =
    absurd (least_none test (from + 1) names at k (omega (arith, within)) (subst (λ n. test n (name_at names k) ≡ true) (omega arith) passes))
least_behind test from name names found behind true (Some second) here at is k within passes =
    elim (cases_Bool (is_lt (node_cmp second.1 name))) [
      | inl less ↦
          (let same : second ≡ found
          = same_Some second found (sym (cond-true (is_lt (node_cmp second.1 name)) (Some second) (Some (from, name)) less) ∙ is) in
          subst (λ (one : ℕ × NodeName). NotBelow (name_at (name ∷ names) k) one.1) same (by_second less k within passes))
      | inr more ↦
          (let same : (from, name) ≡ found
          = same_Some (from, name) found (sym (cond-false (is_lt (node_cmp second.1 name)) (Some second) (Some (from, name)) more) ∙ is) in
          subst (λ (one : ℕ × NodeName). NotBelow (name_at (name ∷ names) k) one.1) same (by_first more k within passes))
    ]
  where
    by_second : is_lt (node_cmp second.1 name) ≡ true → (k : ℕ) → k < length (name ∷ names) → test (from + k) (name_at (name ∷ names) k) ≡ true
        → NotBelow (name_at (name ∷ names) k) second.1
    by_second less zero within passes = not_below_more name name second.1 (itself_not_below name) less
    by_second less (suc k) within passes =
        behind second at k (omega (arith, within)) (subst (λ n. test n (name_at names k) ≡ true) (omega arith) passes)

    by_first : is_lt (node_cmp second.1 name) ≡ false → (k : ℕ) → k < length (name ∷ names) → test (from + k) (name_at (name ∷ names) k) ≡ true
        → NotBelow (name_at (name ∷ names) k) name
    by_first more zero within passes = itself_not_below name
    by_first more (suc k) within passes =
        not_below_other (name_at names k) name second.1
        (behind second at k (omega (arith, within)) (subst (λ n. test n (name_at names k) ≡ true) (omega arith) passes)) more

-- no name that passes is below what is found
least_least : (test : ℕ → NodeName → Bool) (from : ℕ) (names : List NodeName) (found : ℕ × NodeName) → least_from test from names ≡ Some found
    → (k : ℕ) → k < length names → test (from + k) (name_at names k) ≡ true → NotBelow (name_at names k) found.1
least_least test from [] found is k within passes = absurd (omega (arith, within))
least_least test from (name ∷ names) found is k within passes =
    least_behind test from name names found (λ second at k within passes. least_least test (from + 1) names second at k within passes)
    (test from name) (least_from test (from + 1) names) refl refl is k within passes

-- ---- where the first name has the number 0

-- where none is found, none passes
pub none_passes : (test : ℕ → NodeName → Bool) (names : List NodeName) → least_from test 0 names ≡ None → (k : ℕ) → k < length names
    → test k (name_at names k) ≡ true → ⊥
none_passes test names is k within passes =
    least_none test 0 names is k within (subst (λ n. test n (name_at names k) ≡ true) (omega arith) passes)

-- no name that passes is below what is found
pub none_below : (test : ℕ → NodeName → Bool) (names : List NodeName) (found : ℕ × NodeName) → least_from test 0 names ≡ Some found
    → (k : ℕ) → k < length names → test k (name_at names k) ≡ true → NotBelow (name_at names k) found.1
none_below test names found is k within passes =
    least_least test 0 names found is k within (subst (λ n. test n (name_at names k) ≡ true) (omega arith) passes)
