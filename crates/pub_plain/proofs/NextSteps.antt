-- The least of the nodes that pass, from the last to the first, and which node is next.
use Rattle.std.proofs.Common.{◌≡◌, ℕ, suc, ◌+◌, ◌-◌, ◌<◌, ◌≤◌, Bool, true, false, not, List, [], ◌∷◌, length, get_or, drop, Option, Some, None, refl, sym, ap, ap₂, ◌∙◌, subst, arith}
use Rattle.std.proofs.Math.Seq.{drop-cons}
use Rattle.std.proofs.lemmas.Bool.{cond-false, cond-true, not-true}
use Rattle.std.specs.Ordering.{is_lt}
use Rattle.pub_term.specs.Node.{node_cmp}
use Rattle.pub_term.specs.declared.node.NodeName.{NodeName}
use Rattle.pub_term.specs.declared.node.NodeName.TheVariants.{Root}
use Rattle.pub_trail.specs.Turn.{or_some, when_true}
use Rattle.pub_plain.specs.Choosing.{least_from, lesser}
use Rattle.pub_plain.specs.Loading.{name_at}
use Rattle.pub_plain.specs.Next.{ArePasses, is_before, numbered_name}

-- the names from a place on begin with the name there
drop_at : (names : List NodeName) (place : ℕ) → place < length names → drop place names ≡ name_at names place ∷ drop (place + 1) names
drop_at names place below =
    let next : suc place ≡ place + 1 = omega arith in
    drop-cons names place Root below ∙ ap (λ k. name_at names place ∷ drop k names) next

-- one more node at the front
least_at : (test : ℕ → NodeName → Bool) (names : List NodeName) (place : ℕ) → place < length names
    → least_from test place (drop place names)
    ≡ lesser (when_true (test place (name_at names place)) (place, name_at names place)) (least_from test (place + 1) (drop (place + 1) names))
least_at test names place below = ap (least_from test place) (drop_at names place below)

-- a node that passes and comes before the least so far is the least
pub least_here : (test : ℕ → NodeName → Bool) (names : List NodeName) (place : ℕ) (least : Option ℕ) → place < length names
    → test place (name_at names place) ≡ true → is_before names place least ≡ true
    → numbered_name names least ≡ least_from test (place + 1) (drop (place + 1) names)
    → numbered_name names (Some place) ≡ least_from test place (drop place names)
least_here test names place least below passes before so_far =
    go least before so_far
    ∙ sym (ap₂ lesser (ap (λ b. when_true b (place, name_at names place)) passes) (sym so_far))
    ∙ sym (least_at test names place below)
  where
    go : (least : Option ℕ) → is_before names place least ≡ true
        → numbered_name names least ≡ least_from test (place + 1) (drop (place + 1) names)
        → Some (place, name_at names place) ≡ lesser (Some (place, name_at names place)) (numbered_name names least)
    go None before so_far = refl
    go (Some other) before so_far =
        sym (cond-false (is_lt (node_cmp (name_at names other) (name_at names place))) (Some (other, name_at names other)) (Some (place, name_at names place))
        (not-true (is_lt (node_cmp (name_at names other) (name_at names place))) before))

-- one that doesn't pass changes nothing
pub least_skips : (test : ℕ → NodeName → Bool) (names : List NodeName) (place : ℕ) (least : Option ℕ) → place < length names
    → test place (name_at names place) ≡ false → numbered_name names least ≡ least_from test (place + 1) (drop (place + 1) names)
    → numbered_name names least ≡ least_from test place (drop place names)
least_skips test names place least below fails so_far =
    so_far
    ∙ sym (ap (λ b. lesser (when_true b (place, name_at names place)) (least_from test (place + 1) (drop (place + 1) names))) fails)
    ∙ sym (least_at test names place below)

is_true : (b : Bool) → not b ≡ false → b ≡ true
is_true true e = refl
is_true false e = cc

-- nor does one that comes behind the least so far
pub least_stays : (test : ℕ → NodeName → Bool) (names : List NodeName) (place : ℕ) (least : Option ℕ) → place < length names
    → test place (name_at names place) ≡ true → is_before names place least ≡ false
    → numbered_name names least ≡ least_from test (place + 1) (drop (place + 1) names)
    → numbered_name names least ≡ least_from test place (drop place names)
least_stays test names place least below passes behind so_far =
    go least behind
    ∙ sym (ap₂ lesser (ap (λ b. when_true b (place, name_at names place)) passes) (sym so_far))
    ∙ sym (least_at test names place below)
  where
    go : (least : Option ℕ) → is_before names place least ≡ false
        → numbered_name names least ≡ lesser (Some (place, name_at names place)) (numbered_name names least)
    go None behind = cc
    go (Some other) behind =
        sym (cond-true (is_lt (node_cmp (name_at names other) (name_at names place))) (Some (other, name_at names other)) (Some (place, name_at names place))
        (is_true (is_lt (node_cmp (name_at names other) (name_at names place))) behind))

-- ---- by tests that agree

pub same_from : (test other : ℕ → NodeName → Bool) (k : ℕ) (names : List NodeName)
    → ((i : ℕ) → i < length names → test (k + i) (name_at names i) ≡ other (k + i) (name_at names i))
    → least_from test k names ≡ least_from other k names
same_from test other k [] same = refl
same_from test other k (name ∷ names) same =
    let here : test k name ≡ other k name = subst (λ n. test n name ≡ other n name) (omega arith) (same 0 (omega arith)) in
    ap₂ lesser (ap (λ b. when_true b (k, name)) here)
    (same_from test other (k + 1) names (λ i below.
    let n : k + suc i ≡ (k + 1) + i = omega arith in
    subst (λ m. test m (name_at names i) ≡ other m (name_at names i)) n (same (suc i) (omega arith))))

-- by what is kept of each node, the least is the same
pub least_passes : (test : ℕ → NodeName → Bool) (names : List NodeName) (passes : List Bool) → ArePasses test names passes
    → least_from (λ number name. get_or passes number false) 0 names ≡ least_from test 0 names
least_passes test names passes are =
    same_from (λ number name. get_or passes number false) test 0 names (λ i below.
    let e : i ≡ 0 + i = omega arith in
    subst (λ n. get_or passes n false ≡ test n (name_at names i)) e (are.each i below))

-- ---- from a place to the one before it

pub before_here : (test : ℕ → NodeName → Bool) (names : List NodeName) (place : ℕ) (least : Option ℕ) → 0 < place → place ≤ length names
    → test (place - 1) (name_at names (place - 1)) ≡ true → is_before names (place - 1) least ≡ true
    → numbered_name names least ≡ least_from test place (drop place names)
    → numbered_name names (Some (place - 1)) ≡ least_from test (place - 1) (drop (place - 1) names)
before_here test names place least some within passes before so_far =
    let e : place ≡ (place - 1) + 1 = omega arith in
    least_here test names (place - 1) least (omega arith) passes before
    (subst (λ n. numbered_name names least ≡ least_from test n (drop n names)) e so_far)

pub before_skips : (test : ℕ → NodeName → Bool) (names : List NodeName) (place : ℕ) (least : Option ℕ) → 0 < place → place ≤ length names
    → test (place - 1) (name_at names (place - 1)) ≡ false → numbered_name names least ≡ least_from test place (drop place names)
    → numbered_name names least ≡ least_from test (place - 1) (drop (place - 1) names)
before_skips test names place least some within fails so_far =
    let e : place ≡ (place - 1) + 1 = omega arith in
    least_skips test names (place - 1) least (omega arith) fails
    (subst (λ n. numbered_name names least ≡ least_from test n (drop n names)) e so_far)

pub before_stays : (test : ℕ → NodeName → Bool) (names : List NodeName) (place : ℕ) (least : Option ℕ) → 0 < place → place ≤ length names
    → test (place - 1) (name_at names (place - 1)) ≡ true → is_before names (place - 1) least ≡ false
    → numbered_name names least ≡ least_from test place (drop place names)
    → numbered_name names least ≡ least_from test (place - 1) (drop (place - 1) names)
before_stays test names place least some within passes behind so_far =
    let e : place ≡ (place - 1) + 1 = omega arith in
    least_stays test names (place - 1) least (omega arith) passes behind
    (subst (λ n. numbered_name names least ≡ least_from test n (drop n names)) e so_far)

-- ---- of two kinds

-- the first kind has one
pub first_kind : (first second : Option (ℕ × NodeName)) (number : ℕ) (name : NodeName) → Some (number, name) ≡ first
    → Some (number, name) ≡ or_some first second
first_kind first second number name is = ap (λ o. or_some o second) is

-- it has none
pub second_kind : (names : List NodeName) (first second : Option (ℕ × NodeName)) (found other : Option ℕ) → found ≡ None
    → numbered_name names found ≡ first → numbered_name names other ≡ second → numbered_name names other ≡ or_some first second
second_kind names first second found other is at behind =
    behind ∙ ap (λ o. or_some o second) (sym (ap (numbered_name names) is) ∙ at)
