-- How the nodes that are on go from one list to another, where what is put is of a universe of nodes: they stay, and what is left of the
-- universe falls by as many as come.
use Rattle.std.proofs.Common.{◌≡◌, ◌≤◌, ◌+◌, ◌||◌, ℕ, suc, Bool, true, false, cond, List, [], ◌∷◌, length, Contains, refl, sym, ap, ◌∙◌, subst, inl, inr, arith}
use Rattle.std.specs.BTreeMap.{is_at}
use Rattle.std.specs.BTreeSet.{insert_key}
use Rattle.std.specs.Ordering.{is_eq, match_ordering}
use Rattle.std.specs.declared.cmp.Ordering.{Ordering}
use Rattle.std.specs.declared.cmp.Ordering.TheVariants.{Less, Equal, Greater}
use Rattle.std.proofs.lemmas.Bool.{cases_Bool, cond-false, cond-true, false≢true, or_left, or_right}
use Rattle.pub_term.specs.Node.{node_cmp}
use Rattle.pub_term.specs.declared.node.NodeName.{NodeName}
use Rattle.pub_facts.proofs.Members.{contains_cases, contains_head, contains_nothing, contains_tail}
use Rattle.spm_judge.specs.Spread.{each_put, is_on, put_on}
use Rattle.spm_judge.proofs.OnLemmas.{node_itself, on_inserted}

-- ---- what is left of a universe

-- one where a node isn't on
abbrev pub left_at : Bool → ℕ
left_at true = 0
left_at false = 1

-- how many of the universe aren't on
abbrev pub left : List NodeName → List NodeName → ℕ
left [] on = 0
left (node ∷ universe) on = left_at (is_on on node) + left universe on

-- a node that is on still is, or comes
at_most : (was is : Bool) → (was ≡ true → is ≡ true) → left_at is ≤ left_at was
at_most true is stays = rw (stays refl) (omega arith)
at_most false true stays = omega arith
at_most false false stays = omega arith

-- where nodes stay on, no more are left
left_falls : (universe old new : List NodeName) → ((node : NodeName) → is_on old node ≡ true → is_on new node ≡ true) → left universe new ≤ left universe old
left_falls [] old new stay = omega arith
left_falls (node ∷ universe) old new stay =
    omega (arith, at_most (is_on old node) (is_on new node) (stay node), left_falls universe old new stay)

-- where one of the universe comes, fewer are left
left_less : (universe old new : List NodeName) (node : NodeName) → ((other : NodeName) → is_on old other ≡ true → is_on new other ≡ true)
    → Contains universe node → is_on old node ≡ false → is_on new node ≡ true → left universe new + 1 ≤ left universe old
left_less [] old new node stay here absent comes = absurd (contains_nothing node here)
left_less (first ∷ universe) old new node stay here absent comes = elim (contains_cases first node universe here) [
  | inl same ↦
      (let was : left_at (is_on old first) ≡ 1 = ap (λ n. left_at (is_on old n)) same ∙ ap left_at absent in
      let now : left_at (is_on new first) ≡ 0 = ap (λ n. left_at (is_on new n)) same ∙ ap left_at comes in
      omega (arith, was, now, left_falls universe old new stay))
  | inr later ↦
      omega
      (arith, at_most (is_on old first) (is_on new first) (stay first), left_less universe old new node stay later absent comes)
]

-- ---- moves

pub record Moves (universe old new : List NodeName) : Type 0 where
  pub longer : length old ≤ length new
  pub same : length new ≤ length old → new ≡ old
  pub fewer : left universe new + length new ≤ left universe old + length old
  pub kept : (node : NodeName) → is_on old node ≡ true → is_on new node ≡ true

-- nothing moves
pub stays : (universe on : List NodeName) → Moves universe on on
stays universe on = record { longer = omega arith; same = λ h. refl; fewer = omega arith; kept = λ node h. h }

-- one move after another
pub moves_on : (universe first second third : List NodeName) → Moves universe first second → Moves universe second third → Moves universe first third
moves_on universe first second third a b = record {
  longer = omega (arith, a.longer, b.longer);
  same = λ h. b.same (omega (arith, h, a.longer)) ∙ a.same (omega (arith, h, b.longer));
  fewer = omega (arith, a.fewer, b.fewer);
  kept = λ node h. b.kept node (a.kept node h);
}

-- a node at its place makes the list longer by one
one_longer : (o : Ordering) (node first : NodeName) (on put : List NodeName) → node_cmp node first ≡ o → is_at (node_cmp node) first ≡ false
    → length put ≡ suc (length on)
    → length (match_ordering o (node ∷ first ∷ on) (first ∷ on) (first ∷ put)) ≡ suc (length (first ∷ on))
one_longer Less node first on put is other later = refl
one_longer Equal node first on put is other later = absurd (false≢true (sym other ∙ ap is_eq is))
one_longer Greater node first on put is other later = ap suc later

-- where neither holds
or_none : (a b : Bool) → (a || b) ≡ false → (a ≡ false) × (b ≡ false)
or_none true b is = absurd (false≢true (sym is))
or_none false b is = (refl, is)

-- a node that isn't on makes the list longer by one
inserted_longer : (node : NodeName) (on : List NodeName) → is_on on node ≡ false → length (insert_key node_cmp on node) ≡ suc (length on)
inserted_longer node [] absent = refl
inserted_longer node (first ∷ on) absent =
    let parts = or_none (is_at (node_cmp node) first) (is_on on node) absent in
    one_longer (node_cmp node first) node first on (insert_key node_cmp on node) refl parts.0 (inserted_longer node on parts.1)

-- a node of the universe that isn't on is inserted
insert_moves : (universe on : List NodeName) (node : NodeName) → Contains universe node → is_on on node ≡ false
    → Moves universe on (insert_key node_cmp on node)
insert_moves universe on node here absent =
    let after = insert_key node_cmp on node in
    let long : length after ≡ suc (length on) = inserted_longer node on absent in
    let stay : (other : NodeName) → is_on on other ≡ true → is_on after other ≡ true =
    λ other is. on_inserted node on other ∙ or_right (is_at (node_cmp other) node) (is_on on other) is in
    let comes : is_on after node ≡ true = on_inserted node on node ∙ or_left (is_at (node_cmp node) node) (is_on on node) (node_itself node) in
    let less = left_less universe on after node stay here absent comes in
    record {
      longer = omega (arith, long);
      same = λ h. absurd (omega (arith, long, h));
      fewer = omega (arith, long, less);
      kept = stay;
    }

-- a node of the universe is put
pub put_moves : (universe on : List NodeName) (node : NodeName) → Contains universe node → Moves universe on (put_on on node)
put_moves universe on node here = elim (cases_Bool (is_on on node)) [
  | inl there ↦
      subst (Moves universe on) (sym (cond-true (is_on on node) on (insert_key node_cmp on node) there)) (stays universe on)
  | inr absent ↦
      subst (Moves universe on) (sym (cond-false (is_on on node) on (insert_key node_cmp on node) absent)) (insert_moves universe on node here absent)
]

-- what moves where a test holds, moves
pub cond_moves : (universe on after : List NodeName) (test : Bool) → Moves universe on after → Moves universe on (cond test after on)
cond_moves universe on after true moves = moves
cond_moves universe on after false moves = stays universe on

-- ---- one after another

-- each step moves
abbrev pub AllMove : {X : Type 0} → List NodeName → (List NodeName → X → List NodeName) → List X → Type 0
AllMove {X} universe step xs = (x : X) → Contains xs x → (on : List NodeName) → Moves universe on (step on x)

-- steps that move, one after another
pub each_moves : {X : Type 0} (universe : List NodeName) (step : List NodeName → X → List NodeName) (xs : List X) → AllMove universe step xs
    → (on : List NodeName) → Moves universe on (each_put step on xs)
each_moves universe step [] all on = stays universe on
each_moves universe step (x ∷ xs) all on =
    moves_on universe on (step on x) (each_put step (step on x) xs) (all x (contains_head x xs) on)
    (each_moves universe step xs (λ y here. all y (contains_tail x y xs here)) (step on x))

-- where two moves come to the start, the first does
pub first_same : (universe first second third : List NodeName) → Moves universe first second → Moves universe second third → third ≡ first
    → second ≡ first
first_same universe first second third a b is = a.same (let e = ap length is in omega (arith, e, b.longer))

-- where all steps come to the start, each does
pub each_same : {X : Type 0} (universe : List NodeName) (step : List NodeName → X → List NodeName) (xs : List X) → AllMove universe step xs
    → (on : List NodeName) → each_put step on xs ≡ on → (x : X) → Contains xs x → step on x ≡ on
each_same universe step [] all on is x here = absurd (contains_nothing x here)
each_same universe step (y ∷ xs) all on is x here =
    let later : AllMove universe step xs = λ z there. all z (contains_tail y z xs there) in
    let first : step on y ≡ on =
    first_same universe on (step on y) (each_put step (step on y) xs) (all y (contains_head y xs) on) (each_moves universe step xs later (step on y)) is in
    elim (contains_cases y x xs here) [
      | inl same ↦ subst (λ z. step on z ≡ on) same first
      | inr there ↦ each_same universe step xs later on (subst (λ l. each_put step l xs ≡ on) first is) x there
    ]
