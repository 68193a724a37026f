-- Loops that put what is made of each item behind what there is.
use Rattle.std.proofs.Common.{◌≡◌, ◌≤◌, ◌<◌, ◌+◌, ℕ, zero, suc, Bool, true, false, List, [], ◌∷◌, ◌++◌, map, flat_map, drop, length, get_or, sym, ap, ◌∙◌, subst, arith, append_assoc}
use Rattle.std.specs.List.{filter}
use Rattle.std.proofs.lemmas.Bool.{cond-false, cond-true}

dropped : {X : Type 0} (xs : List X) (i : ℕ) (x : X) → i < length xs → get_or xs i x ≡ x → drop i xs ≡ x ∷ drop (suc i) xs
dropped [] i x below is = absurd (omega (arith, below))
dropped (first ∷ xs) zero x below is = ap (λ z. z ∷ xs) is
dropped (first ∷ xs) (suc i) x below is = dropped xs i x (omega (arith, below)) is

-- the item at a place, and those behind it
pub drop_next : {X : Type 0} (xs : List X) (i : ℕ) (x : X) → i < length xs → get_or xs i x ≡ x → drop i xs ≡ x ∷ drop (i + 1) xs
drop_next xs i x below is = dropped xs i x below is ∙ ap (λ n. x ∷ drop n xs) (one_more i)
  where
    one_more : (n : ℕ) → suc n ≡ n + 1
    one_more n = omega arith

-- one more item, of which one thing is made
pub map_step : {X Y : Type 0} (f : X → Y) (xs : List X) (i : ℕ) (x : X) (y : Y) (before next all : List Y) → i < length xs → x ≡ get_or xs i x → y ≡ f x
    → next ≡ before ++ y ∷ [] → before ++ map f (drop i xs) ≡ all → next ++ map f (drop (i + 1) xs) ≡ all
map_step f xs i x y before next all below is is_y made so_far =
    ap (λ ys. ys ++ map f (drop (i + 1) xs)) (made ∙ ap (λ z. before ++ z ∷ []) is_y)
    ∙ (append_assoc before (f x ∷ []) (map f (drop (i + 1) xs)) ∙ (ap (λ ys. before ++ map f ys) (sym (drop_next xs i x below (sym is))) ∙ so_far))

-- the same where the items are given as a list that is that one
pub map_step_of : {X Y : Type 0} (f : X → Y) (xs given : List X) (i : ℕ) (x : X) (y : Y) (before next all : List Y) → given ≡ xs → i < length given
    → x ≡ get_or given i x → y ≡ f x → next ≡ before ++ y ∷ [] → before ++ map f (drop i xs) ≡ all → next ++ map f (drop (i + 1) xs) ≡ all
map_step_of f xs given i x y before next all same below is is_y made so_far =
    map_step f xs i x y before next all (subst (λ zs. i < length zs) same below) (subst (λ zs. x ≡ get_or zs i x) same is) is_y made so_far

-- one more item, of which several are made
pub flat_step : {X Y : Type 0} (f : X → List Y) (xs : List X) (i : ℕ) (x : X) (before next all : List Y) → i < length xs → x ≡ get_or xs i x
    → next ≡ before ++ f x → before ++ flat_map f (drop i xs) ≡ all → next ++ flat_map f (drop (i + 1) xs) ≡ all
flat_step f xs i x before next all below is made so_far =
    ap (λ ys. ys ++ flat_map f (drop (i + 1) xs)) made
    ∙ (append_assoc before (f x) (flat_map f (drop (i + 1) xs)) ∙ (ap (λ ys. before ++ flat_map f ys) (sym (drop_next xs i x below (sym is))) ∙ so_far))

-- one more item that passes a test, of which several are made
pub kept_step : {X Y : Type 0} (f : X → List Y) (test : X → Bool) (xs : List X) (i : ℕ) (x : X) (before next all : List Y) → i < length xs
    → x ≡ get_or xs i x → test x ≡ true → next ≡ before ++ f x → before ++ flat_map f (filter test (drop i xs)) ≡ all
    → next ++ flat_map f (filter test (drop (i + 1) xs)) ≡ all
kept_step f test xs i x before next all below is passes made so_far =
    ap (λ ys. ys ++ flat_map f (filter test (drop (i + 1) xs))) made
    ∙ (append_assoc before (f x) (flat_map f (filter test (drop (i + 1) xs)))
    ∙ (ap (λ ys. before ++ flat_map f ys)
    (sym (ap (filter test) (drop_next xs i x below (sym is)) ∙ cond-true (test x) (x ∷ filter test (drop (i + 1) xs)) (filter test (drop (i + 1) xs)) passes))
    ∙ so_far))

-- one more item that doesn't pass
pub skipped_step : {X Y : Type 0} (f : X → List Y) (test : X → Bool) (xs : List X) (i : ℕ) (x : X) (before all : List Y) → i < length xs
    → x ≡ get_or xs i x → test x ≡ false → before ++ flat_map f (filter test (drop i xs)) ≡ all
    → before ++ flat_map f (filter test (drop (i + 1) xs)) ≡ all
skipped_step f test xs i x before all below is fails so_far =
    ap (λ ys. before ++ flat_map f ys)
    (sym (ap (filter test) (drop_next xs i x below (sym is)) ∙ cond-false (test x) (x ∷ filter test (drop (i + 1) xs)) (filter test (drop (i + 1) xs)) fails))
    ∙ so_far

-- one more item of those that are left, of which one thing is made
pub item_step : {X Y : Type 0} (f : X → Y) (items rest : List X) (x : X) (y : Y) (before next all : List Y) → items ≡ x ∷ rest → y ≡ f x
    → next ≡ before ++ y ∷ [] → before ++ map f items ≡ all → next ++ map f rest ≡ all
item_step f items rest x y before next all is is_y made so_far =
    ap (λ ys. ys ++ map f rest) (made ∙ ap (λ z. before ++ z ∷ []) is_y)
    ∙ (append_assoc before (f x ∷ []) (map f rest) ∙ (ap (λ xs. before ++ map f xs) (sym is) ∙ so_far))

-- the start, with nothing made
pub item_start : {X Y : Type 0} (f : X → Y) (items all : List X) (before : List Y) → items ≡ all → before ≡ [] → before ++ map f items ≡ map f all
item_start f items all before is none = ap (λ ys. ys ++ map f items) none ∙ ap (map f) is
