-- Lists of names: whether one has a name, and their order. Such a list is often that of the keys of a set.
use Rattle.std.specs.Str.{bytes_eq}
use Rattle.std.proofs.Common.{◌≡◌, ℕ, Bool, true, false, ◌||◌, List, [], ◌∷◌, ◌++◌, refl, sym, ap, ◌∙◌, inl, inr}
use Rattle.std.specs.Prelude.{Contains}
use Rattle.std.specs.Borrow.{Bor}
use Rattle.std.specs.BTreeSet.{insert_key}
use Rattle.std.specs.Cmp.Lexicographic.{slice_cmp, bytes_decides, nat_list_eq_equiv, nat_list_cmp_total}
use Rattle.std.specs.List.{list_any}
use Rattle.std.specs.List.Sorted.{IsStrictlySortedBy}
use Rattle.std.specs.Ordering.{is_eq, is_le, match_ordering, nat_cmp}
use Rattle.std.specs.declared.cmp.Ordering.{Ordering}
use Rattle.std.specs.declared.cmp.Ordering.TheVariants.{Less, Equal, Greater}
use Rattle.std.proofs.lemmas.Bool.{or_cases}
use Rattle.std.proofs.lemmas.Cmp.{tied_itself}
use Rattle.std.proofs.lemmas.List.Folds.{list_any-append}
use Rattle.std.proofs.lemmas.Map.Text.{is_eq-slice_cmp}
use Rattle.std.proofs.lemmas.Map.Views.{Contains-from_any, list_any-from_Contains}
use Rattle.spm_trait.specs.Closure.{IsInOrder}
use Rattle.spm_trait.specs.Reached.{names_of}

-- the name is among these
abbrev pub has : List (List ℕ) → List ℕ → Bool
has names name = list_any (bytes_eq name) names

-- equal by the test is one
pub same-from_true : (x y : List ℕ) → bytes_eq x y ≡ true → x ≡ y
same-from_true x y h = (bytes_decides x y).0 h

-- a name is equal to itself
pub same_name-itself : (x : List ℕ) → bytes_eq x x ≡ true
same_name-itself x = nat_list_eq_equiv.refl x

-- the test of two names goes both ways
pub same_name-turned : (x y : List ℕ) → bytes_eq x y ≡ bytes_eq y x
same_name-turned x y = nat_list_eq_equiv.symm x y

-- what is there by the test is contained
pub Contains-from_has : (names : List (List ℕ)) (name : List ℕ) → has names name ≡ true → Contains names name
Contains-from_has names name h = Contains-from_any same-from_true name names h

-- what is contained is there by the test
pub has-from_Contains : (names : List (List ℕ)) (name : List ℕ) → Contains names name → has names name ≡ true
has-from_Contains names name h = list_any-from_Contains nat_list_eq_equiv name names h

-- the order of references to names, as a set of them has it
abbrev pub key_cmp : Bor (List ℕ) → Bor (List ℕ) → Ordering
key_cmp x y = slice_cmp nat_cmp x.now y.now

-- a truth counts once
or_twice : (a b : Bool) → (a || b) ≡ (a || (a || b))
or_twice true b = refl
or_twice false b = refl

-- truths may change places
or_swapped : (a b c : Bool) → (a || (b || c)) ≡ (b || (a || c))
or_swapped true true c = refl
or_swapped true false c = refl
or_swapped false b c = refl

-- what is ordered as equal is one
same-from_Equal : (x y : List ℕ) → slice_cmp nat_cmp x y ≡ Equal → x ≡ y
same-from_Equal x y h = same-from_true x y (sym (is_eq-slice_cmp x y) ∙ ap is_eq h)

-- a key that is put before, at or behind another is there
put_key : (o : Ordering) (key first : Bor (List ℕ)) (others put : List (Bor (List ℕ))) (name : List ℕ)
    → slice_cmp nat_cmp key.now first.now ≡ o
    → has (names_of put) name ≡ (bytes_eq name key.now || has (names_of others) name)
    → has (names_of (match_ordering o (key ∷ first ∷ others) (first ∷ others) (first ∷ put))) name
    ≡ (bytes_eq name key.now || has (names_of (first ∷ others)) name)
put_key Less key first others put name is later = refl
put_key Equal key first others put name is later =
    rw (same-from_Equal key.now first.now is) (or_twice (bytes_eq name first.now) (has (names_of others) name))
put_key Greater key first others put name is later =
    rw later (or_swapped (bytes_eq name first.now) (bytes_eq name key.now) (has (names_of others) name))

-- after a key is inserted, it and the earlier keys are there
has-insert_key : (key : Bor (List ℕ)) (keys : List (Bor (List ℕ))) (name : List ℕ)
    → has (names_of (insert_key key_cmp keys key)) name ≡ (bytes_eq name key.now || has (names_of keys) name)
has-insert_key key [] name = refl
has-insert_key key (first ∷ others) name =
    put_key (key_cmp key first) key first others (insert_key key_cmp others key) name refl (has-insert_key key others name)

-- a set has a name that was put into it, and those that it had
pub has-put : (key : Bor (List ℕ)) (keys after : List (Bor (List ℕ))) → after ≡ insert_key key_cmp keys key
    → (name : List ℕ) → has (names_of after) name ≡ (bytes_eq name key.now || has (names_of keys) name)
has-put key keys after is name = rw is (has-insert_key key keys name)

-- a set has a name where a query finds it
pub has-keys : (keys : List (Bor (List ℕ))) (name : List ℕ)
    → has (names_of keys) name ≡ list_any (λ (key : Bor (List ℕ)). is_eq (slice_cmp nat_cmp name key.now)) keys
has-keys [] name = refl
has-keys (key ∷ keys) name = rw (is_eq-slice_cmp name key.now, has-keys keys name)

-- the keys of a set are in order
pub IsInOrder-from_keys : (keys : List (Bor (List ℕ))) → IsStrictlySortedBy key_cmp keys → IsInOrder (names_of keys)
unfolding IsStrictlySortedBy
IsInOrder-from_keys [] h = tt
IsInOrder-from_keys (key ∷ []) h = tt
IsInOrder-from_keys (key ∷ next ∷ keys) h = (h.0.0, IsInOrder-from_keys (next ∷ keys) h.1)

-- the end of names in order is in order
IsInOrder-behind : (before names : List (List ℕ)) → IsInOrder (before ++ names) → IsInOrder names
IsInOrder-behind [] names h = h
IsInOrder-behind (name ∷ []) [] h = tt
IsInOrder-behind (name ∷ []) (next ∷ names) h = h.1
IsInOrder-behind (name ∷ next ∷ before) names h = IsInOrder-behind (next ∷ before) names h.1

-- a name is below each that stands behind it
below_later : (name : List ℕ) (behind : List (List ℕ)) → IsInOrder (name ∷ behind) → (other : List ℕ) → has behind other ≡ true → slice_cmp nat_cmp name other ≡ Less
below_later name [] h other there = cc
below_later name (next ∷ behind) h other there = elim (or_cases (bytes_eq other next) (has behind other) there) [
  | inl same ↦ rw (same-from_true other next same) h.0
  | inr later ↦ nat_list_cmp_total.trans name next other h.0 (below_later next behind h.1 other later)
]

-- of two of which one holds, the second where the first does not
or_second : (a b : Bool) → (a || b) ≡ true → a ≡ false → b ≡ true
or_second true b h apart = cc
or_second false b h apart = h

-- of names in order, one is at most each other that doesn't stand before it
pub le-from_place : (before behind : List (List ℕ)) (name other : List ℕ) → IsInOrder (before ++ name ∷ behind)
    → has (before ++ name ∷ behind) other ≡ true → has before other ≡ false → is_le (slice_cmp nat_cmp name other) ≡ true
le-from_place before behind name other h there apart =
    let later = or_second (has before other) (bytes_eq other name || has behind other) (sym (list_any-append (bytes_eq other) before (name ∷ behind)) ∙ there) apart in
    elim (or_cases (bytes_eq other name) (has behind other) later) [
      | inl same ↦ rw (same-from_true other name same) (ap is_le (tied_itself nat_list_cmp_total name))
      | inr behind_it ↦ ap is_le (below_later name behind (IsInOrder-behind before (name ∷ behind) h) other behind_it)
    ]
