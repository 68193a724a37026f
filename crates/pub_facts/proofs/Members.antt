-- What lists contain, by their makings.
use Rattle.std.proofs.Common.{◌≡◌, ℕ, zero, suc, ◌<◌, Bool, true, List, [], ◌∷◌, map, length, Contains, slice_index_or, Some, refl, sym, ap, ◌∙◌, subst, inl, inr, ◌⊎◌, arith}
use Rattle.std.specs.List.{filter, flat_map, slice_get}
use Rattle.std.proofs.lemmas.Bool.{cases_Bool, cond-false, cond-true}
use Rattle.std.proofs.lemmas.List.Elements.{Contains-append_left, Contains-append_right, Contains-append_cases}
use Rattle.spm_version.specs.Release.{Parts}
use Rattle.pub_facts.specs.Catalogue.{release_at}

-- nothing is in the empty list
pub contains_nothing : {X : Type 0} (x : X) → Contains [] x → ⊥
contains_nothing x here = absurd (omega (arith, here.1))

-- a head is in its list
pub contains_head : {X : Type 0} (x : X) (xs : List X) → Contains (x ∷ xs) x
contains_head x xs = (0, omega arith, refl)

-- what is in the tail is in the list
pub contains_tail : {X : Type 0} (y x : X) (xs : List X) → Contains xs x → Contains (y ∷ xs) x
contains_tail y x xs here = (suc here.0, omega (arith, here.1), here.2)

at_place : {X : Type 0} (y x : X) (xs : List X) (k : ℕ) → k < length (y ∷ xs) → slice_index_or (y ∷ xs) k x ≡ x → (y ≡ x) ⊎ Contains xs x
at_place y x xs zero below is = inl is
at_place y x xs (suc k) below is = inr (k, omega (arith, below), is)

-- what is in a list is its head, or in its tail
pub contains_cases : {X : Type 0} (y x : X) (xs : List X) → Contains (y ∷ xs) x → (y ≡ x) ⊎ Contains xs x
contains_cases y x xs here = at_place y x xs here.0 here.1 here.2

-- what is in a list of one is that one
pub contains_one : {X : Type 0} (y x : X) → Contains (y ∷ []) x → y ≡ x
contains_one y x here = elim (contains_cases y x [] here) [
  | inl same ↦ same
  | inr none ↦ absurd (contains_nothing x none)
]

-- the image of what is there is in the map
pub contains_map : {X Y : Type 0} (f : X → Y) (xs : List X) (x : X) → Contains xs x → Contains (map f xs) (f x)
contains_map f [] x here = absurd (contains_nothing x here)
contains_map f (y ∷ xs) x here = elim (contains_cases y x xs here) [
  | inl same ↦ subst (λ z. Contains (f y ∷ map f xs) z) (ap f same) (contains_head (f y) (map f xs))
  | inr there ↦ contains_tail (f y) (f x) (map f xs) (contains_map f xs x there)
]

-- what is in a map is the image of something
pub from_map : {X Y : Type 0} (f : X → Y) (xs : List X) (y : Y) → Contains (map f xs) y → (x : X) × Contains xs x × (f x ≡ y)
from_map f [] y here = absurd (contains_nothing y here)
from_map f (x ∷ xs) y here = elim (contains_cases (f x) y (map f xs) here) [
  | inl same ↦ (x, contains_head x xs, same)
  | inr there ↦ (let found = from_map f xs y there in (found.0, contains_tail x found.0 xs found.1, found.2))
]

-- what is made of something there is in the flat map
pub contains_flat_map : {X Y : Type 0} (f : X → List Y) (xs : List X) (x : X) (y : Y) → Contains xs x → Contains (f x) y → Contains (flat_map f xs) y
contains_flat_map f [] x y here made = absurd (contains_nothing x here)
contains_flat_map f (z ∷ xs) x y here made = elim (contains_cases z x xs here) [
  | inl same ↦ Contains-append_left (f z) (flat_map f xs) y (subst (λ w. Contains (f w) y) (sym same) made)
  | inr there ↦ Contains-append_right (f z) (flat_map f xs) y (contains_flat_map f xs x y there made)
]

-- what is in a flat map is made of something
pub from_flat_map : {X Y : Type 0} (f : X → List Y) (xs : List X) (y : Y) → Contains (flat_map f xs) y → (x : X) × Contains xs x × Contains (f x) y
from_flat_map f [] y here = absurd (contains_nothing y here)
from_flat_map f (x ∷ xs) y here = elim (Contains-append_cases (f x) (flat_map f xs) y here) [
  | inl made ↦ (x, contains_head x xs, made)
  | inr there ↦ (let found = from_flat_map f xs y there in (found.0, contains_tail x found.0 xs found.1, found.2))
]

-- what passes the test is in the filtered list
pub contains_filter : {X : Type 0} (test : X → Bool) (xs : List X) (x : X) → test x ≡ true → Contains xs x → Contains (filter test xs) x
contains_filter test [] x passes here = here
contains_filter test (y ∷ xs) x passes here = elim (contains_cases y x xs here) [
  | inl same ↦
      subst (λ zs. Contains zs x) (sym (cond-true (test y) (y ∷ filter test xs) (filter test xs) (ap test same ∙ passes)))
      (subst (λ z. Contains (z ∷ filter test xs) x) (sym same) (contains_head x (filter test xs)))
  | inr there ↦ elim (cases_Bool (test y)) [
    | inl kept ↦
        subst (λ zs. Contains zs x) (sym (cond-true (test y) (y ∷ filter test xs) (filter test xs) kept))
        (contains_tail y x (filter test xs) (contains_filter test xs x passes there))
    | inr dropped ↦
        subst (λ zs. Contains zs x) (sym (cond-false (test y) (y ∷ filter test xs) (filter test xs) dropped)) (contains_filter test xs x passes there)
  ]
]

-- what is in a filtered list is in the list, and passes
pub from_filter : {X : Type 0} (test : X → Bool) (xs : List X) (x : X) → Contains (filter test xs) x → Contains xs x × (test x ≡ true)
from_filter test [] x here = absurd (contains_nothing x here)
from_filter test (y ∷ xs) x here = elim (cases_Bool (test y)) [
  | inl kept ↦ elim (contains_cases y x (filter test xs) (subst (λ zs. Contains zs x) (cond-true (test y) (y ∷ filter test xs) (filter test xs) kept) here)) [
    | inl same ↦ (subst (λ z. Contains (z ∷ xs) x) (sym same) (contains_head x xs), ap test (sym same) ∙ kept)
    | inr there ↦ (let found = from_filter test xs x there in (contains_tail y x xs found.0, found.1))
  ]
  | inr dropped ↦
      (let found = from_filter test xs x (subst (λ zs. Contains zs x) (cond-false (test y) (y ∷ filter test xs) (filter test xs) dropped) here) in
      (contains_tail y x xs found.0, found.1))
]

contains_got : (list : List Parts) (k : ℕ) (release : Parts) → slice_get list k ≡ Some release → Contains list release
contains_got [] k release is = cc
contains_got (first ∷ list) zero release is = (let e : first ≡ release = cc in subst (λ z. Contains (z ∷ list) release) (sym e) (contains_head release list))
contains_got (first ∷ list) (suc k) release is = contains_tail first release list (contains_got list k release is)

-- a release at a choice is listed
pub listed_at : (list : List Parts) (choice : ℕ) (release : Parts) → release_at list choice ≡ Some release → Contains list release
listed_at list zero release is = cc
listed_at list (suc k) release is = contains_got list k release is
