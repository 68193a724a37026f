-- The choices of a package that a requirement doesn't contain.
use Rattle.std.proofs.Common.{◌≡◌, ℕ, zero, suc, ◌+◌, ◌<◌, ◌==◌, ◌&&◌, ◌||◌, Bool, true, false, not, cond, List, [], ◌∷◌, All, length, refl, ap, ap₂, ◌∙◌, subst, arith, eq-eqb, lt-ltb}
use Rattle.std.specs.List.{slice_get}
use Rattle.std.proofs.lemmas.Bool.{cond_both}
use Rattle.std.proofs.lemmas.List.Elements.{All-cons, All-nil}
use Rattle.pub_set.specs.Choices.{ChoiceSet, choices_of, is_among, opposite, set_where}
use Rattle.pub_term.specs.declared.node.NodeName.TheVariants.{Package}
use Rattle.pub_set.proofs.AscendingLemmas.{IsAscending-where, ascending_is_where, is_among-where}
use Rattle.spm_version.specs.Release.{Parts}
use Rattle.spm_version.specs.Requirement.{contains, places_from, ranks_of}
use Rattle.spm_version.specs.declared.requirement.Requirement.{Requirement}
use Rattle.pub_facts.specs.Catalogue.{Lookups, release_at}
use Rattle.pub_facts.specs.Facts.{is_inside, outside}

-- no place is before the first
among_later : (place k : ℕ) (requirement : Requirement) (list : List Parts) → k < place → is_among (places_from place requirement list) k ≡ false
among_later place k requirement [] before = refl
among_later place k requirement (release ∷ list) before =
    cond_both (contains requirement release) (place ∷ places_from (place + 1) requirement list) (places_from (place + 1) requirement list)
    (λ places. is_among places k ≡ false)
    (λ _. no_first (place == k) (is_among (places_from (place + 1) requirement list) k) (unequal place k before)
    (among_later (place + 1) k requirement list (omega (arith, before))))
    (λ _. among_later (place + 1) k requirement list (omega (arith, before)))
  where
    unequal : (m n : ℕ) → n < m → (m == n) ≡ false
    unequal m n below = grind (arith, below)

    no_first : (a b : Bool) → a ≡ false → b ≡ false → (a || b) ≡ false
    no_first a b first second = ap (λ c. c || b) first ∙ second

unequal : (m n : ℕ) → (m == (m + suc n)) ≡ false
unequal m n = grind arith

skip : (a b c : Bool) → a ≡ false → b ≡ c → (a || b) ≡ c
skip a b c none same = ap (λ d. d || b) none ∙ same

shift : (m n : ℕ) → (m + 1) + n ≡ m + suc n
shift m n = omega arith

-- a place is among those of the contained releases exactly where its release is contained
among_places : (place k : ℕ) (requirement : Requirement) (list : List Parts)
    → is_among (places_from place requirement list) (place + k) ≡ is_inside requirement (slice_get list k)
among_places place k requirement [] = refl
among_places place zero requirement (release ∷ list) =
    at_first (contains requirement release) refl
  where
    at_first : (b : Bool) → contains requirement release ≡ b
        → is_among (cond b (place ∷ places_from (place + 1) requirement list) (places_from (place + 1) requirement list)) (place + 0) ≡ b
    at_first true is = ap (λ c. c || is_among (places_from (place + 1) requirement list) (place + 0)) (eq-eqb place (place + 0) (omega arith))
    at_first false is = among_later (place + 1) (place + 0) requirement list (omega arith)
among_places place (suc k) requirement (release ∷ list) =
    let later : is_among (places_from (place + 1) requirement list) (place + suc k) ≡ is_inside requirement (slice_get list k)
    = subst (λ n. is_among (places_from (place + 1) requirement list) n ≡ is_inside requirement (slice_get list k)) (shift place k)
    (among_places (place + 1) k requirement list) in
    cond_both (contains requirement release) (place ∷ places_from (place + 1) requirement list) (places_from (place + 1) requirement list)
    (λ places. is_among places (place + suc k) ≡ is_inside requirement (slice_get list k))
    (λ _. skip (place == (place + suc k)) _ _ (unequal place k) later) (λ _. later)

-- the ranks are the choices whose releases are contained
among_ranks : (requirement : Requirement) (list : List Parts) (choice : ℕ) → is_among (ranks_of requirement list) choice ≡ is_inside requirement (release_at list choice)
among_ranks requirement list zero = among_later 1 0 requirement list (omega arith)
among_ranks requirement list (suc k) = subst (λ n. is_among (places_from 1 requirement list) n ≡ is_inside requirement (slice_get list k)) (next k) (among_places 1 k requirement list)
  where
    next : (n : ℕ) → 1 + n ≡ suc n
    next n = omega arith

abbrev IsBelow : ℕ → ℕ → Type 0
IsBelow size choice = choice < size

places_below : (place : ℕ) (requirement : Requirement) (list : List Parts) (size : ℕ) → place + length list ≡ size
    → All (IsBelow size) (places_from place requirement list)
places_below place requirement [] size is = All-nil (IsBelow size)
places_below place requirement (release ∷ list) size is =
    let later = places_below (place + 1) requirement list size (omega (arith, is)) in
    cond_both (contains requirement release) (place ∷ places_from (place + 1) requirement list) (places_from (place + 1) requirement list)
    (All (IsBelow size)) (λ _. All-cons (IsBelow size) place (places_from (place + 1) requirement list) (omega (arith, is)) later) (λ _. later)

-- each rank is a choice of the package
pub ranks_below : (requirement : Requirement) (list : List Parts) → All (λ choice. choice < length list + 1) (ranks_of requirement list)
ranks_below requirement list = places_below 1 requirement list (length list + 1) (omega arith)

-- sets of one size that pass the same choices are equal
pub where_same : (size : ℕ) (first second : ℕ → Bool) → ((k : ℕ) → k < size → first k ≡ second k) → set_where size first ≡ set_where size second
where_same size first second same =
    ap (λ members. record { size = size; members = members }) (ascending_is_where size _ second (IsAscending-where size first)
    (λ k below. is_among-where size first k ∙ (ap (λ b. b && first k) (lt-ltb k size below) ∙ same k below)))

-- what is left without the ranks is none and what isn't contained
pub outside_is : (requirement : Requirement) (list : List Parts)
    → opposite (choices_of (length list + 1) (ranks_of requirement list)) ≡ set_where (length list + 1) (λ choice. not (is_inside requirement (release_at list choice)))
outside_is requirement list = where_same (length list + 1) _ _ (λ k below. ap not (is_among-where (length list + 1) (is_among (ranks_of requirement list)) k
    ∙ (ap (λ b. b && is_among (ranks_of requirement list) k) (lt-ltb k (length list + 1) below) ∙ among_ranks requirement list k)))

one_more : (n : ℕ) → n + 1 ≡ suc n
one_more n = omega arith

-- a package is none or not contained, by the opposite of the ranks
pub outside_at : (l : Lookups) (identity copy : List ℕ) (requirement : Requirement) (list : List Parts) (numbers : List ℕ) (inside choices : ChoiceSet)
    → list ≡ l.list identity → numbers ≡ ranks_of requirement list → inside ≡ choices_of (length list + 1) numbers → choices ≡ opposite inside → copy ≡ identity
    → record { node = Package copy; choices = choices } ≡ outside l identity requirement
outside_at l identity copy requirement list numbers inside choices is_list is_numbers is_inside_it is_choices is_copy =
    ap₂ (λ (i : List ℕ) (s : ChoiceSet). record { node = Package i; choices = s }) is_copy
    (is_choices ∙ (ap opposite (is_inside_it ∙ ap (choices_of (length list + 1)) is_numbers)
    ∙ (outside_is requirement list
    ∙ (ap (λ n. set_where n (λ choice. not (is_inside requirement (release_at list choice)))) (one_more (length list))
    ∙ ap (λ ps. set_where (suc (length ps)) (λ choice. not (is_inside requirement (release_at ps choice)))) is_list))))
