-- What the sets of written terms have.
use Rattle.std.proofs.Common.{◌≡◌, ℕ, zero, suc, ◌<◌, ◌==◌, Bool, true, false, ◌&&◌, nat_lt, List, [], ◌∷◌, ◌++◌, Option, Some, None, refl, sym, ap, ◌∙◌, subst, inl, inr, eqb-true, eq-eqb, lt-ltb, arith}
use Rattle.std.proofs.lemmas.Bool.{and_from, and_parts, false≢true, or_cases, or_left}
use Rattle.pub_set.specs.Choices.{choices_of, has, is_among, set_where}
use Rattle.pub_set.proofs.AscendingLemmas.{is_among-where}
use Rattle.pub_term.specs.declared.node.NodeName.{NodeName}
use Rattle.pub_facts.specs.Catalogue.{Catalogue, Owner}
use Rattle.pub_facts.specs.Facts.{Load, owner_node, size_of, subject_terms, trait_node, under_terms, violates}
use Rattle.pub_facts.specs.declared.fact.Written.{Written}
use Rattle.pub_facts.specs.Assigns.{IsAssignment, IsOn}

-- a set of the choices that pass a test has just these
pub has_where : (size : ℕ) (test : ℕ → Bool) (k : ℕ) → k < size → has (set_where size test) k ≡ test k
has_where size test k below = is_among-where size test k ∙ ap (λ t. t && test k) (lt-ltb k size below)

among_one : (k choice : ℕ) → is_among (choice ∷ []) k ≡ true → k ≡ choice
among_one k choice among = elim (or_cases (choice == k) false among) [
  | inl same ↦ sym (eqb-true choice k same)
  | inr none ↦ absurd (false≢true none)
]

-- a set of one choice has no other
pub has_only : (size choice k : ℕ) → has (choices_of size (choice ∷ [])) k ≡ true → k ≡ choice
has_only size choice k here = among_one k choice ((and_parts (nat_lt k size) (is_among (choice ∷ []) k) (sym (is_among-where size (is_among (choice ∷ [])) k) ∙ here)).1)

-- and it has that one
pub only_has : (size choice k : ℕ) → k < size → k ≡ choice → has (choices_of size (choice ∷ [])) k ≡ true
only_has size choice k below same = has_where size (is_among (choice ∷ [])) k below ∙ or_left (choice == k) false (eq-eqb choice k (sym same))

-- both parts of the terms are violated
pub violates-append : (at : NodeName → ℕ) (first second : List Written) → violates at (first ++ second) ≡ (violates at first && violates at second)
violates-append at [] second = refl
violates-append at (term ∷ first) second =
    ap (λ b. has term.choices (at term.node) && b) (violates-append at first second)
    ∙ assoc (has term.choices (at term.node)) (violates at first) (violates at second)
  where
    assoc : (a b c : Bool) → (a && (b && c)) ≡ ((a && b) && c)
    assoc true b c = refl
    assoc false b c = refl

-- ---- switches

size_of_trait : (c : Catalogue) (owner : Owner) (name : List ℕ) → size_of c.lookups (trait_node owner name) ≡ 2
size_of_trait c None name = refl
size_of_trait c (Some identity) name = refl

-- a trait's choice is 0 or 1
pub trait_below : (c : Catalogue) (at : NodeName → ℕ) (owner : Owner) (name : List ℕ) → IsAssignment c at → at (trait_node owner name) < 2
trait_below c at owner name sized = subst (λ n. at (trait_node owner name) < n) (size_of_trait c owner name) (sized (trait_node owner name))

-- ---- the subject

-- where the subject is violated, the owner has its choice and the trait is on
pub subject_holds : (c : Catalogue) (at : NodeName → ℕ) (load : Load) → violates at (subject_terms c.lookups load) ≡ true
    → (at (owner_node load.owner) ≡ load.choice) × IsOn at load.owner load.under
subject_holds c at load violated =
    let parts = and_parts _ _ violated in
    (has_only (size_of c.lookups (owner_node load.owner)) load.choice (at (owner_node load.owner)) parts.0, on_there load.under parts.1)
  where
    on_there : (under : Option (List ℕ)) → violates at (under_terms load.owner under) ≡ true → IsOn at load.owner under
    on_there None here = tt
    on_there (Some name) here =
        has_only 2 1 (at (trait_node load.owner name)) ((and_parts _ true here).0)

-- where the owner has its choice and the trait is on, the subject is violated
pub holds_subject : (c : Catalogue) (at : NodeName → ℕ) (load : Load) → IsAssignment c at → at (owner_node load.owner) ≡ load.choice
    → IsOn at load.owner load.under → violates at (subject_terms c.lookups load) ≡ true
holds_subject c at load sized chosen is_on =
    and_from _ _ (only_has (size_of c.lookups (owner_node load.owner)) load.choice (at (owner_node load.owner)) (sized (owner_node load.owner)) chosen)
    (on_there load.under is_on)
  where
    on_there : (under : Option (List ℕ)) → IsOn at load.owner under → violates at (under_terms load.owner under) ≡ true
    on_there None here = refl
    on_there (Some name) here =
        and_from _ true (only_has 2 1 (at (trait_node load.owner name)) (trait_below c at load.owner name sized) here) refl

-- a trait that isn't off is on
pub on_from_not_off : (c : Catalogue) (at : NodeName → ℕ) (owner : Owner) (name : List ℕ) → IsAssignment c at
    → has (choices_of 2 (0 ∷ [])) (at (trait_node owner name)) ≡ false → at (trait_node owner name) ≡ 1
on_from_not_off c at owner name sized is_not =
    let below = trait_below c at owner name sized in
    let nonzero : at (trait_node owner name) ≡ 0 → ⊥
    = λ zero_there. false≢true (sym is_not ∙ only_has 2 0 (at (trait_node owner name)) (trait_below c at owner name sized) zero_there) in
    one (at (trait_node owner name)) below nonzero
  where
    one : (k : ℕ) → k < 2 → (k ≡ 0 → ⊥) → k ≡ 1
    one zero below not_zero = absurd (not_zero refl)
    one (suc k) below not_zero = omega (arith, below)

-- a trait that is off isn't on
pub off_not_on : (c : Catalogue) (at : NodeName → ℕ) (owner : Owner) (name : List ℕ)
    → has (choices_of 2 (0 ∷ [])) (at (trait_node owner name)) ≡ true → at (trait_node owner name) ≡ 1 → ⊥
off_not_on c at owner name is_off is_on =
    let e : at (trait_node owner name) ≡ 0 = has_only 2 0 (at (trait_node owner name)) is_off in
    absurd (omega (arith, e, is_on))
