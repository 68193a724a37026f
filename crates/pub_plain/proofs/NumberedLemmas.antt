-- A fact by numbers is violated just where the fact is, as it is written.
use Rattle.std.proofs.Common.{◌≡◌, ℕ, ◌<◌, ◌==◌, Bool, true, false, not, ◌&&◌, nat_lt, List, [], ◌∷◌, map, Contains, Some, None, refl, sym, ap, ap₂, ◌∙◌, inl, inr, arith, eqb-true, lt-ltb}
use Rattle.std.specs.List.{filter, list_any}
use Rattle.std.proofs.lemmas.Bool.{cases_Bool, cond-false, cond-true, cond_both}
use Rattle.pub_set.specs.Choices.{ChoiceSet, has, intersection, is_empty, is_whole}
use Rattle.pub_set.proofs.AscendingLemmas.{is_among-where}
use Rattle.pub_facts.specs.Facts as fact
use Rattle.pub_facts.specs.Numbered.{all_merged, incompat_in, incompat_of, merged, term_of}
use Rattle.pub_facts.specs.declared.fact.Fact.{Fact}
use Rattle.pub_facts.specs.declared.fact.Written.{Written}
use Rattle.pub_facts.proofs.Members.{contains_head, contains_tail}
use Rattle.pub_term.specs.Term.{violates}
use Rattle.pub_term.specs.declared.node.NodeName.{NodeName}
use Rattle.pub_term.specs.declared.term.Term.{Term}
use Rattle.pub_term.proofs.ProperLemmas.{has-whole}

-- ---- an incompatibility and its terms

-- the assignment's choice is one of each term's node
abbrev pub Fits : (ℕ → ℕ) → List Term → Type 0
Fits assignment [] = Unit {0}
Fits assignment (term ∷ terms) = (assignment term.node < term.choices.size) × Fits assignment terms

-- tests of three may be grouped otherwise
and_assoc : (a b c : Bool) → ((a && b) && c) ≡ (a && (b && c))
and_assoc true b c = refl
and_assoc false b c = refl

-- and taken in another order
and_swap : (a b c : Bool) → (a && (b && c)) ≡ (b && (a && c))
and_swap true b c = refl
and_swap false true c = refl
and_swap false false c = refl

-- what is in two sets is in their intersection
has-intersection : (a b : ChoiceSet) (choice : ℕ) → choice < a.size → has (intersection a b) choice ≡ (has a choice && has b choice)
has-intersection a b choice below =
    is_among-where a.size (λ k. has a k && has b k) choice ∙ ap (λ t. t && (has a choice && has b choice)) (lt-ltb choice a.size below)

-- merging a term into others asks what the term asks, and what they do
violates-merged : (assignment : ℕ → ℕ) (term : Term) (terms : List Term) → assignment term.node < term.choices.size
    → violates assignment (merged term terms) ≡ (has term.choices (assignment term.node) && violates assignment terms)
violates-merged assignment term [] below = refl
violates-merged assignment term (other ∷ others) below =
    let whole = has term.choices (assignment term.node) && (has other.choices (assignment other.node) && violates assignment others) in
    cond_both (nat_lt term.node other.node) (term ∷ other ∷ others) _ (λ ts. violates assignment ts ≡ whole)
    (λ _. refl)
    (λ _.
    cond_both (term.node == other.node) (record { node = term.node; choices = intersection term.choices other.choices } ∷ others)
    (other ∷ merged term others) (λ ts. violates assignment ts ≡ whole)
    (λ same.
    ap (λ b. b && violates assignment others) (has-intersection term.choices other.choices (assignment term.node) below)
    ∙ and_assoc (has term.choices (assignment term.node)) (has other.choices (assignment term.node)) (violates assignment others)
    ∙ ap (λ n. has term.choices (assignment term.node) && (has other.choices (assignment n) && violates assignment others))
    (eqb-true term.node other.node same))
    (λ _.
    ap (λ b. has other.choices (assignment other.node) && b) (violates-merged assignment term others below)
    ∙ and_swap (has other.choices (assignment other.node)) (has term.choices (assignment term.node)) (violates assignment others)))

-- merging all terms asks what they all ask
pub violates-all_merged : (assignment : ℕ → ℕ) (terms : List Term) → Fits assignment terms
    → violates assignment (all_merged terms) ≡ violates assignment terms
violates-all_merged assignment [] fits = refl
violates-all_merged assignment (term ∷ terms) fits =
    violates-merged assignment term (all_merged terms) fits.0
    ∙ ap (λ b. has term.choices (assignment term.node) && b) (violates-all_merged assignment terms fits.1)

-- merged terms have the sizes of the terms
fits-merged : (assignment : ℕ → ℕ) (term : Term) (terms : List Term) → assignment term.node < term.choices.size → Fits assignment terms
    → Fits assignment (merged term terms)
fits-merged assignment term [] below fits = (below, tt)
fits-merged assignment term (other ∷ others) below fits =
    cond_both (nat_lt term.node other.node) (term ∷ other ∷ others) _ (Fits assignment)
    (λ _. (below, fits))
    (λ _.
    cond_both (term.node == other.node) (record { node = term.node; choices = intersection term.choices other.choices } ∷ others)
    (other ∷ merged term others) (Fits assignment)
    (λ _. (below, fits.1))
    (λ _. (fits.0, fits-merged assignment term others below fits.1)))

-- and so do all of them
pub fits-all_merged : (assignment : ℕ → ℕ) (terms : List Term) → Fits assignment terms → Fits assignment (all_merged terms)
fits-all_merged assignment [] fits = tt
fits-all_merged assignment (term ∷ terms) fits =
    fits-merged assignment term (all_merged terms) fits.0 (fits-all_merged assignment terms fits.1)

-- a term that is dropped has every choice
pub violates-parts : (assignment : ℕ → ℕ) (terms : List Term) → Fits assignment terms
    → violates assignment (filter (λ term. not (is_whole term.choices)) terms) ≡ violates assignment terms
violates-parts assignment [] fits = refl
violates-parts assignment (term ∷ terms) fits =
    elim (cases_Bool (is_whole term.choices)) [
      | inl whole ↦
          ap (violates assignment)
          (cond-false (not (is_whole term.choices)) (term ∷ filter (λ t. not (is_whole t.choices)) terms) _ (ap not whole))
          ∙ violates-parts assignment terms fits.1
          ∙ sym (ap (λ b. b && violates assignment terms) (has-whole term.choices (assignment term.node) whole fits.0))
      | inr part ↦
          ap (violates assignment)
          (cond-true (not (is_whole term.choices)) (term ∷ filter (λ t. not (is_whole t.choices)) terms) _ (ap not part))
          ∙ ap (λ b. has term.choices (assignment term.node) && b) (violates-parts assignment terms fits.1)
    ]

-- the incompatibility of terms is violated just where they are
violates-incompat_in : (assignment : ℕ → ℕ) (written terms : List Term) → Fits assignment written → incompat_in written ≡ Some terms
    → violates assignment terms ≡ violates assignment written
violates-incompat_in assignment written terms fits is =
    let kept = filter (λ term. not (is_whole term.choices)) (all_merged written) in
    let same : violates assignment kept ≡ violates assignment written
    = violates-parts assignment (all_merged written) (fits-all_merged assignment written fits) ∙ violates-all_merged assignment written fits in
    elim (cases_Bool (list_any (λ (term : Term). is_empty term.choices) kept)) [
      | inl some ↦
          (let e : None ≡ Some terms = sym (cond-true (list_any (λ (term : Term). is_empty term.choices) kept) None (Some kept) some) ∙ is in
          cc)
      | inr none ↦
          (let e : Some kept ≡ Some terms
          = sym (cond-false (list_any (λ (term : Term). is_empty term.choices) kept) None (Some kept) none) ∙ is in
          let k : kept ≡ terms = cc in
          sym (ap (violates assignment) k) ∙ same)
    ]

-- ---- a fact by numbers

-- the numbers of the nodes have the choices of the nodes, which are some of their sets' sizes
abbrev pub AreChosen : (NodeName → ℕ) → (ℕ → ℕ) → (NodeName → ℕ) → List Written → Type 0
AreChosen number assignment at terms =
    (term : Written) → Contains terms term → (assignment (number term.node) ≡ at term.node) × (at term.node < term.choices.size)

-- so the terms by numbers fit
pub terms_fit : (number : NodeName → ℕ) (assignment : ℕ → ℕ) (at : NodeName → ℕ) (terms : List Written) → AreChosen number assignment at terms
    → Fits assignment (map (term_of number) terms)
terms_fit number assignment at [] are = tt
terms_fit number assignment at (term ∷ terms) are =
    let here = are term (contains_head term terms) in (
      (let same = here.0 in let below = here.1 in omega (arith, same, below)),
      terms_fit number assignment at terms (λ other there. are other (contains_tail term other terms there)),
    )

-- and are violated just where the terms are
pub terms_violated : (number : NodeName → ℕ) (assignment : ℕ → ℕ) (at : NodeName → ℕ) (terms : List Written) → AreChosen number assignment at terms
    → violates assignment (map (term_of number) terms) ≡ fact.violates at terms
terms_violated number assignment at [] are = refl
terms_violated number assignment at (term ∷ terms) are =
    ap₂ (λ a b. a && b) (ap (has term.choices) (are term (contains_head term terms)).0)
    (terms_violated number assignment at terms (λ other there. are other (contains_tail term other terms there)))

-- a fact by numbers is violated just where the fact is
pub fact_violated : (number : NodeName → ℕ) (assignment : ℕ → ℕ) (at : NodeName → ℕ) (one : Fact) (terms : List Term)
    → ((term : Written) → Contains one.terms term → (assignment (number term.node) ≡ at term.node) × (at term.node < term.choices.size))
    → incompat_of number one ≡ Some terms → violates assignment terms ≡ fact.violates at one.terms
fact_violated number assignment at one terms are is =
    violates-incompat_in assignment (map (term_of number) one.terms) terms (terms_fit number assignment at one.terms are) is
    ∙ terms_violated number assignment at one.terms are
