-- The one fact of a package that can't be used, and what all facts of a load are by their numbers.
use Rattle.std.proofs.Common.{◌≡◌, ◌≢◌, ◌<◌, ◌==◌, ◌||◌, ◌&&◌, ℕ, zero, suc, true, false, not, List, [], ◌∷◌, map, All, Contains, Option, Some, None, refl, sym, ap, ◌∙◌, subst, arith, eq-eqb, lt-ltb}
use Rattle.std.specs.List.{cons_option, filter}
use Rattle.std.proofs.lemmas.Bool.{cond-false, cond-true}
use Rattle.std.proofs.lemmas.List.Elements.{All-cons, All-nil}
use Rattle.pub_set.specs.Choices.{choices_of, has, is_among, is_empty, is_whole, numbers_below}
use Rattle.pub_set.proofs.AscendingLemmas.{is_among-numbers_below, is_among-where}
use Rattle.pub_set.proofs.StepLemmas.{list_all-out, list_any-here}
use Rattle.pub_term.specs.declared.cause.Cause.{Cause}
use Rattle.pub_term.specs.declared.node.NodeName.{NodeName}
use Rattle.pub_term.specs.declared.node.NodeName.TheVariants.{Package}
use Rattle.pub_term.specs.declared.term.Incompat.{Incompat}
use Rattle.pub_term.specs.declared.term.Term.{Term}
use Rattle.spm_manifest.specs.declared.dump.Contents.{Contents}
use Rattle.pub_facts.specs.Catalogue.{Lookups}
use Rattle.pub_facts.specs.Facts.{Load, facts_in, load_of, only, size_of, unusable_fact}
use Rattle.pub_facts.specs.Known.{IsInRange, IsThere}
use Rattle.pub_facts.specs.Merging.{HaveSizes}
use Rattle.pub_facts.specs.Numbered.{AreNamed, IsFormed, caused_of, incompat_in, incompat_of, number_in, numbered, sizes_of, term_of, unless_empty, with_cause}
use Rattle.pub_facts.specs.declared.fact.Fact.{Fact}
use Rattle.pub_facts.proofs.FactLemmas.{IsNumbered, fact_numbered}
use Rattle.pub_facts.proofs.KnownLemmas.{choice_below}
use Rattle.pub_facts.proofs.Members.{contains_head, contains_tail}
use Rattle.pub_facts.proofs.MergeLemmas.{incompat_formed}

-- ---- a set of one choice that isn't 0 is neither empty nor whole

has_one : (size choice k : ℕ) → k < size → has (choices_of size (choice ∷ [])) k ≡ (choice == k || false)
has_one size choice k below = is_among-where size (is_among (choice ∷ [])) k ∙ ap (λ b. b && (choice == k || false)) (lt-ltb k size below)

below_among : (size k : ℕ) → k < size → is_among (numbers_below size) k ≡ true
below_among size k below = is_among-numbers_below size k ∙ lt-ltb k size below

one_not_empty : (size choice : ℕ) → choice < size → is_empty (choices_of size (choice ∷ [])) ≡ false
one_not_empty size choice below =
    ap not (list_any-here (λ k. has (choices_of size (choice ∷ [])) k) (numbers_below size) choice (below_among size choice below)
    (has_one size choice choice below ∙ ap (λ b. b || false) (eq-eqb choice choice refl)))

one_not_whole : (size choice : ℕ) → choice < size → choice ≢ 0 → is_whole (choices_of size (choice ∷ [])) ≡ false
one_not_whole size choice below some =
    list_all-out (has (choices_of size (choice ∷ []))) (numbers_below size) 0 (below_among size 0 (above size choice below))
    (has_one size choice 0 (above size choice below) ∙ ap (λ b. b || false) (unequal choice some))
  where
    above : (n k : ℕ) → k < n → 0 < n
    above n k less = omega (arith, less)

    unequal : (k : ℕ) → k ≢ 0 → (k == 0) ≡ false
    unequal zero isnt = absurd (isnt refl)
    unequal (suc k) isnt = grind arith

one_in : (term : Term) → is_whole term.choices ≡ false → is_empty term.choices ≡ false → incompat_in (term ∷ []) ≡ Some (term ∷ [])
one_in term part some =
    let kept : filter (λ (t : Term). not (is_whole t.choices)) (term ∷ []) ≡ term ∷ []
    = cond-true (not (is_whole term.choices)) (term ∷ []) [] (ap not part) in
    ap unless_empty kept ∙ cond-false (is_empty term.choices || false) None (Some (term ∷ [])) (ap (λ b. b || false) some)

nonzero : (l : Lookups) (identity : List ℕ) (choice : ℕ) → IsThere l (Some identity) choice → choice ≢ 0
nonzero l identity zero there is = (let e = there.1 in cc)
nonzero l identity (suc k) there is = absurd (omega (arith, is))

unusable_is : (l : Lookups) (number : NodeName → ℕ) (identity : List ℕ) (choice : ℕ) (cause : Cause) → IsThere l (Some identity) choice
    → caused_of number (unusable_fact l (load_of (Package identity) choice) cause)
    ≡ Some (record { terms = record { node = number (Package identity); choices = choices_of (size_of l (Package identity)) (choice ∷ []) } ∷ [] }, cause)
unusable_is l number identity choice cause there =
    let below = choice_below l (Some identity) choice there in
    ap (with_cause cause) (one_in (term_of number (only l (Package identity) choice))
    (one_not_whole (size_of l (Package identity)) choice below (nonzero l identity choice there))
    (one_not_empty (size_of l (Package identity)) choice below))

-- the fact that a package isn't at its release
pub unusable_at : (l : Lookups) (number : NodeName → ℕ) (node : NodeName) (identity : List ℕ) (choice : ℕ) (cause : Cause) (terms : List Term)
    → node ≡ Package identity → IsInRange l (load_of node choice)
    → terms ≡ record { node = number node; choices = choices_of (size_of l node) (choice ∷ []) } ∷ []
    → caused_of number (unusable_fact l (load_of node choice) cause) ≡ Some (record { terms = terms }, cause)
unusable_at l number node identity choice cause terms is =
    subst (λ n. IsInRange l (load_of n choice) → terms ≡ record { node = number n; choices = choices_of (size_of l n) (choice ∷ []) } ∷ []
    → caused_of number (unusable_fact l (load_of n choice) cause) ≡ Some (record { terms = terms }, cause)) (sym is)
    (λ there are. unusable_is l number identity choice cause there
    ∙ ap (λ (ts : List Term). Some (record { terms = ts }, cause)) (sym are))

-- ---- all facts of a load

abbrev IsFormedFact : List ℕ → Incompat × Cause → Type 0
IsFormedFact sizes one = IsFormed sizes one.0.terms

more_formed : (sizes : List ℕ) (cause : Cause) (found : Option (List Term)) (rest : List (Incompat × Cause))
    → ((terms : List Term) → found ≡ Some terms → IsFormed sizes terms) → All (IsFormedFact sizes) rest
    → All (IsFormedFact sizes) (cons_option (with_cause cause found) rest)
more_formed sizes cause None rest formed later = later
more_formed sizes cause (Some terms) rest formed later = All-cons (IsFormedFact sizes) (record { terms = terms }, cause) rest (formed terms refl) later

each_formed : (l : Lookups) (names : List NodeName) (facts : List Fact) → ((one : Fact) → Contains facts one → IsNumbered l names one)
    → All (IsFormedFact (sizes_of l names)) (numbered (number_in names) facts)
each_formed l names [] each = All-nil (IsFormedFact (sizes_of l names))
each_formed l names (one ∷ facts) each =
    more_formed (sizes_of l names) one.cause (incompat_of (number_in names) one) (numbered (number_in names) facts)
    (λ terms is.
    let it = each one (contains_head one facts) in
    incompat_formed (sizes_of l names) (map (term_of (number_in names)) one.terms) terms it.sized it.sets is)
    (each_formed l names facts (λ other there. each other (contains_tail one other facts there)))

-- each fact of a load is well formed by the numbers of its nodes
pub facts_formed : (asked : List (List ℕ)) (l : Lookups) (load : Load) (contents : Contents) (names : List NodeName)
    → AreNamed names (facts_in asked l load contents) → All (λ (one : Incompat × Cause). IsFormed (sizes_of l names) one.0.terms) (numbered (number_in names) (facts_in asked l load contents))
facts_formed asked l load contents names named = each_formed l names (facts_in asked l load contents) (fact_numbered asked l load contents names named)

-- ---- the loop over them

abbrev HasSizes : List NodeName → Fact → Type 0
HasSizes names one = HaveSizes (map (term_of (number_in names)) one.terms)

all_sized : (l : Lookups) (names : List NodeName) (facts : List Fact) → ((one : Fact) → Contains facts one → IsNumbered l names one)
    → All (HasSizes names) facts
all_sized l names [] each = All-nil (HasSizes names)
all_sized l names (one ∷ facts) each =
    All-cons (HasSizes names) one facts (record { sizes = sizes_of l names; sized = (each one (contains_head one facts)).sized })
    (all_sized l names facts (λ other there. each other (contains_tail one other facts there)))

-- the terms of all facts of a load have sizes
pub load_sized : (asked : List (List ℕ)) (l : Lookups) (load : Load) (contents : Contents) (names : List NodeName) (written : List Fact)
    → written ≡ facts_in asked l load contents → AreNamed names (facts_in asked l load contents)
    → All (λ (one : Fact). HaveSizes (map (term_of (number_in names)) one.terms)) written
load_sized asked l load contents names written is named =
    subst (All (HasSizes names)) (sym is) (all_sized l names (facts_in asked l load contents) (fact_numbered asked l load contents names named))
