-- A fact by other numbers of its nodes is its incompatibility under those numbers.
use Rattle.std.proofs.Common.{◌≡◌, ◌≢◌, ℕ, ◌<◌, ◌==◌, ◌||◌, Bool, true, false, not, nat_lt, cond, List, [], ◌∷◌, map, length, Contains, Option, Some, None, refl, sym, ap, ap₂, ◌∙◌, subst, inl, inr, arith, eqb-true, eq-eqb, ne_eqb, ltb-true}
use Rattle.std.specs.List.{filter, list_any}
use Rattle.std.proofs.lemmas.Bool.{cases_eq, cond-false, cond-true, cond_both, false≢true}
use Rattle.pub_set.specs.Choices.{ChoiceSet, intersection, is_empty, is_whole}
use Rattle.pub_facts.specs.Numbered.{all_merged, incompat_in, incompat_of, merged, number_in, term_of, unless_empty}
use Rattle.pub_facts.specs.declared.fact.Fact.{Fact}
use Rattle.pub_facts.specs.declared.fact.Written.{Written}
use Rattle.pub_facts.proofs.Members.{contains_head, contains_tail}
use Rattle.pub_facts.proofs.MergeLemmas.{up_all, up_filter}
use Rattle.pub_term.specs.Term.{AreNodesAscending, set_at}
use Rattle.pub_term.specs.declared.node.NodeName.{NodeName}
use Rattle.pub_term.specs.declared.term.Term.{Term}
use Rattle.pub_term.proofs.AboveLemmas.{AreAbove-tail, AreNodesAscending-tail, set_at-head, set_at-none, set_at-tail}
use Rattle.pub_trail.specs.Renamed.{IsNumbering, insert_term, renamed}
use Rattle.pub_trail.proofs.RenamedLemmas.{AreNodesAscending-renamed, set_at-renamed, some_renamed, terms_same}
use Rattle.pub_plain.specs.Derivation.{ordered, rank_in}
use Rattle.pub_plain.proofs.ApartLemmas.{AreApart}
use Rattle.pub_plain.proofs.RankLemmas.{rank_apart, rank_named}
use Rattle.pub_plain.proofs.RulesLemmas.{name_of_number}

-- ---- the sets of merged terms

-- a set with the one that there may be already
abbrev met : ChoiceSet → Option ChoiceSet → ChoiceSet
met set None = set
met set (Some other) = intersection set other

-- the sets of all terms on a node, intersected
abbrev met_at : List Term → ℕ → Option ChoiceSet
met_at [] node = None
met_at (term ∷ terms) node = cond (term.node == node) (Some (met term.choices (met_at terms node))) (met_at terms node)

-- ascending terms have no set on a node before them
before_none : (node : ℕ) (other : Term) (others : List Term) → AreNodesAscending (other ∷ others) → node < other.node
    → set_at (other ∷ others) node ≡ None
before_none node other others up less =
    set_at-tail other others node (λ e. omega (arith, less, e))
    ∙ set_at-none other.node others node (omega (arith, less)) (AreAbove-tail other others up)

-- a merged term meets the set on its node, and leaves the others
set_at-merged : (term : Term) (terms : List Term) (node : ℕ) → AreNodesAscending terms
    → set_at (merged term terms) node ≡ cond (term.node == node) (Some (met term.choices (set_at terms node))) (set_at terms node)
set_at-merged term [] node up = refl
set_at-merged term (other ∷ others) node up =
    let goal : List Term → Type 0
    = λ ts. set_at ts node ≡ cond (term.node == node) (Some (met term.choices (set_at (other ∷ others) node))) (set_at (other ∷ others) node) in
    cond_both (nat_lt term.node other.node) (term ∷ other ∷ others) _ goal
    (λ less. elim (cases_eq term.node node) [
      | inl same ↦
          (let none : set_at (other ∷ others) node ≡ None
          = before_none node other others up (subst (λ n. n < other.node) same (ltb-true term.node other.node less)) in
          set_at-head term (other ∷ others) node same
          ∙ ap (λ s. Some (met term.choices s)) (sym none)
          ∙ sym (cond-true (term.node == node) _ _ (eq-eqb term.node node same)))
      | inr differs ↦
          set_at-tail term (other ∷ others) node differs ∙ sym (cond-false (term.node == node) _ _ (ne_eqb term.node node differs))
    ])
    (λ _.
    cond_both (term.node == other.node) (record { node = term.node; choices = intersection term.choices other.choices } ∷ others)
    (other ∷ merged term others) goal
    (λ equal.
    let e : term.node ≡ other.node = eqb-true term.node other.node equal in
    elim (cases_eq term.node node) [
      | inl same ↦
          set_at-head (record { node = term.node; choices = intersection term.choices other.choices }) others node same
          ∙ ap (λ s. Some (met term.choices s)) (sym (set_at-head other others node (sym e ∙ same)))
          ∙ sym (cond-true (term.node == node) _ _ (eq-eqb term.node node same))
      | inr differs ↦
          set_at-tail (record { node = term.node; choices = intersection term.choices other.choices }) others node differs
          ∙ sym (set_at-tail other others node (λ same. differs (e ∙ same)))
          ∙ sym (cond-false (term.node == node) _ _ (ne_eqb term.node node differs))
    ])
    (λ unequal. elim (cases_eq other.node node) [
      | inl here ↦
          (let differs : term.node ≢ node = λ e. false≢true (sym unequal ∙ eq-eqb term.node other.node (e ∙ sym here)) in
          set_at-head other (merged term others) node here ∙ sym (set_at-head other others node here)
          ∙ sym (cond-false (term.node == node) _ _ (ne_eqb term.node node differs)))
      | inr apart ↦
          set_at-tail other (merged term others) node apart
          ∙ set_at-merged term others node (AreNodesAscending-tail other others up)
          ∙ ap (λ s. cond (term.node == node) (Some (met term.choices s)) s) (sym (set_at-tail other others node apart))
    ]))

-- all merged terms have on each node the sets of all terms on it, intersected
set_at-all_merged : (terms : List Term) (node : ℕ) → set_at (all_merged terms) node ≡ met_at terms node
set_at-all_merged [] node = refl
set_at-all_merged (term ∷ terms) node =
    set_at-merged term (all_merged terms) node (up_all terms)
    ∙ ap (λ s. cond (term.node == node) (Some (met term.choices s)) s) (set_at-all_merged terms node)

-- a whole set is dropped
abbrev unless_whole : Option ChoiceSet → Option ChoiceSet
unless_whole None = None
unless_whole (Some set) = cond (not (is_whole set)) (Some set) None

abbrev is_part : Term → Bool
is_part term = not (is_whole term.choices)

-- terms without those of all choices
set_at-parts : (terms : List Term) (node : ℕ) → AreNodesAscending terms → set_at (filter is_part terms) node ≡ unless_whole (set_at terms node)
set_at-parts [] node up = refl
set_at-parts (term ∷ terms) node up =
    let rest = set_at-parts terms node (AreNodesAscending-tail term terms up) in
    elim (cases_eq term.node node) [
      | inl same ↦
          (let none : set_at terms node ≡ None
          = subst (λ n. set_at terms n ≡ None) same (set_at-none term.node terms term.node (omega arith) (AreAbove-tail term terms up)) in
          cond_both (is_part term) (term ∷ filter is_part terms) (filter is_part terms)
          (λ ts. set_at ts node ≡ unless_whole (set_at (term ∷ terms) node))
          (λ part.
          set_at-head term (filter is_part terms) node same ∙ sym (cond-true (is_part term) (Some term.choices) None part)
          ∙ ap unless_whole (sym (set_at-head term terms node same)))
          (λ whole.
          rest ∙ ap unless_whole none ∙ sym (cond-false (is_part term) (Some term.choices) None whole)
          ∙ ap unless_whole (sym (set_at-head term terms node same))))
      | inr differs ↦
          (let other : unless_whole (set_at (term ∷ terms) node) ≡ unless_whole (set_at terms node)
          = ap unless_whole (set_at-tail term terms node differs) in
          cond_both (is_part term) (term ∷ filter is_part terms) (filter is_part terms)
          (λ ts. set_at ts node ≡ unless_whole (set_at (term ∷ terms) node))
          (λ _. set_at-tail term (filter is_part terms) node differs ∙ rest ∙ sym other) (λ _. rest ∙ sym other))
    ]

-- the terms of an incompatibility, before it is left out
abbrev kept : List Term → List Term
kept terms = filter is_part (all_merged terms)

-- ascend
up_kept : (terms : List Term) → AreNodesAscending (kept terms)
up_kept terms = up_filter is_part (all_merged terms) (up_all terms)

-- and have these sets
set_at-kept : (terms : List Term) (node : ℕ) → set_at (kept terms) node ≡ unless_whole (met_at terms node)
set_at-kept terms node = set_at-parts (all_merged terms) node (up_all terms) ∙ ap unless_whole (set_at-all_merged terms node)

-- ---- other numbers

-- a term under another number
abbrev under : (ℕ → ℕ) → Term → Term
under number term = record { node = number term.node; choices = term.choices }

-- a renumbered node has the sets of the node
met_at-under : (number : ℕ → ℕ) (terms : List Term) (node : ℕ) → IsNumbering number
    → met_at (map (under number) terms) (number node) ≡ met_at terms node
met_at-under number [] node apart = refl
met_at-under number (term ∷ terms) node apart =
    ap₂ (λ b s. cond b (Some (met term.choices s)) s) same_test (met_at-under number terms node apart)
  where
    same_test : (number term.node == number node) ≡ (term.node == node)
    same_test = elim (cases_eq term.node node) [
      | inl same ↦ eq-eqb (number term.node) (number node) (ap number same) ∙ sym (eq-eqb term.node node same)
      | inr differs ↦
          ne_eqb (number term.node) (number node) (λ e. differs (apart term.node node e)) ∙ sym (ne_eqb term.node node differs)
    ]

-- a node of renumbered terms is that of one of them
met_old : (number : ℕ → ℕ) (terms : List Term) (node : ℕ) (set : ChoiceSet) → met_at (map (under number) terms) node ≡ Some set
    → (old : ℕ) × (number old ≡ node)
met_old number [] node set at = cc
met_old number (term ∷ terms) node set at = elim (cases_eq (number term.node) node) [
  | inl same ↦ (term.node, same)
  | inr differs ↦ met_old number terms node set (sym (cond-false (number term.node == node) _ _ (ne_eqb (number term.node) node differs)) ∙ at)
]

-- the terms of an incompatibility under other numbers
kept_under : (number : ℕ → ℕ) (terms : List Term) → IsNumbering number → kept (map (under number) terms) ≡ renamed number (kept terms)
kept_under number terms apart =
    terms_same (kept (map (under number) terms)) (renamed number (kept terms)) (up_kept (map (under number) terms))
    (AreNodesAscending-renamed number (kept terms) apart (up_kept terms))
    (λ node. each node (met_at (map (under number) terms) node) refl (set_at (renamed number (kept terms)) node) refl)
  where
    at_old : (old : ℕ) → set_at (kept (map (under number) terms)) (number old) ≡ set_at (renamed number (kept terms)) (number old)
    at_old old =
        set_at-kept (map (under number) terms) (number old) ∙ ap unless_whole (met_at-under number terms old apart) ∙ sym (set_at-kept terms old)
        ∙ sym (set_at-renamed number (kept terms) old apart (up_kept terms))

    at_node : (node old : ℕ) → number old ≡ node → set_at (kept (map (under number) terms)) node ≡ set_at (renamed number (kept terms)) node
    at_node node old is = subst (λ n. set_at (kept (map (under number) terms)) n ≡ set_at (renamed number (kept terms)) n) is (at_old old)

    each : (node : ℕ) (first : Option ChoiceSet) → met_at (map (under number) terms) node ≡ first
        → (second : Option ChoiceSet) → set_at (renamed number (kept terms)) node ≡ second
        → set_at (kept (map (under number) terms)) node ≡ set_at (renamed number (kept terms)) node
    each node (Some set) at second at_second = (let old = met_old number terms node set at in at_node node old.0 old.1)
    each node None at (Some set) at_second =
        let old = some_renamed number (kept terms) node set apart (up_kept terms) at_second in
        at_node node old.old old.is
    each node None at None at_second = set_at-kept (map (under number) terms) node ∙ ap unless_whole at ∙ sym at_second

-- a term that is put among others has its set, and they have theirs
any_insert : (test : Term → Bool) (term : Term) (terms : List Term) → list_any test (insert_term term terms) ≡ (test term || list_any test terms)
any_insert test term [] = refl
any_insert test term (other ∷ others) =
    cond_both (nat_lt term.node other.node) (term ∷ other ∷ others) (other ∷ insert_term term others)
    (λ ts. list_any test ts ≡ (test term || list_any test (other ∷ others)))
    (λ _. refl)
    (λ _. ap (λ b. test other || b) (any_insert test term others) ∙ or_swap (test other) (test term) (list_any test others))
  where
    or_swap : (a b c : Bool) → (a || (b || c)) ≡ (b || (a || c))
    or_swap true true c = refl
    or_swap true false c = refl
    or_swap false true c = refl
    or_swap false false c = refl

abbrev has_none : Term → Bool
has_none term = is_empty term.choices

-- renumbering leaves the sets
any_renamed : (number : ℕ → ℕ) (terms : List Term) → list_any has_none (renamed number terms) ≡ list_any has_none terms
any_renamed number [] = refl
any_renamed number (term ∷ terms) =
    any_insert has_none (under number term) (renamed number terms) ∙ ap (λ b. has_none term || b) (any_renamed number terms)

-- the incompatibility of terms under other numbers is theirs under those numbers
incompat_under : (number : ℕ → ℕ) (written terms : List Term) → IsNumbering number → incompat_in written ≡ Some terms
    → incompat_in (map (under number) written) ≡ Some (renamed number terms)
incompat_under number written terms apart is = ap unless_empty (kept_under number written apart) ∙ go (list_any has_none (kept written)) refl
  where
    go : (b : Bool) → list_any has_none (kept written) ≡ b → unless_empty (renamed number (kept written)) ≡ Some (renamed number terms)
    go true some = (let e : None ≡ Some terms = sym (cond-true (list_any has_none (kept written)) None (Some (kept written)) some) ∙ is in cc)
    go false none =
        let e : Some (kept written) ≡ Some terms
        = sym (cond-false (list_any has_none (kept written)) None (Some (kept written)) none) ∙ is in
        let same : kept written ≡ terms = cc in
        cond-false (list_any has_none (renamed number (kept written))) None (Some (renamed number (kept written)))
        (any_renamed number (kept written) ∙ none)
        ∙ ap (λ ts. Some (renamed number ts)) same

-- ---- node order

-- terms by the places of their nodes in node order are the terms by their numbers, renumbered
terms_in_order : (names : List NodeName) (terms : List Written) → ((term : Written) → Contains terms term → number_in names term.node < length names)
    → map (term_of (number_in (ordered names))) terms ≡ map (under (rank_in names)) (map (term_of (number_in names)) terms)
terms_in_order names [] named = refl
terms_in_order names (term ∷ terms) named =
    let within = named term (contains_head term terms) in
    ap₂ (λ (first : Term) (others : List Term). first ∷ others)
    (ap (λ n. record { node = n; choices = term.choices })
    (sym (rank_named names (number_in names term.node) within
    ∙ ap (number_in (ordered names)) (name_of_number names term.node within))))
    (terms_in_order names terms (λ other there. named other (contains_tail term other terms there)))

-- a fact by the places of its nodes in node order is its incompatibility, renumbered
pub fact_in_order : (names : List NodeName) (one : Fact) (terms : List Term) → AreApart names
    → ((term : Written) → Contains one.terms term → number_in names term.node < length names) → incompat_of (number_in names) one ≡ Some terms
    → incompat_of (number_in (ordered names)) one ≡ Some (renamed (rank_in names) terms)
fact_in_order names one terms apart named is =
    ap incompat_in (terms_in_order names one.terms named)
    ∙ incompat_under (rank_in names) (map (term_of (number_in names)) one.terms) terms (rank_apart names apart) is
