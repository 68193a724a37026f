-- What the tests of a line make: an incompatibility over the sizes.
use Rattle.std.specs.Str.{bytes_eq}
use Rattle.std.proofs.Common.{◌≡◌, ◌≢◌, ℕ, zero, suc, ◌<◌, ◌-◌, ◌==◌, Bool, true, false, not, ◌&&◌, nat_eq, nat_lt, List, [], ◌∷◌, ◌++◌, length, slice_get, slice_index, get_or, drop, ◌+◌, Option, Some, None, IfSome, IsSome, Ok, is_some, if◌then◌else◌, refl, sym, ap, ap₂, ◌∙◌, subst, inl, inr, arith, ne_eqb, eq-eqb}
use Rattle.std.specs.List.{list_all, list_any}
use Rattle.std.specs.Cmp.Lexicographic.{pointwise}
use Rattle.std.proofs.lemmas.Bool.{and_parts, cases_eq, cond-false, cond-true, eqb-true, false≢true, lt-ltb, ltb-true, or_cases, or_left, or_right}
use Rattle.std.proofs.lemmas.List.{drop_more, length-map, map-append}
use Rattle.pub_set.specs.Choices.{ChoiceSet, do_meet, is_empty, is_whole, same_set}
use Rattle.pub_term.specs.Resolvent.{CanResolve, resolvent}
use Rattle.pub_term.specs.Sized.{AreSized}
use Rattle.pub_term.specs.TermLaws.{same_term}
use Rattle.pub_term.specs.Term.{AreNodesAscending, AreProper, IsIncompat, set_at}
use Rattle.pub_term.specs.declared.term.Incompat.{Incompat}
use Rattle.pub_term.specs.declared.term.Term.{Term}
use Rattle.pub_term.proofs.AboveLemmas.{set_at-head, set_at-tail}
use Rattle.pub_term.proofs.SizedLemmas.{sized_at, sized_resolvent}
use Rattle.pub_proof.specs.Checked.{◌>>=◌, at_line, line_in, lines_after, can_resolve, do_ascend, do_sets_meet, earlier_line, has_node, is_proper, meets_in, terms_fault}
use Rattle.pub_proof.specs.Checks.{terms_of}
use Rattle.pub_proof.specs.Formed.{AreFormed, IsFormed, SizesAgree}
use Rattle.pub_proof.specs.Order.{is_above}
use Rattle.pub_proof.specs.Same.{same_terms}
use Rattle.pub_proof.specs.declared.derivation.Line.{Line}
use Rattle.pub_proof.specs.declared.fault.ProofKind.TheVariants.{NoSuchNode, BadSet}

-- ---- tests

-- three tests that hold
pub and_three : (a b c : Bool) → (a && b && c) ≡ true → (a ≡ true) × (b ≡ true) × (c ≡ true)
and_three true true true all = (refl, refl, refl)
and_three true true false all = absurd (false≢true all)
and_three true false c all = absurd (false≢true all)
and_three false b c all = absurd (false≢true all)

-- what isn't so is false
not_true : (a : Bool) → not a ≡ true → a ≡ false
not_true false holds = refl
not_true true holds = absurd (false≢true holds)

-- ---- terms that are told equal are equal

-- numbers that are told equal are equal
same_numbers : (xs ys : List ℕ) → bytes_eq xs ys ≡ true → xs ≡ ys
same_numbers [] [] same = refl
same_numbers [] (y ∷ ys) same = absurd (false≢true same)
same_numbers (x ∷ xs) [] same = absurd (false≢true same)
same_numbers (x ∷ xs) (y ∷ ys) same =
    let parts = and_parts (nat_eq x y) (bytes_eq xs ys) same in
    ap₂ ◌∷◌ (eqb-true x y parts.0) (same_numbers xs ys parts.1)

-- a set by its parts
abbrev set_from : ℕ → List ℕ → ChoiceSet
set_from size members = record { size = size; members = members }

-- sets that are told equal are equal
same_sets : (first second : ChoiceSet) → same_set first second ≡ true → first ≡ second
same_sets first second same =
    let parts = and_parts (first.size == second.size) (bytes_eq first.members second.members) same in
    ap₂ set_from (eqb-true first.size second.size parts.0) (same_numbers first.members second.members parts.1)

-- a term by its parts
abbrev term_from : ℕ → ChoiceSet → Term
term_from node choices = record { node = node; choices = choices }

-- terms that are told equal are equal
same_one : (first second : Term) → same_term first second ≡ true → first ≡ second
same_one first second same =
    let parts = and_parts (first.node == second.node) (same_set first.choices second.choices) same in
    ap₂ term_from (eqb-true first.node second.node parts.0) (same_sets first.choices second.choices parts.1)

-- lists of terms that are told equal are equal
pub same_all : (first second : List Term) → same_terms first second ≡ true → first ≡ second
same_all [] [] same = refl
same_all [] (y ∷ ys) same = absurd (false≢true same)
same_all (x ∷ xs) [] same = absurd (false≢true same)
same_all (x ∷ xs) (y ∷ ys) same =
    let parts = and_parts (same_term x y) (same_terms xs ys) same in
    ap₂ ◌∷◌ (same_one x y parts.0) (same_all xs ys parts.1)

-- the fact at a place is one of the facts
pub among_at : (terms : List Term) (facts : List Incompat) (i : ℕ) (fact : Incompat) → true ≡ nat_lt i (length facts) → fact ≡ get_or facts i fact
    → pointwise same_term terms fact.terms ≡ true → list_any (same_terms terms) (terms_of facts) ≡ true
among_at terms [] i fact within at same =
    let below : i < 0 = ltb-true i 0 (sym within) in
    absurd (omega (arith, below))
among_at terms (head ∷ facts) zero fact within at same =
    or_left (same_terms terms head.terms) (list_any (same_terms terms) (terms_of facts)) (ap (λ (f : Incompat). same_terms terms f.terms) (sym at) ∙ same)
among_at terms (head ∷ facts) (suc i) fact within at same =
    let below : suc i < suc (length facts) = ltb-true (suc i) (suc (length facts)) (sym within) in
    or_right (same_terms terms head.terms) (list_any (same_terms terms) (terms_of facts))
    (among_at terms facts i fact (sym (lt-ltb i (length facts) (omega (arith, below)))) at same)

-- ---- a fact's line

-- no fault means that all tests hold
no_fault : (a b c : Bool) → (if not a then Some NoSuchNode else if not (b && c) then Some BadSet else None) ≡ None → (a ≡ true) × (b ≡ true) × (c ≡ true)
no_fault true true true none = (refl, refl, refl)
no_fault true true false none = absurd (false≢true (sym (ap is_some none)))
no_fault true false c none = absurd (false≢true (sym (ap is_some none)))
no_fault false b c none = absurd (false≢true (sym (ap is_some none)))

-- nodes that pass ascend
ascending_from : (before : Option ℕ) (terms : List Term) → do_ascend before terms ≡ true → AreNodesAscending terms
ascending_from before [] up = tt
ascending_from before (term ∷ []) up = tt
ascending_from before (term ∷ next ∷ terms) up =
    let behind = (and_parts (is_above before term.node) (do_ascend (Some term.node) (next ∷ terms)) up).1 in
    let here = (and_parts (nat_lt term.node next.node) (do_ascend (Some next.node) terms) behind).0 in
    (ltb-true term.node next.node here, ascending_from (Some term.node) (next ∷ terms) behind)

-- sets that pass are proper
proper_from : (sizes : List ℕ) (terms : List Term) → list_all (is_proper sizes) terms ≡ true → AreProper terms
proper_from sizes [] all = tt
proper_from sizes (term ∷ terms) all =
    let parts = and_parts (is_proper sizes term) (list_all (is_proper sizes) terms) all in
    let here = and_three (term.choices.size == slice_index sizes term.node) (not (is_empty term.choices)) (not (is_whole term.choices)) parts.0 in
    (not_true (is_empty term.choices) here.1, not_true (is_whole term.choices) here.2, proper_from sizes terms parts.1)

-- sets that pass have their nodes' sizes
sized_from : (sizes : List ℕ) (terms : List Term) → list_all (λ (term : Term). nat_lt term.node (length sizes)) terms ≡ true
    → list_all (is_proper sizes) terms ≡ true → AreSized sizes terms
sized_from sizes [] known all = tt
sized_from sizes (term ∷ terms) known all =
    let parts = and_parts (is_proper sizes term) (list_all (is_proper sizes) terms) all in
    let here = and_three (term.choices.size == slice_index sizes term.node) (not (is_empty term.choices)) (not (is_whole term.choices)) parts.0 in
    let there = and_parts (nat_lt term.node (length sizes)) (list_all (λ (term : Term). nat_lt term.node (length sizes)) terms) known in
    ((ltb-true term.node (length sizes) there.0, eqb-true term.choices.size (slice_index sizes term.node) here.0), sized_from sizes terms there.1 parts.1)

-- terms without a fault are formed
pub formed_from : (sizes : List ℕ) (terms : List Term) → terms_fault sizes terms ≡ None → IsFormed sizes terms
formed_from sizes terms none =
    let parts = no_fault (list_all (λ (term : Term). nat_lt term.node (length sizes)) terms) (do_ascend None terms) (list_all (is_proper sizes) terms) none in
    record {
      incompat = record { ascending = ascending_from None terms parts.1; proper = proper_from sizes terms parts.2 };
      sized = sized_from sizes terms parts.0 parts.2;
    }

-- ---- the sets of two lines

-- a fact of the set, where there is one
if_some : (set : Option ChoiceSet) (size : ℕ) → ((there : ChoiceSet) → set ≡ Some there → size ≡ there.size) → IfSome set (λ s. size ≡ s.size)
if_some None size each = tt
if_some (Some set) size each = each set refl

-- sized terms agree on their shared nodes
agree_from : (sizes : List ℕ) (first second : List Term) → AreSized sizes first → AreSized sizes second → SizesAgree first second
agree_from sizes [] second sized_first sized_second = tt
agree_from sizes (term ∷ first) second sized_first sized_second = (
  if_some (set_at second term.node) term.choices.size
      (λ set at. sized_first.0.1 ∙ sym (sized_at sizes second term.node set sized_second at).1),
  agree_from sizes first second sized_first.1 sized_second,
)

-- formed lines agree on their shared nodes
pub sizes_agree : (sizes : List ℕ) (first second : List Term) → IsFormed sizes first → IsFormed sizes second → SizesAgree first second
sizes_agree sizes first second formed_first formed_second = agree_from sizes first second formed_first.sized formed_second.sized

-- a line with a term on the node has a set there
pub some_at : (terms : List Term) (node : ℕ) → has_node terms node ≡ true → IsSome (set_at terms node)
some_at [] node has = absurd (false≢true has)
some_at (term ∷ terms) node has =
    elim (cases_eq term.node node) [
      | inl same ↦ ap is_some (set_at-head term terms node same)
      | inr differs ↦
          ap is_some (set_at-tail term terms node differs)
          ∙ elim (or_cases (term.node == node) (has_node terms node) has) [
            | inl same ↦ absurd (differs (eqb-true term.node node same))
            | inr behind ↦ some_at terms node behind
          ]
    ]

-- sets on a shared node meet
meets_at : (first second : List Term) (on node : ℕ) (a b : ChoiceSet) → list_all (meets_in second on) first ≡ true → node ≢ on
    → set_at first node ≡ Some a → set_at second node ≡ Some b → do_meet a b ≡ true
meets_at [] second on node a b all differs at_first at_second = absurd (false≢true (ap is_some at_first))
meets_at (term ∷ first) second on node a b all differs at_first at_second =
    let parts = and_parts (meets_in second on term) (list_all (meets_in second on) first) all in
    elim (cases_eq term.node node) [
      | inl same ↦
          (let head : Some term.choices ≡ Some a = sym (set_at-head term first node same) ∙ at_first in
          let e : term.choices ≡ a = cc in
          let there : set_at second term.node ≡ Some b = ap (set_at second) same ∙ at_second in
          let here : do_sets_meet (Some term.choices) (set_at second term.node) ≡ true
          = sym (cond-false (term.node == on) true (do_sets_meet (Some term.choices) (set_at second term.node)) (ne_eqb term.node on (λ o. differs (sym same ∙ o)))) ∙ parts.0 in
          ap (λ s. do_meet s b) (sym e) ∙ ap (do_sets_meet (Some term.choices)) (sym there) ∙ here)
      | inr other ↦ meets_at first second on node a b parts.1 differs (sym (set_at-tail term first node other) ∙ at_first) at_second
    ]

-- the tests make what a resolution asks
pub can_resolve_from : (sizes : List ℕ) (first second : List Term) (on : ℕ) → AreSized sizes first → AreSized sizes second
    → can_resolve first second on ≡ true → CanResolve first second on
can_resolve_from sizes first second on sized_first sized_second can =
    let parts = and_three (has_node first on) (has_node second on) (list_all (meets_in second on) first) can in
    record {
      first_on = some_at first on parts.0;
      second_on = some_at second on parts.1;
      sizes = λ node a b at_first at_second. (sized_at sizes first node a sized_first at_first).1 ∙ sym (sized_at sizes second node b sized_second at_second).1;
      meets = λ node a b differs at_first at_second. meets_at first second on node a b parts.2 differs at_first at_second;
    }

-- a resolvent is formed
pub formed_resolvent : (sizes : List ℕ) (first second terms : List Term) (on : ℕ) → IsFormed sizes first → IsFormed sizes second
    → terms ≡ resolvent first second on → IsIncompat terms → IsFormed sizes terms
formed_resolvent sizes first second terms on formed_first formed_second same incompat = record {
  incompat = incompat;
  sized = subst (AreSized sizes) (sym same) (sized_resolvent sizes first second on formed_first.sized formed_second.sized);
}

-- ---- the lines so far

-- one of formed lines
formed_at : (sizes : List ℕ) (all : List (List Term)) (i : ℕ) (terms : List Term) → AreFormed sizes all → slice_get all i ≡ Some terms → IsFormed sizes terms
formed_at sizes [] i terms formed at = absurd (false≢true (ap is_some at))
formed_at sizes (head ∷ all) zero terms formed at =
    let e : head ≡ terms = cc in
    subst (IsFormed sizes) e formed.0
formed_at sizes (head ∷ all) (suc i) terms formed at = formed_at sizes all i terms formed.1 at

-- a line with a number is one of those so far
pub earlier_place : (all : List (List Term)) (number : ℕ) (terms : List Term) → Some terms ≡ earlier_line all number
    → (0 < number) × (slice_get all (number - 1) ≡ Some terms)
earlier_place all number terms at =
    elim (cases_eq number 0) [
      | inl none ↦ absurd (false≢true (sym (ap is_some (at ∙ cond-true (number == 0) None (slice_get all (number - 1)) (eq-eqb number 0 none)))))
      | inr some ↦ (omega arith, sym (at ∙ cond-false (number == 0) None (slice_get all (number - 1)) (ne_eqb number 0 some)))
    ]

-- an earlier line is formed
pub formed_earlier : (sizes : List ℕ) (all : List (List Term)) (number : ℕ) (terms : List Term) → AreFormed sizes all
    → Some terms ≡ earlier_line all number → IsFormed sizes terms
formed_earlier sizes all number terms formed at = formed_at sizes all (number - 1) terms formed (earlier_place all number terms at).1

-- one more formed line
formed_append : (sizes : List ℕ) (all : List (List Term)) (terms : List Term) → AreFormed sizes all → IsFormed sizes terms → AreFormed sizes (all ++ terms ∷ [])
formed_append sizes [] terms formed here = (here, tt)
formed_append sizes (head ∷ all) terms formed here = (formed.0, formed_append sizes all terms formed.1 here)

-- the terms of one more line
pub terms_of_behind : (all : List Incompat) (incompat : Incompat) → terms_of (all ++ incompat ∷ []) ≡ terms_of all ++ incompat.terms ∷ []
terms_of_behind all incompat = map-append (λ (i : Incompat). i.terms) all (incompat ∷ [])

-- as many lists of terms as lines
pub length_terms_of : (all : List Incompat) → length (terms_of all) ≡ length all
length_terms_of all = length-map all (λ (i : Incompat). i.terms)

-- one more formed line of the code
pub are_formed_behind : (sizes : List ℕ) (all : List Incompat) (incompat : Incompat) → AreFormed sizes (terms_of all) → IsFormed sizes incompat.terms
    → AreFormed sizes (terms_of (all ++ incompat ∷ []))
are_formed_behind sizes all incompat formed here =
    subst (AreFormed sizes) (sym (terms_of_behind all incompat)) (formed_append sizes (terms_of all) incompat.terms formed here)

-- what a line's answer leaves of all lines
lines_step : (sizes : List ℕ) (facts : List (List Term)) (all : List Incompat) (line : Line) (rest : List Line) (next : Incompat)
    → at_line (length all + 1) (line_in sizes facts (terms_of all) line) ≡ Ok next.terms
    → lines_after sizes facts (terms_of all) (line ∷ rest) ≡ lines_after sizes facts (terms_of (all ++ next ∷ [])) rest
lines_step sizes facts all line rest next says =
    ap (λ n. at_line (n + 1) (line_in sizes facts (terms_of all) line) >>= (λ terms. lines_after sizes facts (terms_of all ++ terms ∷ []) rest)) (length_terms_of all)
    ∙ ap (λ answer. answer >>= (λ terms. lines_after sizes facts (terms_of all ++ terms ∷ []) rest)) says
    ∙ ap (λ earlier. lines_after sizes facts earlier rest) (sym (terms_of_behind all next))

-- the same, at a place
pub lines_next : (sizes : List ℕ) (facts : List (List Term)) (all : List Incompat) (lines : List Line) (i : ℕ) (line : Line) (next : Incompat)
    → i < length lines → line ≡ get_or lines i line
    → at_line (length all + 1) (line_in sizes facts (terms_of all) line) ≡ Ok next.terms
    → lines_after sizes facts (terms_of (all ++ next ∷ [])) (drop (i + 1) lines) ≡ lines_after sizes facts (terms_of all) (drop i lines)
lines_next sizes facts all lines i line next within at says =
    sym (ap (lines_after sizes facts (terms_of all)) (drop_more lines i line within ∙ ap (λ l. l ∷ drop (i + 1) lines) (sym at))
    ∙ lines_step sizes facts all line (drop (i + 1) lines) next says)
