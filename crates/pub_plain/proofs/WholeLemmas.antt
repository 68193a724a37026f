-- What a load asks of the decided choices, its fact asks of the trail, or the fact is decided whole.
use Rattle.std.proofs.Common.{◌≡◌, ◌≢◌, ◌⊎◌, ℕ, ◌<◌, ◌==◌, Bool, true, false, not, ◌&&◌, List, [], ◌∷◌, map, Contains, Some, None, refl, sym, ap, ◌∙◌, subst, inl, inr, arith, eq-eqb}
use Rattle.std.specs.List.{filter, list_all, list_any}
use Rattle.std.proofs.lemmas.Bool.{and_from, and_parts, cases_Bool, cases_eq, cond-false, false≢true, or_cases, or_left, or_parts, or_right, true_from_ne_false}
use Rattle.pub_set.specs.Choices.{ChoiceSet, has, is_empty}
use Rattle.pub_facts.specs.Assigns.{IsAssignment}
use Rattle.pub_facts.specs.Catalogue.{Catalogue, Job, Lookups, release_at}
use Rattle.pub_facts.specs.Facts as fact_of
use Rattle.pub_facts.specs.Facts.{is_inside, off, on, outside, size_of, trait_node}
use Rattle.pub_facts.specs.Numbered.{all_merged, incompat_in, number_in, term_of}
use Rattle.pub_facts.specs.declared.fact.Written.{Written}
use Rattle.pub_facts.proofs.FactLemmas.{ClauseShape, alone, on_off, one_off, one_outside}
use Rattle.pub_facts.proofs.Members.{contains_cases, contains_head, contains_nothing, contains_one, contains_tail, from_filter, from_map}
use Rattle.pub_facts.proofs.Sets.{has_where, only_has, trait_below}
use Rattle.pub_term.specs.Term.{violates}
use Rattle.pub_term.specs.declared.node.NodeName.{NodeName}
use Rattle.pub_term.specs.declared.node.NodeName.TheVariants.{Package}
use Rattle.pub_term.specs.declared.term.Term.{Term}
use Rattle.pub_trail.specs.First.{chosen, is_asked, is_met}
use Rattle.pub_trail.specs.Trail.{is_decided}
use Rattle.pub_trail.specs.declared.trail.Assigned.{Assigned}
use Rattle.pub_trail.proofs.FirstLemmas.{open_chosen}
use Rattle.pub_trail.proofs.TestLemmas.{any_below}
use Rattle.pub_plain.proofs.AsksLemmas.{at_of, last_is}
use Rattle.pub_plain.proofs.Decisions.{Asks}
use Rattle.pub_plain.proofs.MergedLemmas.{all_from, all_there, is_part, kept, kept_is}
use Rattle.pub_plain.proofs.NumberedLemmas.{Fits, fits-all_merged, violates-all_merged, violates-parts}

-- ---- what holds of decided choices

-- all is decided, and the decided choices violate it
abbrev pub is_decided_whole : List Assigned → List Term → Bool
is_decided_whole trail terms = list_all (λ term. is_decided trail term.node && has term.choices (chosen trail term.node)) terms

-- where each passes, all do
all_each : (test : Term → Bool) (terms : List Term) → ((term : Term) → Contains terms term → test term ≡ true) → list_all test terms ≡ true
all_each test [] each = refl
all_each test (term ∷ terms) each =
    and_from (test term) (list_all test terms) (each term (contains_head term terms))
    (all_each test terms (λ other there. each other (contains_tail term other terms there)))

-- where none passes, each fails
none_passes : (test : Term → Bool) (terms : List Term) (term : Term) → list_any test terms ≡ false → Contains terms term → test term ≡ true → ⊥
none_passes test [] term none here passes = contains_nothing term here
none_passes test (first ∷ terms) term none here passes = elim (contains_cases first term terms here) [
  | inl same ↦ false≢true (sym none ∙ or_left (test first) (list_any test terms) (ap test same ∙ passes))
  | inr there ↦ none_passes test terms term (or_parts (test first) (list_any test terms) none).1 there passes
]

-- a set that has a choice of its size isn't empty
has_some : (set : ChoiceSet) (choice : ℕ) → choice < set.size → has set choice ≡ true → is_empty set ≡ true → ⊥
has_some set choice below here empty =
    false≢true (sym (ap not (any_below (λ k. has set k) set.size choice below here)) ∙ empty)

-- what is left out has an empty set, so it isn't violated
pub left_out : (assignment : ℕ → ℕ) (written : List Term) → Fits assignment written → incompat_in written ≡ None
    → violates assignment written ≡ true → ⊥
left_out assignment written fits is violated = elim (cases_Bool (list_any (λ (term : Term). is_empty term.choices) (kept written))) [
  | inl some ↦
      empty_there (kept written) (fits_kept (all_merged written) (fits-all_merged assignment written fits)) some
      (violates-parts assignment (all_merged written) (fits-all_merged assignment written fits)
      ∙ violates-all_merged assignment written fits ∙ violated)
  | inr none ↦
      (let e : Some (kept written) ≡ None
      = sym (cond-false (list_any (λ (term : Term). is_empty term.choices) (kept written)) None (Some (kept written)) none) ∙ is in
      cc)
]
  where
    fits_kept : (terms : List Term) → Fits assignment terms → (term : Term) → Contains (filter is_part terms) term
        → assignment term.node < term.choices.size
    fits_kept terms fits term here = each terms fits (from_filter is_part terms term here).0
      where
        each : (terms : List Term) → Fits assignment terms → Contains terms term → assignment term.node < term.choices.size
        each [] fits there = absurd (contains_nothing term there)
        each (first ∷ terms) fits there = elim (contains_cases first term terms there) [
          | inl same ↦ subst (λ (t : Term). assignment t.node < t.choices.size) same fits.0
          | inr later ↦ each terms fits.1 later
        ]

    empty_there : (terms : List Term) → ((term : Term) → Contains terms term → assignment term.node < term.choices.size)
        → list_any (λ (term : Term). is_empty term.choices) terms ≡ true → violates assignment terms ≡ true → ⊥
    empty_there [] below some all = false≢true some
    empty_there (first ∷ terms) below some all =
        let parts = and_parts (has first.choices (assignment first.node)) (violates assignment terms) all in
        elim (or_cases (is_empty first.choices) (list_any (λ (term : Term). is_empty term.choices) terms) some) [
          | inl empty ↦ has_some first.choices (assignment first.node) (below first (contains_head first terms)) parts.0 empty
          | inr later ↦ empty_there terms (λ term there. below term (contains_tail first term terms there)) later parts.1
        ]

-- ---- what asks violates

-- what asks an undecided node violates the clause
pub asks_violates : (c : Catalogue) (at : NodeName → ℕ) → IsAssignment c at → (terms : List Written) → ClauseShape c.lookups terms → (node : NodeName)
    → Asks at node terms → at node ≡ 0 → fact_of.violates at terms ≡ true
asks_violates c at sized terms alone node asks none = absurd asks
asks_violates c at sized terms (one_off owner name) node asks none =
    and_from (has (off owner name).choices (at (trait_node owner name))) true
    (only_has 2 0 (at (trait_node owner name)) (trait_below c at owner name sized) (ap at asks ∙ none)) refl
asks_violates c at sized terms (one_outside target requirement) node asks none =
    let zero_there : at (Package target) ≡ 0 = ap at asks ∙ none in
    and_from (has (outside c.lookups target requirement).choices (at (Package target))) true
    (has_where (size_of c.lookups (Package target)) (λ k. not (is_inside requirement (release_at (c.lookups.list target) k))) (at (Package target))
    (sized (Package target))
    ∙ ap (λ k. not (is_inside requirement (release_at (c.lookups.list target) k))) zero_there) refl
asks_violates c at sized terms (on_off owner target under name) node asks none =
    and_from (has (on owner under).choices (at (trait_node owner under))) (fact_of.violates at (off target name ∷ [])) asks.0
    (and_from (has (off target name).choices (at (trait_node target name))) true
    (only_has 2 0 (at (trait_node target name)) (trait_below c at target name sized) (ap at asks.1 ∙ none)) refl)

-- a term of a clause that has 0 is on the node that is asked
pub asks_last : (l : Lookups) (at : NodeName → ℕ) (terms : List Written) → ClauseShape l terms → (node : NodeName) → Asks at node terms
    → (term : Written) → Contains terms term → has term.choices 0 ≡ true → term.node ≡ node
asks_last l at terms alone node asks term here had = absurd asks
asks_last l at terms (one_off owner name) node asks term here had =
    ap (λ (t : Written). t.node) (sym (contains_one (off owner name) term here)) ∙ asks
asks_last l at terms (one_outside target requirement) node asks term here had =
    ap (λ (t : Written). t.node) (sym (contains_one (outside l target requirement) term here)) ∙ asks
asks_last l at terms (on_off owner target under name) node asks term here had =
    let last = last_is l at (on owner under ∷ off target name ∷ []) (on_off owner target under name) term here had in
    let its = contains_tail (on owner under) (off target name) (off target name ∷ []) (contains_head (off target name) []) in
    sym (last.same (off target name) its (only_has 2 0 0 (omega arith) refl)) ∙ asks.1

-- ---- by numbers

module _ (job : Job) (c : Catalogue) (names : List NodeName) (trail : List Assigned) (sized : IsAssignment c (at_of names trail)) where
  -- the decided choices
  abbrev at : NodeName → ℕ
  at = at_of names trail

  -- the terms of a fact by numbers
  abbrev written_of : List Written → List Term
  written_of terms = map (term_of (number_in names)) terms

  -- what an incompatibility of a violated fact has is what the written terms have
  pub record IsKept (all : List Written) (terms : List Term) : Type 0 where
    pub is : incompat_in (written_of all) ≡ Some terms
    pub violated : violates (chosen trail) terms ≡ true

  -- a term is decided, unless a written one on its node has 0 and its node is at 0
  pub term_decided : (all : List Written) (terms : List Term) → IsKept all terms → (term : Term) → Contains terms term
      → ((w : Written) → Contains all w → number_in names w.node ≡ term.node → has w.choices 0 ≡ true → at w.node ≡ 0 → ⊥)
      → is_decided trail term.node ≡ true
  term_decided all terms it term here never =
      let had = all_there (λ (t : Term). has t.choices (chosen trail t.node)) terms term it.violated here in
      let in_all = (from_filter is_part (all_merged (written_of all)) term
      (subst (λ ts. Contains ts term) (sym (kept_is (written_of all) terms it.is)) here)).0 in
      let from = all_from (written_of all) term (chosen trail term.node) in_all had in
      let w = from_map (term_of (number_in names)) all from.term from.there in
      let on_w : number_in names w.0.node ≡ term.node = ap (λ (t : Term). t.node) w.2 ∙ from.on in
      let had_w : has w.0.choices (chosen trail term.node) ≡ true
      = ap (λ (t : Term). has t.choices (chosen trail term.node)) w.2 ∙ from.has_it in
      true_from_ne_false (is_decided trail term.node)
      (λ undecided.
      let zero_there = open_chosen trail term.node undecided in
      never w.0 w.1 on_w (ap (has w.0.choices) (sym zero_there) ∙ had_w) (ap (chosen trail) on_w ∙ zero_there))

  -- so where each is decided, the incompatibility is decided whole
  pub whole_of : (all : List Written) (terms : List Term) → IsKept all terms
      → ((term : Term) → Contains terms term → is_decided trail term.node ≡ true) → is_decided_whole trail terms ≡ true
  whole_of all terms it each =
      all_each (λ (t : Term). is_decided trail t.node && has t.choices (chosen trail t.node)) terms
      (λ term here.
      and_from (is_decided trail term.node) (has term.choices (chosen trail term.node)) (each term here)
      (all_there (λ (t : Term). has t.choices (chosen trail t.node)) terms term it.violated here))

  -- where each is decided but those on an undecided node, it asks the node or is decided whole
  pub asked_or_whole : (all : List Written) (terms : List Term) (n : ℕ) → IsKept all terms → chosen trail n ≡ 0
      → ((term : Term) → Contains terms term → term.node ≢ n → is_decided trail term.node ≡ true)
      → (is_asked trail n terms ≡ true) ⊎ (is_decided_whole trail terms ≡ true)
  asked_or_whole all terms n it none each = go (list_any test terms) refl
    where
      test : Term → Bool
      test = λ t. t.node == n && has t.choices 0

      go : (any : Bool) → list_any test terms ≡ any → (is_asked trail n terms ≡ true) ⊎ (is_decided_whole trail terms ≡ true)
      go true any =
          inl (and_from (list_any test terms) (list_all (is_met trail n) terms) any
          (all_each (is_met trail n) terms
          (λ term here. elim (cases_eq term.node n) [
            | inl same ↦ or_left (term.node == n) (is_decided trail term.node && has term.choices (chosen trail term.node)) (eq-eqb term.node n same)
            | inr differs ↦
                or_right (term.node == n) (is_decided trail term.node && has term.choices (chosen trail term.node))
                (and_from (is_decided trail term.node) (has term.choices (chosen trail term.node)) (each term here differs)
                (all_there (λ (t : Term). has t.choices (chosen trail t.node)) terms term it.violated here))
          ])))
      go false any =
          inr (whole_of all terms it
          (λ term here.
          each term here
          (λ same.
          none_passes test terms term any here
          (and_from (term.node == n) (has term.choices 0) (eq-eqb term.node n same)
          (ap (has term.choices) (sym (ap (chosen trail) same ∙ none))
          ∙ all_there (λ (t : Term). has t.choices (chosen trail t.node)) terms term it.violated here)))))
