-- The facts of a load: their shape, and by numbers that each term's set is one of its node's size.
use Rattle.std.proofs.Common.{◌≡◌, ℕ, suc, ◌<◌, Bool, true, not, List, [], ◌∷◌, map, length, slice_index, Contains, Option, Some, None, refl, sym, ap, ap₂, ◌∙◌, subst, inl, inr, arith}
use Rattle.std.specs.Str.{bytes_eq}
use Rattle.std.specs.Cmp.Lexicographic.{bytes_decides}
use Rattle.std.specs.Option.{option_eq}
use Rattle.std.proofs.lemmas.Bool.{and_parts, cases_Bool, cond-false, cond-true, false≢true}
use Rattle.std.proofs.lemmas.List.Elements.{Contains-append_cases, Contains-append_left, Contains-append_right}
use Rattle.pub_set.specs.Choices.{ChoiceSet, IsSet, is_among, set_where}
use Rattle.pub_set.proofs.SetLemmas.{IsSet-where}
use Rattle.pub_term.specs.Node.{package_of, trait_of}
use Rattle.pub_term.specs.NodeLaws.{node_eq}
use Rattle.pub_term.specs.Sized.{AreSets, AreSized}
use Rattle.pub_term.specs.declared.node.NodeName.{NodeName}
use Rattle.pub_term.specs.declared.node.NodeName.TheVariants.{Root, RootTrait, Package, PackageTrait}
use Rattle.spm_manifest.specs.declared.dump.Contents.{Contents}
use Rattle.spm_manifest.specs.declared.need.Ask.{Ask}
use Rattle.spm_manifest.specs.declared.need.Need.{Need}
use Rattle.spm_trait.specs.Closure.{enabled_by, is_declared}
use Rattle.spm_version.specs.declared.requirement.Requirement.{Requirement}
use Rattle.pub_facts.specs.Catalogue.{Lookups, Owner, release_at, target_of}
use Rattle.pub_facts.specs.Facts.{Load, asked_under, asks_of, behind, clauses_in, clauses_under, enables, facts_in, is_inside, load_needs, need_clauses, need_clauses_on, needs_clauses, off, on, outside, size_of, subject_terms, switched, under_terms, words_ask, words_clauses}
use Rattle.pub_facts.specs.Numbered.{AreNamed, number_in, sizes_of, term_of, written_nodes}
use Rattle.pub_facts.specs.declared.fact.Fact.{Fact}
use Rattle.pub_facts.specs.declared.fact.Written.{Written}
use Rattle.pub_facts.proofs.Members.{contains_cases, contains_head, contains_map, contains_nothing, contains_one, contains_tail, from_flat_map, from_map}

-- ---- names and numbers

abbrev rebuilt : Option (List ℕ) → Option (List ℕ) → NodeName
rebuilt None None = Root
rebuilt None (Some name) = RootTrait name
rebuilt (Some identity) None = Package identity
rebuilt (Some identity) (Some name) = PackageTrait identity name

rebuilt_is : (node : NodeName) → rebuilt (package_of node) (trait_of node) ≡ node
rebuilt_is Root = refl
rebuilt_is (RootTrait name) = refl
rebuilt_is (Package identity) = refl
rebuilt_is (PackageTrait identity name) = refl

option_same : (a b : Option (List ℕ)) → option_eq bytes_eq a b ≡ true → a ≡ b
option_same None None is = refl
option_same None (Some b) is = absurd (false≢true is)
option_same (Some a) None is = absurd (false≢true is)
option_same (Some a) (Some b) is = ap (λ (x : List ℕ). Some x) ((bytes_decides a b).0 is)

-- nodes that are told apart by nothing are equal
pub node_same : (x y : NodeName) → node_eq x y ≡ true → x ≡ y
node_same x y is =
    let parts = and_parts (option_eq bytes_eq (package_of x) (package_of y)) (option_eq bytes_eq (trait_of x) (trait_of y)) is in
    sym (rebuilt_is x) ∙ ap₂ rebuilt (option_same (package_of x) (package_of y) parts.0) (option_same (trait_of x) (trait_of y) parts.1) ∙ rebuilt_is y

-- a node has its own number's size
pub size_at : (l : Lookups) (names : List NodeName) (node : NodeName) → number_in names node < length names
    → slice_index (sizes_of l names) (number_in names node) ≡ size_of l node
size_at l [] node below = absurd (omega (arith, below))
size_at l (first ∷ names) node below = elim (cases_Bool (node_eq first node)) [
  | inl is ↦
      (let n : number_in (first ∷ names) node ≡ 0 = cond-true (node_eq first node) 0 (suc (number_in names node)) is in
      ap (slice_index (sizes_of l (first ∷ names))) n ∙ ap (size_of l) (node_same first node is))
  | inr isnt ↦
      (let n : number_in (first ∷ names) node ≡ suc (number_in names node) = cond-false (node_eq first node) 0 (suc (number_in names node)) isnt in
      ap (slice_index (sizes_of l (first ∷ names))) n ∙ size_at l names node (omega (arith, n, below)))
]

-- there are as many sizes as names
pub sizes_length : (l : Lookups) (names : List NodeName) → length (sizes_of l names) ≡ length names
sizes_length l [] = refl
sizes_length l (name ∷ names) = ap (λ n. suc n) (sizes_length l names)

-- ---- the shape of a fact

-- what stands behind the subject: nothing, a trait that is off, a package that is none or not contained, or a trait that is on and one
-- that is off
pub data ClauseShape (l : Lookups) : List Written → Type 0 where
  alone : ClauseShape l []
  one_off : (owner : Owner) (name : List ℕ) → ClauseShape l (off owner name ∷ [])
  one_outside : (target : List ℕ) (requirement : Requirement) → ClauseShape l (outside l target requirement ∷ [])
  on_off : (owner target : Owner) (under name : List ℕ) → ClauseShape l (on owner under ∷ off target name ∷ [])

abbrev Shaped : Lookups → Fact → Type 0
Shaped l one = ClauseShape l one.terms

asks_shape : (l : Lookups) (load : Load) (target name : List ℕ) (under : List (List ℕ)) (one : Fact) → Contains (asks_of l load target name under) one → Shaped l one
asks_shape l load target name [] one here = subst (Shaped l) (contains_one _ one here) (one_off (Some target) name)
asks_shape l load target name (first ∷ others) one here =
    let found = from_map (asked_under l load target name) (first ∷ others) one here in
    subst (Shaped l) found.2 (on_off load.owner (Some target) found.0 name)

need_shape : (l : Lookups) (load : Load) (need : Need) (target : Option (List ℕ)) (one : Fact) → Contains (need_clauses_on l load need target) one → Shaped l one
need_shape l load need None one here = subst (Shaped l) (contains_one _ one here) alone
need_shape l load need (Some target) one here = elim (contains_cases _ one _ here) [
  | inl same ↦ subst (Shaped l) same (one_outside target need.requirement)
  | inr asked ↦
      (let found = from_flat_map (λ (ask : Ask). asks_of l load target ask.name ask.under) need.asked one asked in
      asks_shape l load target found.0.name found.0.under one found.2)
]

needs_shape : (l : Lookups) (load : Load) (contents : Contents) (under : Option (List ℕ)) (one : Fact) → Contains (needs_clauses l load contents under) one
    → Shaped l one
needs_shape l load contents under one here =
    let found = from_flat_map (need_clauses l load) (load_needs under contents) one here in
    need_shape l load found.0 (target_of l found.0) one found.2

words_shape : (asked : List (List ℕ)) (l : Lookups) (owner : Owner) (one : Fact) → Contains (words_clauses asked owner) one → Shaped l one
words_shape asked l None one here =
    let found = from_map words_ask asked one here in
    subst (Shaped l) found.2 (one_off None found.0)
words_shape asked l (Some identity) one here = absurd (contains_nothing one here)

under_shape : (asked : List (List ℕ)) (l : Lookups) (load : Load) (contents : Contents) (under : Option (List ℕ)) (one : Fact)
    → Contains (clauses_under asked l load contents under) one → Shaped l one
under_shape asked l load contents None one here = elim (Contains-append_cases (words_clauses asked load.owner) _ one here) [
  | inl words ↦ words_shape asked l load.owner one words
  | inr needs ↦ needs_shape l load contents None one needs
]
under_shape asked l load contents (Some name) one here = elim (cases_Bool (is_declared contents.traits.entries name)) [
  | inl declared ↦
      elim (Contains-append_cases _ _ one (subst (λ clauses. Contains clauses one) (cond-true (is_declared contents.traits.entries name) _ _ declared) here)) [
        | inl enabling ↦
            (let found = from_map (enables l load) (enabled_by contents.traits.entries name) one enabling in
            subst (Shaped l) found.2 (one_off load.owner found.0))
        | inr needs ↦ needs_shape l load contents (Some name) one needs
      ]
  | inr undeclared ↦
      subst (Shaped l)
      (contains_one _ one (subst (λ clauses. Contains clauses one) (cond-false (is_declared contents.traits.entries name) _ _ undeclared) here)) alone
]

-- each clause of a load has a shape
pub clause_shape : (asked : List (List ℕ)) (l : Lookups) (load : Load) (contents : Contents) (one : Fact)
    → Contains (clauses_in asked l load contents) one → ClauseShape l one.terms
clause_shape asked l load contents one here = under_shape asked l load contents load.under one here

-- ---- each term is a set of its node's size

pub record IsWhere (l : Lookups) (term : Written) : Type 0 where
  pub test : ℕ → Bool
  pub is : term.choices ≡ set_where (size_of l term.node) test

switched_where : (l : Lookups) (owner : Owner) (name : List ℕ) (k : ℕ) → IsWhere l (switched owner name k)
switched_where l None name k = record { test = is_among (k ∷ []); is = refl }
switched_where l (Some identity) name k = record { test = is_among (k ∷ []); is = refl }

shape_where : (l : Lookups) (terms : List Written) → ClauseShape l terms → (term : Written) → Contains terms term → IsWhere l term
shape_where l terms alone term here = absurd (contains_nothing term here)
shape_where l terms (one_off owner name) term here = subst (IsWhere l) (contains_one _ term here) (switched_where l owner name 0)
shape_where l terms (one_outside target requirement) term here = subst (IsWhere l) (contains_one _ term here) (record { test = λ k. not (is_inside requirement (release_at (l.list target) k)); is = refl })
shape_where l terms (on_off owner target under name) term here = elim (contains_cases (on owner under) term (off target name ∷ []) here) [
  | inl same ↦ subst (IsWhere l) same (switched_where l owner under 1)
  | inr there ↦ subst (IsWhere l) (contains_one _ term there) (switched_where l target name 0)
]

under_where : (l : Lookups) (owner : Owner) (under : Option (List ℕ)) (term : Written) → Contains (under_terms owner under) term → IsWhere l term
under_where l owner None term here = absurd (contains_nothing term here)
under_where l owner (Some name) term here = subst (IsWhere l) (contains_one _ term here) (switched_where l owner name 1)

-- each term of the subject is a set of its node's size
pub subject_where : (l : Lookups) (load : Load) (term : Written) → Contains (subject_terms l load) term → IsWhere l term
subject_where l load term here = elim (contains_cases _ term _ here) [
  | inl same ↦ subst (IsWhere l) same (record { test = is_among (load.choice ∷ []); is = refl })
  | inr there ↦ under_where l load.owner load.under term there
]

-- each term of a fact is a set of its node's size
pub term_where : (asked : List (List ℕ)) (l : Lookups) (load : Load) (contents : Contents) (one : Fact) (term : Written)
    → Contains (facts_in asked l load contents) one → Contains one.terms term → IsWhere l term
term_where asked l load contents one term here there =
    let found = from_map (behind l load) (clauses_in asked l load contents) one here in
    elim (Contains-append_cases (subject_terms l load) found.0.terms term (subst (λ (f : Fact). Contains f.terms term) (sym found.2) there)) [
      | inl subject ↦ subject_where l load term subject
      | inr clause ↦ shape_where l found.0.terms (clause_shape asked l load contents found.0 found.1) term clause
    ]

abbrev AreWhere : Lookups → List Written → Type 0
AreWhere l terms = (term : Written) → Contains terms term → IsWhere l term

abbrev AreTermsNamed : List NodeName → List Written → Type 0
AreTermsNamed names terms = (term : Written) → Contains terms term → number_in names term.node < length names

sized_terms : (l : Lookups) (names : List NodeName) (terms : List Written) → AreWhere l terms → AreTermsNamed names terms
    → AreSized (sizes_of l names) (map (term_of (number_in names)) terms)
sized_terms l names [] each named = tt
sized_terms l names (term ∷ terms) each named =
    let it = each term (contains_head term terms) in
    let below = named term (contains_head term terms) in (
      (
        subst (λ n. number_in names term.node < n) (sym (sizes_length l names)) below,
        ap (λ (s : ChoiceSet). s.size) it.is ∙ sym (size_at l names term.node below),
      ),
      sized_terms l names terms (λ other there. each other (contains_tail term other terms there)) (λ other there. named other (contains_tail term other terms there)),
    )

set_terms : (l : Lookups) (names : List NodeName) (terms : List Written) → AreWhere l terms → AreSets (map (term_of (number_in names)) terms)
set_terms l names [] each = tt
set_terms l names (term ∷ terms) each =
    let it = each term (contains_head term terms) in (
      subst IsSet (sym it.is) (IsSet-where (size_of l term.node) it.test),
      set_terms l names terms (λ other there. each other (contains_tail term other terms there)),
    )

-- the node of a term of a fact is written
pub written_there : (facts : List Fact) (one : Fact) (term : Written) → Contains facts one → Contains one.terms term → Contains (written_nodes facts) term.node
written_there [] one term here there = absurd (contains_nothing one here)
written_there (first ∷ facts) one term here there = elim (contains_cases first one facts here) [
  | inl same ↦ Contains-append_left (map (λ (t : Written). t.node) first.terms) (written_nodes facts) term.node
      (contains_map (λ (t : Written). t.node) first.terms term (subst (λ (f : Fact). Contains f.terms term) (sym same) there))
  | inr later ↦ Contains-append_right (map (λ (t : Written). t.node) first.terms) (written_nodes facts) term.node
      (written_there facts one term later there)
]

pub record IsNumbered (l : Lookups) (names : List NodeName) (one : Fact) : Type 0 where
  pub sized : AreSized (sizes_of l names) (map (term_of (number_in names)) one.terms)
  pub sets : AreSets (map (term_of (number_in names)) one.terms)

-- the terms of a load's facts by numbers are sets of their nodes' sizes, where the nodes are named
pub fact_numbered : (asked : List (List ℕ)) (l : Lookups) (load : Load) (contents : Contents) (names : List NodeName)
    → AreNamed names (facts_in asked l load contents) → (one : Fact) → Contains (facts_in asked l load contents) one → IsNumbered l names one
fact_numbered asked l load contents names named one here =
    let where_each : AreWhere l one.terms = λ term there. term_where asked l load contents one term here there in
    record {
      sized = sized_terms l names one.terms where_each
          (λ term there. named term.node (written_there (facts_in asked l load contents) one term here there));
      sets = set_terms l names one.terms where_each;
    }
