-- What a fact by numbers asks of a trail, its load asks of the decided choices; and what a load asks of them, its fact asks of the trail,
-- or the fact is decided whole.
use Rattle.std.proofs.Common.{◌≡◌, ℕ, ◌<◌, true, false, List, [], ◌∷◌, ◌++◌, map, Contains, Option, Some, None, sym, ap, ◌∙◌, subst, inl, inr, arith}
use Rattle.std.proofs.lemmas.Bool.{false≢true, false_from_ne_true}
use Rattle.std.proofs.lemmas.List.Elements.{Contains-append_cases, Contains-append_left, Contains-append_right}
use Rattle.pub_set.specs.Choices.{ChoiceSet, has}
use Rattle.pub_facts.specs.Assigns.{IsOn}
use Rattle.pub_facts.specs.Catalogue.{Catalogue, Job, Lookups, Owner, contents_at, version_in}
use Rattle.pub_facts.specs.Facts.{Load, behind, clauses_of, clauses_with, off, on, only, outside, owner_node, size_of, subject_terms, trait_node, under_terms}
use Rattle.pub_facts.specs.Known.{IsThere}
use Rattle.pub_facts.specs.Numbered.{incompat_of, number_in, term_of}
use Rattle.pub_facts.specs.declared.fact.Fact.{Fact}
use Rattle.pub_facts.specs.declared.fact.Written.{Written}
use Rattle.pub_facts.proofs.FactLemmas.{ClauseShape, alone, clause_shape, on_off, one_off, one_outside}
use Rattle.pub_facts.proofs.Members.{contains_cases, contains_head, contains_map, contains_nothing, contains_one, contains_tail, from_map}
use Rattle.pub_facts.proofs.Sets.{has_only}
use Rattle.pub_term.specs.declared.node.NodeName.{NodeName}
use Rattle.pub_term.specs.declared.node.NodeName.TheVariants.{Root, RootTrait, Package, PackageTrait}
use Rattle.pub_term.specs.declared.term.Term.{Term}
use Rattle.pub_trail.specs.First.{chosen, is_asked}
use Rattle.pub_trail.specs.declared.trail.Assigned.{Assigned}
use Rattle.spm_manifest.specs.declared.dump.Contents.{Contents}
use Rattle.pub_plain.specs.Loading.{facts_at}
use Rattle.pub_plain.proofs.Decisions.{Asks, IsAsked}
use Rattle.pub_plain.proofs.MergedLemmas.{AreSome, fact_asks}
use Rattle.pub_plain.proofs.NoneLemmas.{own_fact}
use Rattle.pub_plain.proofs.OwnerLemmas.{choice_some}
use Rattle.pub_plain.proofs.SameFactLemmas.{at_where}

-- ---- shapes

-- what stands behind the subject, by the contents of the owner
with_shape : (job : Job) (c : Catalogue) (load : Load) (found : Option Contents) (one : Fact) → Contains (clauses_with job c load found) one
    → ClauseShape c.lookups one.terms
with_shape job c load None one here = subst (λ (f : Fact). ClauseShape c.lookups f.terms) (contains_one _ one here) alone
with_shape job c load (Some contents) one here = clause_shape job.asked c.lookups load contents one here

-- each clause of a load has a shape
pub load_shape : (job : Job) (c : Catalogue) (load : Load) (one : Fact) → Contains (clauses_of job c load) one → ClauseShape c.lookups one.terms
load_shape job c load one here = with_shape job c load (contents_at job c load.owner (version_in c.lookups load.owner load.choice)) one here

-- ---- what has none

-- a trait that is on isn't off
on_lacks : (owner : Owner) (name : List ℕ) → has (on owner name).choices 0 ≡ false
on_lacks owner name =
    false_from_ne_true (has (on owner name).choices 0) (λ here. let e : 0 ≡ 1 = has_only 2 1 0 here in absurd (omega (arith, e)))

-- the terms of a trait lack 0
under_lacks : (owner : Owner) (under : Option (List ℕ)) (term : Written) → Contains (under_terms owner under) term → has term.choices 0 ≡ false
under_lacks owner None term here = absurd (contains_nothing term here)
under_lacks owner (Some name) term here = ap (λ (t : Written). has t.choices 0) (sym (contains_one _ term here)) ∙ on_lacks owner name

-- and so do those of the subject of a load in range
pub subject_lacks : (c : Catalogue) (load : Load) → IsThere c.lookups load.owner load.choice → (term : Written)
    → Contains (subject_terms c.lookups load) term → has term.choices 0 ≡ false
subject_lacks c load there term here = elim (contains_cases _ term _ here) [
  | inl same ↦
      ap (λ (t : Written). has t.choices 0) (sym same)
      ∙ false_from_ne_true (has (only c.lookups (owner_node load.owner) load.choice).choices 0)
      (λ had. choice_some c load.owner load.choice there (sym (has_only (size_of c.lookups (owner_node load.owner)) load.choice 0 had)))
  | inr later ↦ under_lacks load.owner load.under term later
]

-- a term of a clause that has 0 is its last; and then the others are held, if what lacks 0 is
pub record IsLast (at : NodeName → ℕ) (terms : List Written) (term : Written) : Type 0 where
  pub same : (other : Written) → Contains terms other → has other.choices 0 ≡ true → other.node ≡ term.node
  pub asks : ((other : Written) → Contains terms other → has other.choices 0 ≡ false → has other.choices (at other.node) ≡ true)
      → Asks at term.node terms

-- of one term alone
one_last : (at : NodeName → ℕ) (one term : Written) → Contains (one ∷ []) term → IsLast at (one ∷ []) term
one_last at one term here =
    let e = contains_one one term here in
    record {
      same = λ other there had. ap (λ (t : Written). t.node) (sym (contains_one one other there) ∙ e);
      asks = λ held. ap (λ (t : Written). t.node) e;
    }

-- of each clause
pub last_is : (l : Lookups) (at : NodeName → ℕ) (terms : List Written) → ClauseShape l terms → (term : Written) → Contains terms term
    → has term.choices 0 ≡ true → IsLast at terms term
last_is l at terms alone term here had = absurd (contains_nothing term here)
last_is l at terms (one_off owner name) term here had = one_last at (off owner name) term here
last_is l at terms (one_outside target requirement) term here had = one_last at (outside l target requirement) term here
last_is l at terms (on_off owner target under name) term here had =
    let first = on owner under in
    let last = off target name in
    let is_last = λ (it : Written) (there : Contains (first ∷ last ∷ []) it) (had_it : has it.choices 0 ≡ true).
    last_of first last it (on_lacks owner under) there had_it in
    let e = is_last term here had in
    record {
      same = λ other there had_other. ap (λ (t : Written). t.node) (sym (is_last other there had_other) ∙ e);
      asks = λ held. (held first (contains_head first (last ∷ [])) (on_lacks owner under), ap (λ (t : Written). t.node) e);
    }
  where
    last_of : (first last it : Written) → has first.choices 0 ≡ false → Contains (first ∷ last ∷ []) it → has it.choices 0 ≡ true → last ≡ it
    last_of first last it lacks there had_it = elim (contains_cases first it (last ∷ []) there) [
      | inl same ↦ absurd (false≢true (sym lacks ∙ ap (λ (t : Written). has t.choices 0) same ∙ had_it))
      | inr later ↦ contains_one last it later
    ]

-- ---- from numbers to names

-- the decided choice of a node, by its number
abbrev pub at_of : List NodeName → List Assigned → NodeName → ℕ
at_of names trail = λ node. chosen trail (number_in names node)

-- a node of this number that is asked
pub record AsksNode (job : Job) (c : Catalogue) (names : List NodeName) (trail : List Assigned) (n : ℕ) : Type 0 where
  pub node : NodeName
  pub number : number_in names node ≡ n
  pub asked : IsAsked job c (at_of names trail) node

-- each node has a choice
node_some : (l : Lookups) (node : NodeName) (size : ℕ) → size_of l node ≡ size → 0 < size
node_some l node size is = subst (λ n. 0 < n) is (some node)
  where
    some : (node : NodeName) → 0 < size_of l node
    some Root = omega arith
    some (RootTrait name) = omega arith
    some (Package identity) = omega arith
    some (PackageTrait identity name) = omega arith

module _ (job : Job) (c : Catalogue) (names : List NodeName) (trail : List Assigned) where
  -- the terms of a fact by numbers
  abbrev written_of : List Written → List Term
  written_of terms = map (term_of (number_in names)) terms

  -- each of a fact that a load brings is on a node that has a choice
  written_some : (load : Load) (one : Fact) → Contains (facts_at job c load) one → AreSome (written_of one.terms)
  written_some load one given term here =
      let w = from_map (term_of (number_in names)) one.terms term here in
      let is = at_where job c load one w.0 given w.1 in
      subst (λ (t : Term). 0 < t.choices.size) w.2
      (node_some c.lookups w.0.node w.0.choices.size (sym (ap (λ (set : ChoiceSet). set.size) is.is)))

  -- what has 0 in a fact is in its clause
  zero_behind : (load : Load) (clause : Fact) (term : Written) → IsThere c.lookups load.owner load.choice
      → Contains (subject_terms c.lookups load ++ clause.terms) term → has term.choices 0 ≡ true → Contains clause.terms term
  zero_behind load clause term there here had = elim (Contains-append_cases (subject_terms c.lookups load) clause.terms term here) [
    | inl subject ↦ absurd (false≢true (sym (subject_lacks c load there term subject) ∙ had))
    | inr behind_it ↦ behind_it
  ]

  -- what a fact asks of the trail, its load asks of the decided choices
  pub load_asks : (load : Load) (one : Fact) (terms : List Term) (n : ℕ) → Contains (facts_at job c load) one
      → incompat_of (number_in names) one ≡ Some terms → is_asked trail n terms ≡ true → AsksNode job c names trail n
  load_asks load one terms n given is asked =
      let own = own_fact job c load one given in
      let clause = from_map (behind c.lookups load) (clauses_of job c load) one own.given in
      let all = subject_terms c.lookups load ++ clause.0.terms in
      let same : one.terms ≡ all = ap (λ (f : Fact). f.terms) (sym clause.2) in
      let asks = fact_asks trail (written_of one.terms) terms n (written_some load one given) is asked in
      let w = from_map (term_of (number_in names)) one.terms asks.term asks.there in
      let zero_w = ap (λ (t : Term). has t.choices 0) w.2 ∙ asks.has_zero in
      let in_all : Contains all w.0 = subst (λ ts. Contains ts w.0) same w.1 in
      let in_clause = zero_behind load clause.0 w.0 own.there in_all zero_w in
      let held : (other : Written) → Contains all other → has other.choices 0 ≡ false
      → has other.choices (chosen trail (number_in names other.node)) ≡ true
      = λ other there lacks.
      (asks.others (term_of (number_in names) other)
      (contains_map (term_of (number_in names)) one.terms other (subst (λ ts. Contains ts other) (sym same) there)) lacks).1 in
      let last = last_is c.lookups (at_of names trail) clause.0.terms (load_shape job c load clause.0 clause.1) w.0 in_clause zero_w in
      let owner_term = only c.lookups (owner_node load.owner) load.choice in
      let owner_in : Contains (subject_terms c.lookups load) owner_term = contains_head owner_term (under_terms load.owner load.under) in
      record {
        node = w.0.node;
        number = ap (λ (t : Term). t.node) w.2 ∙ asks.on;
        asked = record {
          load = load;
          own = record {
            there = own.there;
            chosen = has_only (size_of c.lookups (owner_node load.owner)) load.choice (at_of names trail (owner_node load.owner))
                (held owner_term (Contains-append_left (subject_terms c.lookups load) clause.0.terms owner_term owner_in)
                (subject_lacks c load own.there owner_term owner_in));
            on = on_there load load.under
                (λ term in_under.
                held term (Contains-append_left (subject_terms c.lookups load) clause.0.terms term
                (contains_tail owner_term term (under_terms load.owner load.under) in_under))
                (under_lacks load.owner load.under term in_under));
          };
          clause = clause.0;
          there = clause.1;
          asks = last.asks
              (λ other in_terms lacks. held other (Contains-append_right (subject_terms c.lookups load) clause.0.terms other in_terms) lacks);
        };
      }
    where
      on_there : (load : Load) (under : Option (List ℕ))
          → ((term : Written) → Contains (under_terms load.owner under) term → has term.choices (chosen trail (number_in names term.node)) ≡ true)
          → IsOn (at_of names trail) load.owner under
      on_there load None held = tt
      on_there load (Some name) held =
          has_only 2 1 (at_of names trail (trait_node load.owner name)) (held (on load.owner name) (contains_head (on load.owner name) []))
