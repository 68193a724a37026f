-- Where the loads of the decided choices are done and no fact is decided whole: what a load asks and isn't decided, a fact asks of the trail;
-- and where nothing is asked that isn't decided, the decided choices violate no fact of their own loads.
use Rattle.std.proofs.Common.{◌≡◌, ◌≢◌, ℕ, ◌<◌, true, false, List, [], ◌∷◌, ◌++◌, length, Contains, Option, Some, None, refl, sym, ap, ◌∙◌, subst, inl, inr, eq-eqb}
use Rattle.std.specs.Prelude.{is_some}
use Rattle.std.proofs.lemmas.Bool.{and_from, cond-true, false_from_ne_true}
use Rattle.std.proofs.lemmas.List.Elements.{Contains-append_cases, Contains-append_right}
use Rattle.pub_set.specs.Choices.{ChoiceSet, has}
use Rattle.pub_facts.specs.Assigns.{Agrees, IsAssignment, IsOwn}
use Rattle.pub_facts.specs.Catalogue.{Catalogue, Job, Lookups, Owner, contents_at, version_in}
use Rattle.pub_facts.specs.Facts as fact_of
use Rattle.pub_facts.specs.Facts.{Load, behind, clauses_of, clauses_with, fact, facts_of, found_at, owner_node, subject_of, subject_terms, trouble, under_names}
use Rattle.pub_facts.specs.Known.{IsThere}
use Rattle.pub_facts.specs.Numbered.{incompat_of, number_in}
use Rattle.pub_facts.specs.declared.fact.Fact.{Fact}
use Rattle.pub_facts.specs.declared.fact.Written.{Written}
use Rattle.pub_facts.proofs.Members.{contains_head, contains_map, contains_nothing, contains_tail, from_map}
use Rattle.pub_facts.proofs.SecondLaw.{own}
use Rattle.pub_facts.proofs.Sets.{holds_subject, violates-append}
use Rattle.pub_term.specs.declared.node.NodeName.{NodeName}
use Rattle.pub_term.specs.declared.node.NodeName.TheVariants.{Root}
use Rattle.pub_term.specs.declared.term.Term.{Term}
use Rattle.pub_trail.specs.First.{chosen, is_asked}
use Rattle.pub_trail.specs.declared.trail.Assigned.{Assigned}
use Rattle.spm_manifest.specs.declared.dump.Contents.{Contents}
use Rattle.pub_plain.specs.Loading.{facts_at, is_loadable, is_there, is_usable_under}
use Rattle.pub_plain.proofs.AsksLemmas.{at_of, last_is, load_shape, subject_lacks}
use Rattle.pub_plain.proofs.Decisions.{Asks, IsAsked}
use Rattle.pub_plain.proofs.MergedLemmas.{all_there}
use Rattle.pub_plain.proofs.NumberedLemmas.{AreChosen, fact_violated, terms_fit, terms_violated}
use Rattle.pub_plain.proofs.SameFactLemmas.{at_where}
use Rattle.pub_plain.proofs.WholeLemmas.{IsKept, asked_or_whole, asks_last, asks_violates, is_decided_whole, left_out, term_decided, whole_of}

-- a fact that is among the incompatibilities, on nodes that are named
pub record IsAmong (names : List NodeName) (facts : List (List Term)) (one : Fact) : Type 0 where
  pub named : (term : Written) → Contains one.terms term → number_in names term.node < length names
  pub given : (terms : List Term) → incompat_of (number_in names) one ≡ Some terms → Contains facts terms

-- the loads of the decided choices are done, and no fact is decided whole
pub record AreDone (job : Job) (c : Catalogue) (names : List NodeName) (facts : List (List Term)) (trail : List Assigned) : Type 0 where
  pub sized : IsAssignment c (at_of names trail)
  pub root : at_of names trail Root ≡ 1
  pub done : (load : Load) → IsOwn c (at_of names trail) load → (one : Fact) → Contains (facts_at job c load) one → IsAmong names facts one
  pub never : (terms : List Term) → Contains facts terms → is_decided_whole trail terms ≡ true → ⊥

-- a choice in range passes the test
there_to : (l : Lookups) (owner : Owner) (choice : ℕ) → IsThere l owner choice → is_there l owner choice ≡ true
there_to l None choice there = eq-eqb choice 1 there
there_to l (Some identity) choice there = ap is_some there.1

-- the node that is asked is that of a term
asked_term : (at : NodeName → ℕ) (node : NodeName) (terms : List Written) → Asks at node terms → (w : Written) × Contains terms w × (w.node ≡ node)
asked_term at node [] asks = absurd asks
asked_term at node (term ∷ []) asks = (term, contains_head term [], asks)
asked_term at node (term ∷ next ∷ terms) asks =
    let later = asked_term at node (next ∷ terms) asks.1 in
    (later.0, contains_tail term later.0 (next ∷ terms) later.1, later.2)

module _ (job : Job) (c : Catalogue) (names : List NodeName) (facts : List (List Term)) (trail : List Assigned)
    (are : AreDone job c names facts trail) where
  -- the decided choices
  abbrev at : NodeName → ℕ
  at = at_of names trail

  -- a fact that is violated by the decided choices, with its incompatibility
  record IsViolated (one : Fact) : Type 0 where
    terms : List Term
    it : IsKept job c names trail are.sized one.terms terms
    there : Contains facts terms

  -- its nodes have the choices of their numbers
  chosen_of : (load : Load) (one : Fact) → Contains (facts_at job c load) one → AreChosen (number_in names) (chosen trail) at one.terms
  chosen_of load one given term there =
      let is = at_where job c load one term given there in
      (refl, subst (λ size. at term.node < size) (sym (ap (λ (set : ChoiceSet). set.size) is.is)) (are.sized term.node))

  -- each violated fact of an own load has one
  violated_one : (load : Load) → IsOwn c at load → (one : Fact) → Contains (facts_at job c load) one → fact_of.violates at one.terms ≡ true
      → IsViolated one
  violated_one load is_own one given violated = go (incompat_of (number_in names) one) refl
    where
      fit : AreChosen (number_in names) (chosen trail) at one.terms
      fit = chosen_of load one given

      go : (found : Option (List Term)) → incompat_of (number_in names) one ≡ found → IsViolated one
      go None is =
          absurd (left_out (chosen trail) _ (terms_fit (number_in names) (chosen trail) at one.terms fit) is
          (terms_violated (number_in names) (chosen trail) at one.terms fit ∙ violated))
      go (Some terms) is = record {
        terms = terms;
        it = record { is = is; violated = fact_violated (number_in names) (chosen trail) at one terms fit is ∙ violated };
        there = (are.done load is_own one given).given terms is;
      }

  -- in a violated fact some term has 0 and its node isn't decided
  some_open : (load : Load) → IsOwn c at load → (one : Fact) → Contains (facts_at job c load) one → fact_of.violates at one.terms ≡ true
      → ((w : Written) → Contains one.terms w → has w.choices 0 ≡ true → at w.node ≡ 0 → ⊥) → ⊥
  some_open load is_own one given violated none =
      let found = violated_one load is_own one given violated in
      are.never found.terms found.there
      (whole_of job c names trail are.sized one.terms found.terms found.it
      (λ term here.
      term_decided job c names trail are.sized one.terms found.terms found.it term here
      (λ w in_terms on had zero_there. none w in_terms had zero_there)))

  -- the subject of an own load is violated
  subject_violated : (load : Load) → IsOwn c at load → fact_of.violates at (subject_terms c.lookups load) ≡ true
  subject_violated load is_own = holds_subject c at load are.sized is_own.chosen is_own.on

  -- so no fact of it is the subject alone
  alone_never : (load : Load) → IsOwn c at load → (clause : Fact) → Contains (facts_at job c load) (behind c.lookups load clause) → clause.terms ≡ []
      → ⊥
  alone_never load is_own clause given none =
      some_open load is_own (behind c.lookups load clause) given
      (violates-append at (subject_terms c.lookups load) clause.terms
      ∙ and_from (fact_of.violates at (subject_terms c.lookups load)) (fact_of.violates at clause.terms) (subject_violated load is_own)
      (ap (fact_of.violates at) none))
      (λ w here had zero_there. elim (Contains-append_cases (subject_terms c.lookups load) clause.terms w here) [
        | inl subject ↦ lacks w (subject_lacks c load is_own.there w subject) had
        | inr later ↦ contains_nothing w (subst (λ ts. Contains ts w) none later)
      ])
    where
      lacks : (w : Written) → has w.choices 0 ≡ false → has w.choices 0 ≡ true → ⊥
      lacks w isnt is = (let e : false ≡ true = sym isnt ∙ is in cc)

  -- what a load may bring it brings
  brought_one : (load : Load) (clause : Fact) → is_loadable job c load ≡ true → Contains (clauses_of job c load) clause
      → Contains (facts_at job c load) (behind c.lookups load clause)
  brought_one load clause may here =
      subst (λ facts. Contains facts (behind c.lookups load clause)) (sym (cond-true (is_loadable job c load) (facts_of job c load) [] may))
      (contains_map (behind c.lookups load) (clauses_of job c load) clause here)

  -- an owner whose own load asks for nothing is loaded without a trait
  owner_load : (owner : Owner) → IsThere c.lookups owner (at (owner_node owner)) → IsOwn c at (own at owner None)
  owner_load owner there = record { there = there; chosen = refl; on = tt }

  -- so the owner of an own load can be used
  owner_usable : (load : Load) → IsOwn c at load → contents_at job c load.owner (version_in c.lookups load.owner load.choice) ≡ None → ⊥
  owner_usable load is_own none =
      let its = own at load.owner None in
      let there : IsThere c.lookups load.owner (at (owner_node load.owner)) = subst (IsThere c.lookups load.owner) (sym is_own.chosen) is_own.there in
      let still : contents_at job c its.owner (version_in c.lookups its.owner its.choice) ≡ None
      = ap (λ choice. contents_at job c load.owner (version_in c.lookups load.owner choice)) is_own.chosen ∙ none in
      let one = fact [] (trouble (subject_of c.lookups its (under_names None)) (found_at c its.owner (version_in c.lookups its.owner its.choice))) in
      alone_never its (owner_load load.owner there) one
      (brought_one its one (and_from (is_there c.lookups load.owner (at (owner_node load.owner))) true (there_to c.lookups load.owner _ there) refl)
      (subst (λ f. Contains (clauses_with job c its f) one) (sym still) (contains_head one []))) refl

  -- and an own load may be done
  own_loadable : (load : Load) → IsOwn c at load → is_loadable job c load ≡ true
  own_loadable load is_own =
      and_from (is_there c.lookups load.owner load.choice) _ (there_to c.lookups load.owner load.choice is_own.there)
      (under load.under (contents_at job c load.owner (version_in c.lookups load.owner load.choice)) refl)
    where
      under : (under : Option (List ℕ)) (found : Option Contents)
          → contents_at job c load.owner (version_in c.lookups load.owner load.choice) ≡ found → is_usable_under under found ≡ true
      under None found is = refl
      under (Some name) None is = absurd (owner_usable load is_own is)
      under (Some name) (Some contents) is = refl

  -- no clause of an own load says nothing
  pub own_clean : (load : Load) → IsOwn c at load → (one : Fact) → Contains (clauses_of job c load) one → one.terms ≡ [] → ⊥
  own_clean load is_own one here none = alone_never load is_own one (brought_one load one (own_loadable load is_own) here) none

  -- what asks an undecided node: a fact, and the node is named
  pub record IsAskedBy (node : NodeName) : Type 0 where
    pub terms : List Term
    pub there : Contains facts terms
    pub asks : is_asked trail (number_in names node) terms ≡ true
    pub named : number_in names node < length names

  -- what a load asks and isn't decided is asked by a fact
  pub asked_open : (node : NodeName) → IsAsked job c at node → at node ≡ 0 → IsAskedBy node
  asked_open node asked none = record {
    terms = found.terms;
    there = found.there;
    asks = elim (asked_or_whole job c names trail are.sized one.terms found.terms (number_in names node) found.it none
        (λ term here differs.
        term_decided job c names trail are.sized one.terms found.terms found.it term here
        (λ w in_terms on had zero_there. differs (sym on ∙ ap (number_in names) (last_on w in_terms had))))) [
          | inl is ↦ is
          | inr whole ↦ absurd (are.never found.terms found.there whole)
        ];
    named = subst (λ n. number_in names n < length names) its.2
        ((are.done asked.load asked.own one given).named its.0
        (Contains-append_right (subject_terms c.lookups asked.load) asked.clause.terms its.0 its.1));
  }
    where
      one : Fact
      one = behind c.lookups asked.load asked.clause

      given : Contains (facts_at job c asked.load) one
      given = brought_one asked.load asked.clause (own_loadable asked.load asked.own) asked.there

      its : (w : Written) × Contains asked.clause.terms w × (w.node ≡ node)
      its = asked_term at node asked.clause.terms asked.asks

      found : IsViolated one
      found = violated_one asked.load asked.own one given
          (violates-append at (subject_terms c.lookups asked.load) asked.clause.terms
          ∙ and_from (fact_of.violates at (subject_terms c.lookups asked.load)) (fact_of.violates at asked.clause.terms)
          (subject_violated asked.load asked.own)
          (asks_violates c at are.sized asked.clause.terms (load_shape job c asked.load asked.clause asked.there) node asked.asks none))

      last_on : (w : Written) → Contains one.terms w → has w.choices 0 ≡ true → w.node ≡ node
      last_on w here had = elim (Contains-append_cases (subject_terms c.lookups asked.load) asked.clause.terms w here) [
        | inl subject ↦ (let e : false ≡ true = sym (subject_lacks c asked.load asked.own.there w subject) ∙ had in cc)
        | inr later ↦ asks_last c.lookups at asked.clause.terms (load_shape job c asked.load asked.clause asked.there) node asked.asks w later had
      ]

  -- where all that is asked is decided, the decided choices violate no fact of their own loads
  pub own_agrees : ((node : NodeName) → IsAsked job c at node → at node ≢ 0) → Agrees job c at
  own_agrees decided = record {
    sized = are.sized;
    root = are.root;
    none = λ load is_own one here.
        false_from_ne_true (fact_of.violates at one.terms)
        (λ violated.
        let clause = from_map (behind c.lookups load) (clauses_of job c load) one here in
        unviolated load is_own clause.0 clause.1 (ap (λ (f : Fact). fact_of.violates at f.terms) clause.2 ∙ violated));
  }
    where
      unviolated : (load : Load) → IsOwn c at load → (clause : Fact) → Contains (clauses_of job c load) clause
          → fact_of.violates at (behind c.lookups load clause).terms ≡ true → ⊥
      unviolated load is_own clause there violated =
          some_open load is_own (behind c.lookups load clause) (brought_one load clause (own_loadable load is_own) there) violated
          (λ w here had zero_there. elim (Contains-append_cases (subject_terms c.lookups load) clause.terms w here) [
            | inl subject ↦ (let e : false ≡ true = sym (subject_lacks c load is_own.there w subject) ∙ had in cc)
            | inr later ↦
                (let last = last_is c.lookups at clause.terms (load_shape job c load clause there) w later had in
                decided w.node (record {
                  load = load;
                  own = is_own;
                  clause = clause;
                  there = there;
                  asks = last.asks
                      (λ other in_clause lacks.
                      all_there (λ (t : Written). has t.choices (at t.node)) (subject_terms c.lookups load ++ clause.terms) other violated
                      (Contains-append_right (subject_terms c.lookups load) clause.terms other in_clause));
                }) zero_there)
          ])
