-- What is asked by decided nodes that are in the sets, is in the sets.
use Rattle.std.proofs.Common.{◌≡◌, ◌≢◌, ℕ, List, [], ◌∷◌, Contains, Option, Some, None, refl, sym, ap, ◌∙◌, subst, inl, inr, arith}
use Rattle.std.specs.List.{filter}
use Rattle.std.proofs.lemmas.Bool.{cases_Bool, cond-false, cond-true}
use Rattle.std.proofs.lemmas.List.Elements.{Contains-append_cases}
use Rattle.pub_facts.specs.Assigns.{IsOn, IsOwn, selection_of}
use Rattle.pub_facts.specs.Catalogue.{Catalogue, Job, Owner, contents_at, entries_in, needs_in, release_at, target_of, version_in}
use Rattle.pub_facts.specs.Enabled.{Active, Enabled, Held, IsIn, World, by_always, by_ask, by_ask_under, by_guard, by_need, by_root, by_trait, by_words, version_of, world_of}
use Rattle.pub_facts.specs.Facts.{Load, asked_under, asks_of, clauses_under, clauses_with, enables, is_of, need_clauses, need_clauses_on, off, on, owner_node, trait_node, words_ask, words_clauses}
use Rattle.pub_facts.specs.Known.{IsThere}
use Rattle.pub_facts.specs.declared.fact.Fact.{Fact}
use Rattle.pub_facts.proofs.Members.{contains_cases, contains_nothing, contains_one, from_filter, from_flat_map, from_map}
use Rattle.pub_facts.proofs.Sets.{has_only}
use Rattle.pub_term.specs.declared.node.NodeName.{NodeName}
use Rattle.pub_term.specs.declared.node.NodeName.TheVariants.{Package}
use Rattle.spm_manifest.specs.declared.dump.Contents.{Contents}
use Rattle.spm_manifest.specs.declared.need.Ask.{Ask}
use Rattle.spm_manifest.specs.declared.need.Need.{Need}
use Rattle.spm_trait.specs.Closure.{enabled_by, is_declared}
use Rattle.pub_plain.proofs.Decisions.{AreReached, Asks, InWorld, IsAsked}

-- an enabled trait is in the sets
pub trait_in : (world : World) (owner : Owner) (name : List ℕ) → IsIn world (Enabled owner name) → InWorld world (trait_node owner name)
trait_in world None name here = here
trait_in world (Some identity) name here = here

-- and one that is in them is enabled
pub in_trait : (world : World) (owner : Owner) (name : List ℕ) → InWorld world (trait_node owner name) → IsIn world (Enabled owner name)
in_trait world None name here = here
in_trait world (Some identity) name here = here

module _ (job : Job) (c : Catalogue) (at : NodeName → ℕ) (reached : AreReached job c at) where
  -- the sets of the choices
  abbrev W : World
  W = world_of job c (selection_of c at)

  -- 1 isn't 0
  one_not_zero : (k : ℕ) → k ≡ 1 → k ≢ 0
  one_not_zero k is none = absurd (omega (arith, is, none))

  -- a trait that is on is enabled
  on_enabled : (owner : Owner) (name : List ℕ) → at (trait_node owner name) ≡ 1 → IsIn W (Enabled owner name)
  on_enabled owner name is = in_trait W owner name (reached.nodes (trait_node owner name) (one_not_zero (at (trait_node owner name)) is))

  -- an owner that is at a choice is reached
  own_held : (owner : Owner) (choice : ℕ) → IsThere c.lookups owner choice → at (owner_node owner) ≡ choice → IsIn W (Held owner)
  own_held None choice there chosen = by_root
  own_held (Some identity) choice there chosen = reached.nodes (Package identity) (λ none. no_release (sym chosen ∙ none) there.1)
    where
      no_release : choice ≡ 0 → release_at (c.lookups.list identity) choice ≡ Some there.0 → ⊥
      no_release none is = (let e : None ≡ Some there.0 = sym (ap (release_at (c.lookups.list identity)) none) ∙ is in cc)

  -- and selected at its version
  own_version : (owner : Owner) (choice : ℕ) → at (owner_node owner) ≡ choice
      → version_in c.lookups owner choice ≡ version_of (selection_of c at) owner
  own_version None choice chosen = refl
  own_version (Some identity) choice chosen = ap (release_at (c.lookups.list identity)) (sym chosen)

  -- a trait that a need asks is in the sets
  asks_in : (load : Load) (need : Need) (target : List ℕ) (ask : Ask) (under : List (List ℕ)) (one : Fact) (node : NodeName) → ask.under ≡ under
      → IsIn W (Active load.owner need) → target_of c.lookups need ≡ Some target → Contains need.asked ask
      → Contains (asks_of c.lookups load target ask.name under) one → Asks at node one.terms → InWorld W node
  asks_in load need target ask [] one node is active known there here asks =
      subst (InWorld W) (subst (λ (f : Fact). Asks at node f.terms) (sym (contains_one _ one here)) asks)
      (trait_in W (Some target) ask.name (by_ask load.owner need target ask active known there is))
  asks_in load need target ask (first ∷ others) one node is active known there here asks =
      let found = from_map (asked_under c.lookups load target ask.name) (first ∷ others) one here in
      let both : Asks at node (on load.owner found.0 ∷ off (Some target) ask.name ∷ [])
      = subst (λ (f : Fact). Asks at node f.terms) (sym found.2) asks in
      subst (InWorld W) both.1
      (trait_in W (Some target) ask.name
      (by_ask_under load.owner need target ask found.0 active known there (subst (λ names. Contains names found.0) (sym is) found.1)
      (on_enabled load.owner found.0 (has_only 2 1 (at (trait_node load.owner found.0)) both.0))))

  -- and so is what a need asks
  need_in : (load : Load) (need : Need) (one : Fact) (node : NodeName) (target : Option (List ℕ)) → target_of c.lookups need ≡ target
      → IsIn W (Active load.owner need) → Contains (need_clauses_on c.lookups load need target) one → Asks at node one.terms → InWorld W node
  need_in load need one node None is active here asks =
      absurd (subst (λ (f : Fact). Asks at node f.terms) (sym (contains_one _ one here)) asks)
  need_in load need one node (Some target) is active here asks = elim (contains_cases _ one _ here) [
    | inl same ↦
        subst (InWorld W) (subst (λ (f : Fact). Asks at node f.terms) (sym same) asks) (by_need load.owner need target active is)
    | inr asked ↦
        (let found = from_flat_map (λ (ask : Ask). asks_of c.lookups load target ask.name ask.under) need.asked one asked in
        asks_in load need target found.0 found.0.under one node refl active is found.1 found.2 asks)
  ]

  -- and what the words ask
  words_in : (owner : Owner) (one : Fact) (node : NodeName) → Contains (words_clauses job.asked owner) one → Asks at node one.terms → InWorld W node
  words_in None one node here asks =
      let found = from_map words_ask job.asked one here in
      subst (InWorld W) (subst (λ (f : Fact). Asks at node f.terms) (sym found.2) asks) (by_words found.0 found.1)
  words_in (Some identity) one node here asks = absurd (contains_nothing one here)

  -- and what the contents of an owner that is reached ask
  under_in : (load : Load) (contents : Contents) (under : Option (List ℕ)) (one : Fact) (node : NodeName) → IsIn W (Held load.owner)
      → W.contents load.owner ≡ Some contents → IsOn at load.owner under
      → Contains (clauses_under job.asked c.lookups load contents under) one → Asks at node one.terms → InWorld W node
  under_in load contents None one node held is is_on here asks =
      elim (Contains-append_cases (words_clauses job.asked load.owner) _ one here) [
        | inl words ↦ words_in load.owner one node words asks
        | inr needs ↦
            (let found = from_flat_map (need_clauses c.lookups load) (filter (is_of None) contents.needs) one needs in
            let kept = from_filter (is_of None) contents.needs found.0 found.1 in
            need_in load found.0 one node (target_of c.lookups found.0) refl
            (by_always load.owner found.0 held (subst (λ f. Contains (needs_in f) found.0) (sym is) kept.0) kept.1) found.2 asks)
      ]
  under_in load contents (Some name) one node held is is_on here asks =
      let enabled = on_enabled load.owner name is_on in
      elim (cases_Bool (is_declared contents.traits.entries name)) [
        | inl declared ↦
            elim (Contains-append_cases _ _ one
            (subst (λ clauses. Contains clauses one) (cond-true (is_declared contents.traits.entries name) _ _ declared) here)) [
              | inl enabling ↦
                  (let found = from_map (enables c.lookups load) (enabled_by contents.traits.entries name) one enabling in
                  subst (InWorld W) (subst (λ (f : Fact). Asks at node f.terms) (sym found.2) asks)
                  (trait_in W load.owner found.0
                  (by_trait load.owner name found.0 enabled (subst (λ f. Contains (enabled_by (entries_in f) name) found.0) (sym is) found.1))))
              | inr needs ↦
                  (let found = from_flat_map (need_clauses c.lookups load) (filter (is_of (Some name)) contents.needs) one needs in
                  let kept = from_filter (is_of (Some name)) contents.needs found.0 found.1 in
                  need_in load found.0 one node (target_of c.lookups found.0) refl
                  (by_guard load.owner found.0 name held (subst (λ f. Contains (needs_in f) found.0) (sym is) kept.0) kept.1 enabled) found.2 asks)
            ]
        | inr undeclared ↦
            absurd (subst (λ (f : Fact). Asks at node f.terms)
            (sym (contains_one _ one
            (subst (λ clauses. Contains clauses one) (cond-false (is_declared contents.traits.entries name) _ _ undeclared) here))) asks)
      ]

  -- and what a load of own choices asks
  with_in : (load : Load) (found : Option Contents) (one : Fact) (node : NodeName)
      → contents_at job c load.owner (version_in c.lookups load.owner load.choice) ≡ found → IsOwn c at load
      → Contains (clauses_with job c load found) one → Asks at node one.terms → InWorld W node
  with_in load None one node is own here asks =
      absurd (subst (λ (f : Fact). Asks at node f.terms) (sym (contains_one _ one here)) asks)
  with_in load (Some contents) one node is own here asks =
      under_in load contents load.under one node (own_held load.owner load.choice own.there own.chosen)
      (ap (contents_at job c load.owner) (sym (own_version load.owner load.choice own.chosen)) ∙ is) own.on here asks

  -- what is asked is in the sets
  pub asked_in : (node : NodeName) → IsAsked job c at node → InWorld W node
  asked_in node asked = with_in asked.load _ asked.clause node refl asked.own asked.there asked.asks
