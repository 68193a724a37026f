-- Where a trait is asked, its owner is decided or is asked too.
use Rattle.std.proofs.Common.{◌≡◌, ◌≢◌, ◌⊎◌, ℕ, List, [], ◌∷◌, ◌++◌, Contains, Option, Some, None, refl, sym, ◌∙◌, subst, inl, inr, arith}
use Rattle.std.specs.List.{filter, flat_map}
use Rattle.std.proofs.lemmas.Bool.{cases_Bool, cond-false, cond-true}
use Rattle.std.proofs.lemmas.List.Elements.{Contains-append_cases, Contains-append_right}
use Rattle.pub_facts.specs.Assigns.{IsOwn}
use Rattle.pub_facts.specs.Catalogue.{Catalogue, Job, Owner, contents_at, target_of, version_in}
use Rattle.pub_facts.specs.Facts.{Load, asked_under, asks_of, clauses_of, clauses_under, clauses_with, enables, is_of, need_clauses, need_clauses_on, off, on, owner_node, required, trait_clauses, trait_node, words_ask, words_clauses}
use Rattle.pub_facts.specs.Known.{IsThere}
use Rattle.pub_facts.specs.declared.fact.Fact.{Fact}
use Rattle.pub_facts.proofs.Members.{contains_cases, contains_flat_map, contains_head, contains_nothing, contains_one, from_flat_map, from_map}
use Rattle.pub_term.specs.declared.node.NodeName.{NodeName}
use Rattle.pub_term.specs.declared.node.NodeName.TheVariants.{Root, RootTrait, Package, PackageTrait}
use Rattle.spm_manifest.specs.declared.dump.Contents.{Contents}
use Rattle.spm_manifest.specs.declared.need.Ask.{Ask}
use Rattle.spm_manifest.specs.declared.need.Need.{Need}
use Rattle.spm_trait.specs.Closure.{enabled_by, is_declared}
use Rattle.pub_plain.proofs.Decisions.{Asks, IsAsked}
use Rattle.pub_plain.proofs.GrownLemmas.{some_chosen}

-- a choice in range isn't 0
pub choice_some : (c : Catalogue) (owner : Owner) (choice : ℕ) → IsThere c.lookups owner choice → choice ≢ 0
choice_some c None choice there = λ none. absurd (omega (arith, there, none))
choice_some c (Some identity) choice there = some_chosen (c.lookups.list identity) choice there.0 there.1

module _ (job : Job) (c : Catalogue) (at : NodeName → ℕ) where
  -- the owner of a trait is decided or asked
  abbrev pub OwnerTold : NodeName → Type 0
  OwnerTold Root = Unit {0}
  OwnerTold (RootTrait name) = (at Root ≢ 0) ⊎ IsAsked job c at Root
  OwnerTold (Package identity) = Unit {0}
  OwnerTold (PackageTrait identity name) = (at (Package identity) ≢ 0) ⊎ IsAsked job c at (Package identity)

  -- the same of the trait of an owner
  trait_told : (owner : Owner) (name : List ℕ) → (at (owner_node owner) ≢ 0) ⊎ IsAsked job c at (owner_node owner) → OwnerTold (trait_node owner name)
  trait_told None name is = is
  trait_told (Some identity) name is = is

  module _ (load : Load) (own : IsOwn c at load) where
    -- the owner of an own load is decided
    owner_some : at (owner_node load.owner) ≢ 0
    owner_some none = choice_some c load.owner load.choice own.there (sym own.chosen ∙ none)

    -- the package of what a need asks of traits is asked
    asks_owner : (target name : List ℕ) (under : List (List ℕ)) (one : Fact) (node : NodeName) → IsAsked job c at (Package target)
        → Contains (asks_of c.lookups load target name under) one → Asks at node one.terms → OwnerTold node
    asks_owner target name [] one node asked here asks =
        subst OwnerTold (subst (λ (f : Fact). Asks at node f.terms) (sym (contains_one _ one here)) asks) (trait_told (Some target) name (inr asked))
    asks_owner target name (first ∷ others) one node asked here asks =
        let found = from_map (asked_under c.lookups load target name) (first ∷ others) one here in
        let both : Asks at node (on load.owner found.0 ∷ off (Some target) name ∷ [])
        = subst (λ (f : Fact). Asks at node f.terms) (sym found.2) asks in
        subst OwnerTold both.1 (trait_told (Some target) name (inr asked))

    -- so it is for what a need asks
    need_owner : (need : Need) (one : Fact) (node : NodeName) (target : Option (List ℕ))
        → ((other : Fact) → Contains (need_clauses_on c.lookups load need target) other → Contains (clauses_of job c load) other)
        → Contains (need_clauses_on c.lookups load need target) one → Asks at node one.terms → OwnerTold node
    need_owner need one node None over here asks = absurd (subst (λ (f : Fact). Asks at node f.terms) (sym (contains_one _ one here)) asks)
    need_owner need one node (Some target) over here asks =
        let first = required c.lookups load target need.requirement in
        let others = flat_map (λ (ask : Ask). asks_of c.lookups load target ask.name ask.under) need.asked in
        elim (contains_cases first one others here) [
          | inl same ↦ subst OwnerTold (subst (λ (f : Fact). Asks at node f.terms) (sym same) asks) tt
          | inr asked ↦
              (let found = from_flat_map (λ (ask : Ask). asks_of c.lookups load target ask.name ask.under) need.asked one asked in
              asks_owner target found.0.name found.0.under one node
              (record { load = load; own = own; clause = first; there = over first (contains_head first others); asks = refl }) found.2 asks)
        ]

    -- and for what the words ask of the root
    words_owner : (owner : Owner) (one : Fact) (node : NodeName) → at (owner_node owner) ≢ 0 → Contains (words_clauses job.asked owner) one
        → Asks at node one.terms → OwnerTold node
    words_owner None one node some here asks =
        let found = from_map words_ask job.asked one here in
        subst OwnerTold (subst (λ (f : Fact). Asks at node f.terms) (sym found.2) asks) (inl some)
    words_owner (Some identity) one node some here asks = absurd (contains_nothing one here)

    -- and for what contents ask
    under_owner : (contents : Contents) (under : Option (List ℕ)) (one : Fact) (node : NodeName)
        → ((other : Fact) → Contains (clauses_under job.asked c.lookups load contents under) other → Contains (clauses_of job c load) other)
        → Contains (clauses_under job.asked c.lookups load contents under) one → Asks at node one.terms → OwnerTold node
    under_owner contents None one node over here asks =
        elim (Contains-append_cases (words_clauses job.asked load.owner) _ one here) [
          | inl words ↦ words_owner load.owner one node owner_some words asks
          | inr needs ↦
              (let list = filter (is_of None) contents.needs in
              let found = from_flat_map (need_clauses c.lookups load) list one needs in
              need_owner found.0 one node (target_of c.lookups found.0)
              (λ other there. over other
              (Contains-append_right (words_clauses job.asked load.owner) (flat_map (need_clauses c.lookups load) list) other
              (contains_flat_map (need_clauses c.lookups load) list found.0 other found.1 there)))
              found.2 asks)
        ]
    under_owner contents (Some name) one node over here asks = elim (cases_Bool (is_declared contents.traits.entries name)) [
      | inl declared ↦
          (let list = filter (is_of (Some name)) contents.needs in
          let enabling = trait_clauses c.lookups load contents name in
          let whole : clauses_under job.asked c.lookups load contents (Some name) ≡ enabling ++ flat_map (need_clauses c.lookups load) list
          = cond-true (is_declared contents.traits.entries name) _ _ declared in
          elim (Contains-append_cases enabling (flat_map (need_clauses c.lookups load) list) one
          (subst (λ clauses. Contains clauses one) whole here)) [
            | inl enabled ↦
                (let found = from_map (enables c.lookups load) (enabled_by contents.traits.entries name) one enabled in
                subst OwnerTold (subst (λ (f : Fact). Asks at node f.terms) (sym found.2) asks) (trait_told load.owner found.0 (inl owner_some)))
            | inr needs ↦
                (let found = from_flat_map (need_clauses c.lookups load) list one needs in
                need_owner found.0 one node (target_of c.lookups found.0)
                (λ other there. over other (subst (λ clauses. Contains clauses other) (sym whole)
                (Contains-append_right enabling (flat_map (need_clauses c.lookups load) list) other
                (contains_flat_map (need_clauses c.lookups load) list found.0 other found.1 there))))
                found.2 asks)
          ])
      | inr undeclared ↦
          absurd (subst (λ (f : Fact). Asks at node f.terms)
          (sym (contains_one _ one
          (subst (λ clauses. Contains clauses one) (cond-false (is_declared contents.traits.entries name) _ _ undeclared) here))) asks)
    ]

    -- and for what a load of own choices asks
    with_owner : (found : Option Contents) (one : Fact) (node : NodeName)
        → contents_at job c load.owner (version_in c.lookups load.owner load.choice) ≡ found
        → Contains (clauses_with job c load found) one → Asks at node one.terms → OwnerTold node
    with_owner None one node is here asks = absurd (subst (λ (f : Fact). Asks at node f.terms) (sym (contains_one _ one here)) asks)
    with_owner (Some contents) one node is here asks =
        under_owner contents load.under one node
        (λ other there. subst (λ f. Contains (clauses_with job c load f) other) (sym is) there) here asks

  -- the owner of a trait that is asked is decided or asked
  pub asked_owner : (node : NodeName) → IsAsked job c at node → OwnerTold node
  asked_owner node asked = with_owner asked.load asked.own _ asked.clause node refl asked.there asked.asks
