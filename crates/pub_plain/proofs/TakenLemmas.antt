-- Where no trait that is asked is undecided beside a decided owner, what is in the sets of the choices is decided or asked.
use Rattle.std.proofs.Common.{◌≡◌, ◌≢◌, ◌⊎◌, ℕ, true, List, [], ◌∷◌, ◌++◌, Contains, Option, Some, None, refl, sym, ap, ◌∙◌, subst, inl, inr, arith}
use Rattle.std.specs.List.{filter, flat_map}
use Rattle.std.proofs.lemmas.Bool.{cond-false, cond-true, true_from_ne_false}
use Rattle.std.proofs.lemmas.List.Elements.{Contains-append_left, Contains-append_right}
use Rattle.pub_facts.specs.Assigns.{IsAssignment, IsOn, IsOwn, selection_of}
use Rattle.pub_facts.specs.Catalogue.{Catalogue, Job, Owner, contents_at, entries_in, is_always, is_guarded_by, needs_in, release_at, target_of, version_in}
use Rattle.pub_facts.specs.Enabled.{Active, Enabled, Held, IsIn, Spot, World, by_always, by_ask, by_ask_under, by_guard, by_need, by_root, by_trait, by_words, world_of}
use Rattle.pub_facts.specs.Facts.{Load, asked_always, asked_under, asks_of, clauses_of, clauses_with, enables, fact, is_of, need_clauses, need_clauses_on, owner_node, required, subject_of, trait_clauses, trait_node, words_ask, words_clauses}
use Rattle.pub_facts.specs.Known.{IsThere}
use Rattle.pub_facts.specs.declared.fact.Fact.{Fact}
use Rattle.pub_facts.proofs.Members.{contains_filter, contains_flat_map, contains_head, contains_map, contains_nothing, contains_tail}
use Rattle.pub_facts.proofs.SecondLaw.{own}
use Rattle.pub_facts.proofs.Sets.{only_has, trait_below}
use Rattle.pub_term.specs.declared.cause.Cause.TheVariants.{NoTrait}
use Rattle.pub_term.specs.declared.node.NodeName.{NodeName}
use Rattle.pub_term.specs.declared.node.NodeName.TheVariants.{Root, Package}
use Rattle.spm_manifest.specs.declared.dump.Contents.{Contents}
use Rattle.spm_manifest.specs.declared.need.Ask.{Ask}
use Rattle.spm_manifest.specs.declared.need.Need.{Need}
use Rattle.spm_trait.specs.Closure.{enabled_by, is_declared}
use Rattle.spm_version.specs.Release.{Parts}
use Rattle.pub_plain.proofs.Decisions.{IsAsked}
use Rattle.pub_plain.proofs.GrownLemmas.{some_chosen}

module _ (job : Job) (c : Catalogue) (at : NodeName → ℕ) (sized : IsAssignment c at) (root : at Root ≡ 1)
    (clean : (load : Load) → IsOwn c at load → (one : Fact) → Contains (clauses_of job c load) one → one.terms ≡ [] → ⊥)
    (no_trait : (owner : Owner) (name : List ℕ) → IsAsked job c at (trait_node owner name) → at (owner_node owner) ≢ 0
    → at (trait_node owner name) ≢ 0) where
  -- the clauses of a need are those of a load of own choices
  pub record IsLoadedBy (owner : Owner) (need : Need) : Type 0 where
    pub there : IsThere c.lookups owner (at (owner_node owner))
    pub under : Option (List ℕ)
    pub on_there : IsOn at owner under
    pub all : (one : Fact) → Contains (need_clauses c.lookups (own at owner under) need) one → Contains (clauses_of job c (own at owner under)) one

  -- a spot is decided, or asked
  abbrev pub Told : Spot → Type 0
  Told (Held owner) = (at (owner_node owner) ≢ 0) ⊎ IsAsked job c at (owner_node owner)
  Told (Enabled owner name) = at (owner_node owner) ≢ 0 → at (trait_node owner name) ≡ 1
  Told (Active owner need) = IsLoadedBy owner need

  -- a trait that is asked is on where its owner is decided
  asked_on : (owner : Owner) (name : List ℕ) → IsAsked job c at (trait_node owner name) → at (owner_node owner) ≢ 0 → at (trait_node owner name) ≡ 1
  asked_on owner name asked some =
      let below = trait_below c at owner name sized in
      let decided = no_trait owner name asked some in
      omega (arith, below, decided)

  -- an owner at a choice in range is decided
  there_some : (owner : Owner) → IsThere c.lookups owner (at (owner_node owner)) → at (owner_node owner) ≢ 0
  there_some None there = λ none. absurd (omega (arith, there, none))
  there_some (Some identity) there = some_chosen (c.lookups.list identity) (at (Package identity)) there.0 there.1

  -- the sets of the choices
  abbrev V : World
  V = world_of job c (selection_of c at)

  -- an owner with contents is decided
  contents_there : (owner : Owner) (contents : Contents) → V.contents owner ≡ Some contents → IsThere c.lookups owner (at (owner_node owner))
  contents_there None contents is = root
  contents_there (Some identity) contents is = go (release_at (c.lookups.list identity) (at (Package identity))) refl
    where
      go : (found : Option Parts) → release_at (c.lookups.list identity) (at (Package identity)) ≡ found
          → IsThere c.lookups (Some identity) (at (Package identity))
      go None none = (let e : None ≡ Some contents = sym (ap (contents_at job c (Some identity)) none) ∙ is in cc)
      go (Some release) some = (release, some)

  -- a load of own choices reads the contents that are selected
  at_load : (owner : Owner) → contents_at job c owner (version_in c.lookups owner (at (owner_node owner))) ≡ V.contents owner
  at_load None = refl
  at_load (Some identity) = refl

  -- a need that is always in force is loaded by its owner
  always_told : (owner : Owner) (need : Need) (found : Option Contents) → V.contents owner ≡ found → Contains (needs_in found) need
      → is_always need.guard ≡ true → IsLoadedBy owner need
  always_told owner need None is here always = absurd (contains_nothing need here)
  always_told owner need (Some contents) is here always = record {
    there = contents_there owner contents is;
    under = None;
    on_there = tt;
    all = λ one made.
        subst (λ f. Contains (clauses_with job c (own at owner None) f) one) (sym (at_load owner ∙ is))
        (Contains-append_right (words_clauses job.asked owner) _ one
        (contains_flat_map (need_clauses c.lookups (own at owner None)) (filter (is_of None) contents.needs) need one
        (contains_filter (is_of None) contents.needs need always here) made));
  }

  -- what a load of a trait that isn't declared says
  abbrev undeclared_one : Owner → List ℕ → Fact
  undeclared_one owner name = fact [] (NoTrait (subject_of c.lookups (own at owner (Some name)) (name ∷ [])))

  -- a trait that is on is declared
  declares : (owner : Owner) (name : List ℕ) (contents : Contents) → V.contents owner ≡ Some contents → at (trait_node owner name) ≡ 1
      → is_declared contents.traits.entries name ≡ true
  declares owner name contents is is_on =
      true_from_ne_false (is_declared contents.traits.entries name)
      (λ isnt.
      clean (own at owner (Some name)) (record { there = contents_there owner contents is; chosen = refl; on = is_on }) (undeclared_one owner name)
      (subst (λ f. Contains (clauses_with job c (own at owner (Some name)) f) (undeclared_one owner name)) (sym (at_load owner ∙ is))
      (subst (λ clauses. Contains clauses (undeclared_one owner name)) (sym (cond-false (is_declared contents.traits.entries name) _ _ isnt))
      (contains_head (undeclared_one owner name) []))) refl)

  -- so its load has what it enables and its needs
  under_there : (owner : Owner) (name : List ℕ) (contents : Contents) → V.contents owner ≡ Some contents → at (trait_node owner name) ≡ 1
      → (one : Fact)
      → Contains (trait_clauses c.lookups (own at owner (Some name)) contents name
      ++ flat_map (need_clauses c.lookups (own at owner (Some name))) (filter (is_of (Some name)) contents.needs)) one
      → Contains (clauses_of job c (own at owner (Some name))) one
  under_there owner name contents is is_on one here =
      subst (λ f. Contains (clauses_with job c (own at owner (Some name)) f) one) (sym (at_load owner ∙ is))
      (subst (λ clauses. Contains clauses one)
      (sym (cond-true (is_declared contents.traits.entries name) _ _ (declares owner name contents is is_on))) here)

  -- a need under an enabled trait is loaded by the trait
  guard_told : (owner : Owner) (need : Need) (name : List ℕ) (found : Option Contents) → V.contents owner ≡ found → Contains (needs_in found) need
      → is_guarded_by name need.guard ≡ true → Told (Enabled owner name) → IsLoadedBy owner need
  guard_told owner need name None is here guard enabled = absurd (contains_nothing need here)
  guard_told owner need name (Some contents) is here guard enabled =
      let there = contents_there owner contents is in
      let is_on = enabled (there_some owner there) in
      record {
        there = there;
        under = Some name;
        on_there = is_on;
        all = λ one made.
            under_there owner name contents is is_on one
            (Contains-append_right _ _ one
            (contains_flat_map (need_clauses c.lookups (own at owner (Some name))) (filter (is_of (Some name)) contents.needs) need one
            (contains_filter (is_of (Some name)) contents.needs need guard here) made));
      }

  -- a trait that an enabled one enables is on
  trait_told : (owner : Owner) (name other : List ℕ) (found : Option Contents) → V.contents owner ≡ found
      → Contains (enabled_by (entries_in found) name) other → Told (Enabled owner name) → Told (Enabled owner other)
  trait_told owner name other None is here enabled some = absurd (contains_nothing other here)
  trait_told owner name other (Some contents) is here enabled some =
      let there = contents_there owner contents is in
      let is_on = enabled some in
      let load = own at owner (Some name) in
      asked_on owner other (record {
        load = load;
        own = record { there = there; chosen = refl; on = is_on };
        clause = enables c.lookups load other;
        there = under_there owner name contents is is_on (enables c.lookups load other)
            (Contains-append_left _ _ (enables c.lookups load other)
            (contains_map (enables c.lookups load) (enabled_by contents.traits.entries name) other here));
        asks = refl;
      }) some

  -- a trait that the words ask is on
  words_told : (name : List ℕ) → Contains job.asked name → Told (Enabled None name)
  words_told name here some =
      asked_on None name (record {
        load = own at None None;
        own = record { there = root; chosen = refl; on = tt };
        clause = words_ask name;
        there = Contains-append_left _ _ (words_ask name) (contains_map words_ask job.asked name here);
        asks = refl;
      }) some

  -- the package of a need is asked
  need_told : (owner : Owner) (need : Need) (target : List ℕ) → IsLoadedBy owner need → target_of c.lookups need ≡ Some target
      → IsAsked job c at (Package target)
  need_told owner need target loaded known =
      let load = own at owner loaded.under in
      let one = required c.lookups load target need.requirement in
      record {
        load = load;
        own = record { there = loaded.there; chosen = refl; on = loaded.on_there };
        clause = one;
        there = loaded.all one
            (subst (λ t. Contains (need_clauses_on c.lookups load need t) one) (sym known)
            (contains_head one (flat_map (λ (ask : Ask). asks_of c.lookups load target ask.name ask.under) need.asked)));
        asks = refl;
      }

  -- what a need asks of its package is among the clauses
  ask_there : (owner : Owner) (need : Need) (target : List ℕ) (ask : Ask) (loaded : IsLoadedBy owner need) → target_of c.lookups need ≡ Some target
      → Contains need.asked ask → (one : Fact) → Contains (asks_of c.lookups (own at owner loaded.under) target ask.name ask.under) one
      → Contains (clauses_of job c (own at owner loaded.under)) one
  ask_there owner need target ask loaded known there one here =
      let load = own at owner loaded.under in
      loaded.all one
      (subst (λ t. Contains (need_clauses_on c.lookups load need t) one) (sym known)
      (contains_tail (required c.lookups load target need.requirement) one
      (flat_map (λ (ask : Ask). asks_of c.lookups load target ask.name ask.under) need.asked)
      (contains_flat_map (λ (ask : Ask). asks_of c.lookups load target ask.name ask.under) need.asked ask one there here)))

  -- a trait that is asked always is on
  ask_told : (owner : Owner) (need : Need) (target : List ℕ) (ask : Ask) → IsLoadedBy owner need → target_of c.lookups need ≡ Some target
      → Contains need.asked ask → ask.under ≡ [] → Told (Enabled (Some target) ask.name)
  ask_told owner need target ask loaded known there none some =
      let load = own at owner loaded.under in
      let one = asked_always c.lookups load target ask.name in
      asked_on (Some target) ask.name (record {
        load = load;
        own = record { there = loaded.there; chosen = refl; on = loaded.on_there };
        clause = one;
        there = ask_there owner need target ask loaded known there one
            (subst (λ under. Contains (asks_of c.lookups load target ask.name under) one) (sym none) (contains_head one []));
        asks = refl;
      }) some

  -- a condition of what is asked has its clause
  asks_place : (load : Load) (target name under : List ℕ) (unders : List (List ℕ)) → Contains unders under
      → Contains (asks_of c.lookups load target name unders) (asked_under c.lookups load target name under)
  asks_place load target name under [] here = absurd (contains_nothing under here)
  asks_place load target name under (first ∷ others) here = contains_map (asked_under c.lookups load target name) (first ∷ others) under here

  -- a trait that is asked under an enabled one is on
  ask_under_told : (owner : Owner) (need : Need) (target : List ℕ) (ask : Ask) (under : List ℕ) → IsLoadedBy owner need
      → target_of c.lookups need ≡ Some target → Contains need.asked ask → Contains ask.under under → Told (Enabled owner under)
      → Told (Enabled (Some target) ask.name)
  ask_under_told owner need target ask under loaded known there here enabled some =
      let load = own at owner loaded.under in
      let is_on = enabled (there_some owner loaded.there) in
      let one = asked_under c.lookups load target ask.name under in
      asked_on (Some target) ask.name (record {
        load = load;
        own = record { there = loaded.there; chosen = refl; on = loaded.on_there };
        clause = one;
        there = ask_there owner need target ask loaded known there one (asks_place load target ask.name under ask.under here);
        asks = (only_has 2 1 (at (trait_node owner under)) (trait_below c at owner under sized) is_on, refl);
      }) some

  -- what is in the sets is decided or asked
  pub told : (spot : Spot) → IsIn V spot → Told spot
  told spot by_root = inl (λ none. absurd (omega (arith, root, none)))
  told spot (by_words name here) = words_told name here
  told spot (by_always owner need held there always) = always_told owner need (V.contents owner) refl there always
  told spot (by_guard owner need name held there guard enabled) =
      guard_told owner need name (V.contents owner) refl there guard (told (Enabled owner name) enabled)
  told spot (by_need owner need target active known) = inr (need_told owner need target (told (Active owner need) active) known)
  told spot (by_ask owner need target ask active known there none) =
      ask_told owner need target ask (told (Active owner need) active) known there none
  told spot (by_ask_under owner need target ask name active known there under enabled) =
      ask_under_told owner need target ask name (told (Active owner need) active) known there under (told (Enabled owner name) enabled)
  told spot (by_trait owner name other enabled there) =
      trait_told owner name other (V.contents owner) refl there (told (Enabled owner name) enabled)
