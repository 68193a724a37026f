-- A valid selection, with its enabled traits on, the root chosen and all else absent, violates no fact of any load.
use Rattle.std.proofs.Common.{◌≡◌, ℕ, true, false, not, ◌&&◌, List, [], ◌∷◌, ◌++◌, Contains, Option, Some, None, refl, sym, ap, ◌∙◌, subst, inl, inr, filter}
use Rattle.std.proofs.lemmas.Bool.{and_parts, cond-true, false≢true, false_from_ne_true}
use Rattle.std.proofs.lemmas.List.Elements.{Contains-append_cases, Contains-append_left, Contains-append_right}
use Rattle.pub_set.specs.Choices.{has}
use Rattle.pub_term.specs.declared.node.NodeName.{NodeName}
use Rattle.pub_term.specs.declared.node.NodeName.TheVariants.{Package}
use Rattle.spm_manifest.specs.declared.dump.Contents.{Contents}
use Rattle.spm_manifest.specs.declared.need.Ask.{Ask}
use Rattle.spm_manifest.specs.declared.need.Need.{Need}
use Rattle.spm_trait.specs.Closure.{enabled_by, is_declared}
use Rattle.spm_version.specs.Release.{Parts}
use Rattle.spm_version.specs.Requirement.{contains}
use Rattle.pub_facts.specs.Catalogue.{Catalogue, Job, Owner, contents_at, entries_in, needs_in, release_at, target_of, version_in}
use Rattle.pub_facts.specs.Enabled.{Active, Enabled, Held, IsIn, Selection, by_always, by_ask, by_ask_under, by_guard, by_root, by_trait, by_words, version_of, world_of}
use Rattle.pub_facts.specs.Valid.{IsValid}
use Rattle.pub_facts.specs.Facts.{Load, asked_under, asks_of, behind, clauses_of, clauses_under, clauses_with, enables, facts_of, is_inside, is_of, need_clauses, need_clauses_on, off, on, only, outside, owner_node, size_of, subject_terms, trait_node, under_terms, violates, words_ask, words_clauses}
use Rattle.pub_facts.specs.declared.fact.Fact.{Fact}
use Rattle.pub_facts.specs.Assigns.{AreNamed, IsOn, Shows}
use Rattle.pub_facts.specs.Known.{IsThere}
use Rattle.pub_facts.proofs.Members.{contains_head, contains_tail, contains_cases, contains_nothing, contains_one, from_filter, from_flat_map, from_map}
use Rattle.pub_facts.proofs.Sets.{has_where, off_not_on, has_only, subject_holds, violates-append}

module _ (job : Job) (c : Catalogue) (selection : Selection) (Named : NodeName → Type 0) (at : NodeName → ℕ) (valid : IsValid job c selection) (shows : Shows job c selection Named at) where
  -- what is enabled isn't off
  enabled_not_off : (owner : Owner) (name : List ℕ) → Named (trait_node owner name) → IsIn (world_of job c selection) (Enabled owner name)
      → violates at (off owner name ∷ []) ≡ true → ⊥
  enabled_not_off owner name named enabled violated =
      off_not_on c at owner name ((and_parts (has (off owner name).choices (at (trait_node owner name))) true violated).0) (shows.switched owner name named enabled)

  -- a selected version that is contained isn't outside
  met_not_outside : (need : Need) (target : List ℕ) (release : Parts) → selection target ≡ Some release → contains need.requirement release ≡ true
      → violates at (outside c.lookups target need.requirement ∷ []) ≡ true → ⊥
  met_not_outside need target release selected within violated =
      let here : has (outside c.lookups target need.requirement).choices (at (Package target)) ≡ true = (and_parts _ true violated).0 in
      let told : not (is_inside need.requirement (release_at (c.lookups.list target) (at (Package target)))) ≡ true
      = sym (has_where (size_of c.lookups (Package target)) (λ k. not (is_inside need.requirement (release_at (c.lookups.list target) k))) (at (Package target)) (shows.sized (Package target))) ∙ here in
      let inside : is_inside need.requirement (release_at (c.lookups.list target) (at (Package target))) ≡ true
      = ap (is_inside need.requirement) (shows.versions target ∙ selected) ∙ within in
      false≢true (sym (ap not inside) ∙ told)

  asked_right : (load : Load) (need : Need) (target : List ℕ) (ask : Ask) (under : List (List ℕ)) (one : Fact) → ask.under ≡ under
      → IsIn (world_of job c selection) (Active load.owner need) → target_of c.lookups need ≡ Some target → Contains need.asked ask
      → Contains (asks_of c.lookups load target ask.name under) one → AreNamed Named one.terms → violates at one.terms ≡ true → ⊥
  asked_right load need target ask [] one is active known there here named violated =
      let same = contains_one _ one here in
      enabled_not_off (Some target) ask.name (subst (λ (f : Fact). AreNamed Named f.terms) (sym same) named (off (Some target) ask.name) (contains_head (off (Some target) ask.name) []))
      (by_ask load.owner need target ask active known there is)
      (ap (λ (f : Fact). violates at f.terms) same ∙ violated)
  asked_right load need target ask (first ∷ others) one is active known there here named violated =
      let found = from_map (asked_under c.lookups load target ask.name) (first ∷ others) one here in
      let both : (has (on load.owner found.0).choices (at (trait_node load.owner found.0)) && violates at (off (Some target) ask.name ∷ [])) ≡ true
      = ap (λ (f : Fact). violates at f.terms) found.2 ∙ violated in
      let parts = and_parts _ _ both in
      let named_here : AreNamed Named (on load.owner found.0 ∷ off (Some target) ask.name ∷ []) = subst (λ (f : Fact). AreNamed Named f.terms) (sym found.2) named in
      let enabled = shows.enabled load.owner found.0 (named_here (on load.owner found.0) (contains_head (on load.owner found.0) (off (Some target) ask.name ∷ []))) (has_only 2 1 (at (trait_node load.owner found.0)) parts.0) in
      enabled_not_off (Some target) ask.name (named_here (off (Some target) ask.name) (contains_tail (on load.owner found.0) (off (Some target) ask.name) (off (Some target) ask.name ∷ []) (contains_head (off (Some target) ask.name) [])))
      (by_ask_under load.owner need target ask found.0 active known there (subst (λ names. Contains names found.0) (sym is) found.1) enabled) parts.1

  need_right : (load : Load) (need : Need) (one : Fact) → IsIn (world_of job c selection) (Active load.owner need)
      → Contains (need_clauses c.lookups load need) one → AreNamed Named one.terms → violates at one.terms ≡ true → ⊥
  need_right load need one active here named violated =
      let met = valid.needs load.owner need active in
      let there : Contains (need_clauses_on c.lookups load need (Some met.target)) one = subst (λ t. Contains (need_clauses_on c.lookups load need t) one) met.known here in
      elim (contains_cases _ one _ there) [
        | inl same ↦ met_not_outside need met.target met.release met.selected met.within (ap (λ (f : Fact). violates at f.terms) same ∙ violated)
        | inr asked ↦
            (let found = from_flat_map (λ (ask : Ask). asks_of c.lookups load met.target ask.name ask.under) need.asked one asked in
            asked_right load need met.target found.0 found.0.under one refl active met.known found.1 found.2 named violated)
      ]

  words_right : (owner : Owner) (one : Fact) → Contains (words_clauses job.asked owner) one → AreNamed Named one.terms → violates at one.terms ≡ true → ⊥
  words_right None one here named violated =
      let found = from_map words_ask job.asked one here in
      enabled_not_off None found.0 (subst (λ (f : Fact). AreNamed Named f.terms) (sym found.2) named (off None found.0) (contains_head (off None found.0) [])) (by_words found.0 found.1) (ap (λ (f : Fact). violates at f.terms) found.2 ∙ violated)
  words_right (Some identity) one here named violated = contains_nothing one here

  -- ---- loads

  -- an owner that is chosen is selected, and reached
  chosen_version : (owner : Owner) (choice : ℕ) → at (owner_node owner) ≡ choice → version_in c.lookups owner choice ≡ version_of selection owner
  chosen_version None choice chosen = refl
  chosen_version (Some identity) choice chosen = ap (release_at (c.lookups.list identity)) (sym chosen) ∙ shows.versions identity

  chosen_held : (owner : Owner) (choice : ℕ) → IsThere c.lookups owner choice → at (owner_node owner) ≡ choice → IsIn (world_of job c selection) (Held owner)
  chosen_held None choice there chosen = by_root
  chosen_held (Some identity) choice there chosen = valid.reached identity there.0 (sym (chosen_version (Some identity) choice chosen) ∙ there.1)

  -- its contents can be used
  chosen_usable : (owner : Owner) (choice : ℕ) → IsThere c.lookups owner choice → at (owner_node owner) ≡ choice
      → contents_at job c owner (version_in c.lookups owner choice) ≡ None → ⊥
  chosen_usable None choice there chosen none = (let e : Some job.root ≡ None = none in cc)
  chosen_usable (Some identity) choice there chosen none =
      let usable = valid.usable identity there.0 (sym (chosen_version (Some identity) choice chosen) ∙ there.1) in
      let e : Some usable.contents ≡ None = sym usable.read ∙ sym (ap (contents_at job c (Some identity)) there.1) ∙ none in
      cc

  under_right : (load : Load) (contents : Contents) (under : Option (List ℕ)) (one : Fact)
      → IsIn (world_of job c selection) (Held load.owner) → (world_of job c selection).contents load.owner ≡ Some contents → IsOn at load.owner under → AreNamed Named (under_terms load.owner under)
      → Contains (clauses_under job.asked c.lookups load contents under) one → AreNamed Named one.terms → violates at one.terms ≡ true → ⊥
  under_right load contents None one held is is_on on_named here named violated =
      elim (Contains-append_cases (words_clauses job.asked load.owner) _ one here) [
        | inl words ↦ words_right load.owner one words named violated
        | inr needs ↦
            (let found = from_flat_map (need_clauses c.lookups load) (filter (is_of None) contents.needs) one needs in
            let kept = from_filter (is_of None) contents.needs found.0 found.1 in
            need_right load found.0 one
            (by_always load.owner found.0 held (subst (λ f. Contains (needs_in f) found.0) (sym is) kept.0) kept.1) found.2 named violated)
      ]
  under_right load contents (Some name) one held is is_on on_named here named violated =
      let enabled = shows.enabled load.owner name (on_named (on load.owner name) (contains_head (on load.owner name) [])) is_on in
      let declared : is_declared contents.traits.entries name ≡ true
      = ap (λ f. is_declared (entries_in f) name) (sym is) ∙ valid.declared load.owner name enabled in
      elim (Contains-append_cases _ _ one (subst (λ clauses. Contains clauses one) (cond-true (is_declared contents.traits.entries name) _ _ declared) here)) [
        | inl enabling ↦
            (let found = from_map (enables c.lookups load) (enabled_by contents.traits.entries name) one enabling in
            enabled_not_off load.owner found.0 (subst (λ (f : Fact). AreNamed Named f.terms) (sym found.2) named (off load.owner found.0) (contains_head (off load.owner found.0) []))
            (by_trait load.owner name found.0 enabled (subst (λ f. Contains (enabled_by (entries_in f) name) found.0) (sym is) found.1))
            (ap (λ (f : Fact). violates at f.terms) found.2 ∙ violated))
        | inr needs ↦
            (let found = from_flat_map (need_clauses c.lookups load) (filter (is_of (Some name)) contents.needs) one needs in
            let kept = from_filter (is_of (Some name)) contents.needs found.0 found.1 in
            need_right load found.0 one
            (by_guard load.owner found.0 name held (subst (λ f. Contains (needs_in f) found.0) (sym is) kept.0) kept.1 enabled) found.2 named violated)
      ]

  with_right : (load : Load) (found : Option Contents) (one : Fact) → contents_at job c load.owner (version_in c.lookups load.owner load.choice) ≡ found
      → IsThere c.lookups load.owner load.choice → at (owner_node load.owner) ≡ load.choice → IsOn at load.owner load.under → AreNamed Named (under_terms load.owner load.under)
      → Contains (clauses_with job c load found) one → AreNamed Named one.terms → violates at one.terms ≡ true → ⊥
  with_right load None one is there chosen is_on on_named here named violated = chosen_usable load.owner load.choice there chosen is
  with_right load (Some contents) one is there chosen is_on on_named here named violated =
      under_right load contents load.under one (chosen_held load.owner load.choice there chosen)
      (ap (contents_at job c load.owner) (sym (chosen_version load.owner load.choice chosen)) ∙ is) is_on on_named here named violated

  -- the law
  pub first_law : (load : Load) → IsThere c.lookups load.owner load.choice → (one : Fact) → Contains (facts_of job c load) one → AreNamed Named one.terms
      → violates at one.terms ≡ false
  first_law load there one here named =
      false_from_ne_true (violates at one.terms)
      (λ violated.
      let found = from_map (behind c.lookups load) (clauses_of job c load) one here in
      let both : (violates at (subject_terms c.lookups load) && violates at found.0.terms) ≡ true
      = sym (violates-append at (subject_terms c.lookups load) found.0.terms) ∙ ap (λ (f : Fact). violates at f.terms) found.2 ∙ violated in
      let parts = and_parts _ _ both in
      let subject = subject_holds c at load parts.0 in
      let all_named : AreNamed Named (subject_terms c.lookups load ++ found.0.terms) = subst (λ (f : Fact). AreNamed Named f.terms) (sym found.2) named in
      with_right load _ found.0 refl there subject.0 subject.1
      (λ term here. all_named term (Contains-append_left (subject_terms c.lookups load) found.0.terms term (contains_tail (only c.lookups (owner_node load.owner) load.choice) term (under_terms load.owner load.under) here)))
      found.1 (λ term here. all_named term (Contains-append_right (subject_terms c.lookups load) found.0.terms term here)) parts.1)
