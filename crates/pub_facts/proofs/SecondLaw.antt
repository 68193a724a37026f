-- An assignment with the root chosen that violates no fact of the loads of its own choices contains a valid selection: what it reaches.
use Rattle.std.proofs.Common.{◌≡◌, ℕ, true, false, not, ◌&&◌, List, [], ◌∷◌, ◌++◌, map, Contains, Option, Some, None, refl, sym, ap, ◌∙◌, subst, inl, inr, flat_map, filter}
use Rattle.std.proofs.lemmas.Bool.{and_cases, cond-false, cond-true, false≢true, false_from_ne_true, true_from_ne_false}
use Rattle.std.proofs.lemmas.List.Elements.{Contains-append_left, Contains-append_right}
use Rattle.pub_set.specs.Choices.{has}
use Rattle.pub_term.specs.declared.node.NodeName.{NodeName}
use Rattle.pub_term.specs.declared.node.NodeName.TheVariants.{Package}
use Rattle.pub_term.specs.declared.cause.Cause.TheVariants.{Asks, Requires, NoTrait}
use Rattle.spm_manifest.specs.declared.dump.Contents.{Contents}
use Rattle.spm_manifest.specs.declared.need.Ask.{Ask}
use Rattle.spm_manifest.specs.declared.need.Need.{Need}
use Rattle.spm_trait.specs.Closure.{enabled_by, is_declared}
use Rattle.spm_version.specs.Release.{Parts}
use Rattle.spm_version.specs.Requirement.{contains}
use Rattle.pub_facts.specs.Catalogue.{Catalogue, Job, Lookups, Owner, contents_at, contents_of, entries_in, is_always, is_guarded_by, needs_in, release_at, target_of, version_in}
use Rattle.pub_facts.specs.Enabled.{Active, Enabled, Held, IsIn, Selection, Spot, World, by_always, by_ask, by_ask_under, by_guard, by_need, by_root, by_trait, by_words, version_of, world_of}
use Rattle.pub_facts.specs.Valid.{IsMet, IsUsable, IsValid}
use Rattle.pub_facts.specs.Facts.{Load, asked_under, asks_of, behind, clauses_of, clauses_under, clauses_with, enables, fact, found_at, is_inside, is_of, need_clauses, need_clauses_on, off, on, outside, owner_node, size_of, subject_of, subject_terms, trait_node, trouble, under_names, unmet_cause, violates, words_ask, words_clauses}
use Rattle.pub_facts.specs.declared.fact.Fact.{Fact}
use Rattle.pub_facts.specs.Assigns.{Agrees, IsOn, IsReachedPart, selection_of}
use Rattle.pub_facts.specs.Known.{IsThere}
use Rattle.pub_facts.proofs.Members.{contains_filter, contains_flat_map, contains_head, contains_map, contains_nothing, contains_tail, listed_at}
use Rattle.pub_facts.proofs.Sets.{has_where, holds_subject, on_from_not_off, only_has, trait_below, violates-append}
use Rattle.pub_facts.proofs.Worlds.{moved, owner_held, same_contents}

-- the load of an owner's own choice
abbrev pub own : (NodeName → ℕ) → Owner → Option (List ℕ) → Load
own at owner under = record { owner = owner; choice = at (owner_node owner); under = under }

-- why a need is active: a load of it that violates nothing
pub record IsLoaded (c : Catalogue) (at : NodeName → ℕ) (owner : Owner) (need : Need) : Type 0 where
  pub there : IsThere c.lookups owner (at (owner_node owner))
  pub under : Option (List ℕ)
  pub none : (one : Fact) → Contains (need_clauses c.lookups (own at owner under) need) one → violates at one.terms ≡ false

-- what is right of whatever is reached
abbrev pub Right : Catalogue → (NodeName → ℕ) → Spot → Type 0
Right c at (Held owner) = IsThere c.lookups owner (at (owner_node owner))
Right c at (Enabled owner name) = (at (trait_node owner name) ≡ 1) × IsThere c.lookups owner (at (owner_node owner))
Right c at (Active owner need) = IsLoaded c at owner need

record IsReleased (c : Catalogue) (at : NodeName → ℕ) (need : Need) (target : List ℕ) : Type 0 where
  pub release : Parts
  pub chosen : release_at (c.lookups.list target) (at (Package target)) ≡ Some release
  pub within : contains need.requirement release ≡ true

-- ---- clauses that are there

abbrev requires_one : Lookups → Load → Need → List ℕ → Fact
requires_one l load need target = fact (outside l target need.requirement ∷ []) (Requires (subject_of l load (under_names load.under)) target need.requirement)

abbrev unmet_one : Lookups → Load → Need → Fact
unmet_one l load need = fact [] (unmet_cause (subject_of l load (under_names load.under)) need.requirement need.target)

abbrev asks_one : Lookups → Load → List ℕ → List ℕ → Fact
asks_one l load target name = fact (off (Some target) name ∷ []) (Asks (subject_of l load (under_names load.under)) target name)

abbrev undeclared_one : Lookups → Load → Fact
undeclared_one l load = fact [] (NoTrait (subject_of l load (under_names load.under)))

abbrev trouble_one : Catalogue → Load → Fact
trouble_one c load = fact [] (trouble (subject_of c.lookups load (under_names load.under)) (found_at c load.owner (version_in c.lookups load.owner load.choice)))

requires_there : (c : Catalogue) (load : Load) (need : Need) (target : List ℕ) → target_of c.lookups need ≡ Some target
    → Contains (need_clauses c.lookups load need) (requires_one c.lookups load need target)
requires_there c load need target known =
    subst (λ t. Contains (need_clauses_on c.lookups load need t) (requires_one c.lookups load need target)) (sym known)
    (contains_head (requires_one c.lookups load need target) (flat_map (λ (ask : Ask). asks_of c.lookups load target ask.name ask.under) need.asked))

unmet_there : (c : Catalogue) (load : Load) (need : Need) → target_of c.lookups need ≡ None → Contains (need_clauses c.lookups load need) (unmet_one c.lookups load need)
unmet_there c load need unknown =
    subst (λ t. Contains (need_clauses_on c.lookups load need t) (unmet_one c.lookups load need)) (sym unknown) (contains_head (unmet_one c.lookups load need) [])

asks_one_there : (c : Catalogue) (load : Load) (target name : List ℕ) (under : List (List ℕ)) → under ≡ []
    → Contains (asks_of c.lookups load target name under) (asks_one c.lookups load target name)
asks_one_there c load target name under none =
    subst (λ names. Contains (asks_of c.lookups load target name names) (asks_one c.lookups load target name)) (sym none) (contains_head (asks_one c.lookups load target name) [])

undeclared_there : (job : Job) (c : Catalogue) (load : Load) (name : List ℕ) (contents : Contents) → is_declared contents.traits.entries name ≡ false
    → Contains (clauses_under job.asked c.lookups load contents (Some name)) (undeclared_one c.lookups load)
undeclared_there job c load name contents isnt =
    subst (λ clauses. Contains clauses (undeclared_one c.lookups load)) (sym (cond-false (is_declared contents.traits.entries name) _ _ isnt))
    (contains_head (undeclared_one c.lookups load) [])

trouble_there : (job : Job) (c : Catalogue) (load : Load) → contents_at job c load.owner (version_in c.lookups load.owner load.choice) ≡ None
    → Contains (clauses_of job c load) (trouble_one c load)
trouble_there job c load none =
    subst (λ f. Contains (clauses_with job c load f) (trouble_one c load)) (sym none) (contains_head (trouble_one c load) [])

module _ (job : Job) (c : Catalogue) (at : NodeName → ℕ) (agrees : Agrees job c at) where
  -- nothing that stands behind the subject of an own load is violated
  own_none : (owner : Owner) (under : Option (List ℕ)) → IsThere c.lookups owner (at (owner_node owner)) → IsOn at owner under
      → (one : Fact) → Contains (clauses_of job c (own at owner under)) one → violates at one.terms ≡ false
  own_none owner under there is_on one here =
      let load = own at owner under in
      let whole : violates at (behind c.lookups load one).terms ≡ false
      = agrees.none load (record { there = there; chosen = refl; on = is_on }) (behind c.lookups load one) (contains_map (behind c.lookups load) (clauses_of job c load) one here) in
      let split : (violates at (subject_terms c.lookups load) && violates at one.terms) ≡ false = sym (violates-append at (subject_terms c.lookups load) one.terms) ∙ whole in
      elim (and_cases (violates at (subject_terms c.lookups load)) (violates at one.terms) split) [
        | inl subject ↦ absurd (false≢true (sym subject ∙ holds_subject c at load agrees.sized refl is_on))
        | inr behind_it ↦ behind_it
      ]

  -- ---- terms

  on_there : (owner : Owner) (name : List ℕ) → violates at (off owner name ∷ []) ≡ false → at (trait_node owner name) ≡ 1
  on_there owner name none =
      on_from_not_off c at owner name agrees.sized
      (false_from_ne_true (has (off owner name).choices (at (trait_node owner name)))
      (λ here. false≢true (sym none ∙ ap (λ b. b && true) here)))

  inside_there : (need : Need) (target : List ℕ) (found : Option Parts) → release_at (c.lookups.list target) (at (Package target)) ≡ found
      → is_inside need.requirement found ≡ true → IsReleased c at need target
  inside_there need target None is inside = absurd (false≢true inside)
  inside_there need target (Some release) is inside = record { release = release; chosen = is; within = inside }

  released : (need : Need) (target : List ℕ) → violates at (outside c.lookups target need.requirement ∷ []) ≡ false → IsReleased c at need target
  released need target none =
      inside_there need target (release_at (c.lookups.list target) (at (Package target))) refl
      (true_from_ne_false (is_inside need.requirement (release_at (c.lookups.list target) (at (Package target))))
      (λ out.
      let here : has (outside c.lookups target need.requirement).choices (at (Package target)) ≡ true
      = has_where (size_of c.lookups (Package target)) (λ k. not (is_inside need.requirement (release_at (c.lookups.list target) k))) (at (Package target)) (agrees.sized (Package target)) ∙ ap not out in
      false≢true (sym none ∙ ap (λ b. b && true) here)))

  -- ---- an active need

  abbrev pub W : World
  W = world_of job c (selection_of c at)

  same_version : (owner : Owner) → version_in c.lookups owner (at (owner_node owner)) ≡ version_of (selection_of c at) owner
  same_version None = refl
  same_version (Some identity) = refl

  need_released : (owner : Owner) (need : Need) (target : List ℕ) → IsLoaded c at owner need → target_of c.lookups need ≡ Some target → IsReleased c at need target
  need_released owner need target loaded known =
      released need target
      (loaded.none (requires_one c.lookups (own at owner loaded.under) need target) (requires_there c (own at owner loaded.under) need target known))

  ask_clause : (owner : Owner) (need : Need) (target : List ℕ) (ask : Ask) (loaded : IsLoaded c at owner need) → target_of c.lookups need ≡ Some target
      → Contains need.asked ask → (one : Fact) → Contains (asks_of c.lookups (own at owner loaded.under) target ask.name ask.under) one → violates at one.terms ≡ false
  ask_clause owner need target ask loaded known there one here =
      loaded.none one
      (subst (λ t. Contains (need_clauses_on c.lookups (own at owner loaded.under) need t) one) (sym known)
      (contains_tail (requires_one c.lookups (own at owner loaded.under) need target) one
      (flat_map (λ (ask : Ask). asks_of c.lookups (own at owner loaded.under) target ask.name ask.under) need.asked)
      (contains_flat_map (λ (ask : Ask). asks_of c.lookups (own at owner loaded.under) target ask.name ask.under) need.asked ask one there here)))

  asked_on : (owner : Owner) (need : Need) (target : List ℕ) (ask : Ask) → IsLoaded c at owner need → target_of c.lookups need ≡ Some target
      → Contains need.asked ask → ask.under ≡ [] → at (trait_node (Some target) ask.name) ≡ 1
  asked_on owner need target ask loaded known there none =
      on_there (Some target) ask.name
      (ask_clause owner need target ask loaded known there (asks_one c.lookups (own at owner loaded.under) target ask.name)
      (asks_one_there c (own at owner loaded.under) target ask.name ask.under none))

  asks_there : (owner : Owner) (load : Load) (target name under : List ℕ) (unders : List (List ℕ)) → Contains unders under
      → Contains (asks_of c.lookups load target name unders) (asked_under c.lookups load target name under)
  asks_there owner load target name under [] here = absurd (contains_nothing under here)
  asks_there owner load target name under (first ∷ others) here =
      contains_map (asked_under c.lookups load target name) (first ∷ others) under here

  asked_under_on : (owner : Owner) (need : Need) (target : List ℕ) (ask : Ask) (under : List ℕ) → IsLoaded c at owner need → target_of c.lookups need ≡ Some target
      → Contains need.asked ask → Contains ask.under under → at (trait_node owner under) ≡ 1 → at (trait_node (Some target) ask.name) ≡ 1
  asked_under_on owner need target ask under loaded known there here is_on =
      let load = own at owner loaded.under in
      let none = ask_clause owner need target ask loaded known there _ (asks_there owner load target ask.name under ask.under here) in
      on_there (Some target) ask.name
      (elim (and_cases (has (on owner under).choices (at (trait_node owner under))) (violates at (off (Some target) ask.name ∷ [])) none) [
        | inl isnt ↦ absurd (false≢true (sym isnt ∙ only_has 2 1 (at (trait_node owner under)) (trait_below c at owner under agrees.sized) is_on))
        | inr is ↦ is
      ])

  -- ---- loads

  always_loaded : (owner : Owner) (need : Need) (found : Option Contents) → contents_at job c owner (version_in c.lookups owner (at (owner_node owner))) ≡ found
      → IsThere c.lookups owner (at (owner_node owner)) → Contains (needs_in found) need → is_always need.guard ≡ true → IsLoaded c at owner need
  always_loaded owner need None is there here always = absurd (contains_nothing need here)
  always_loaded owner need (Some contents) is there here always = record {
    there = there;
    under = None;
    none = λ one made.
        own_none owner None there tt one
        (subst (λ f. Contains (clauses_with job c (own at owner None) f) one) (sym is)
        (Contains-append_right (words_clauses job.asked owner) _ one
        (contains_flat_map (need_clauses c.lookups (own at owner None)) (filter (is_of None) contents.needs) need one
        (contains_filter (is_of None) contents.needs need always here) made)));
  }

  -- a trait that is on is declared
  declared_there : (owner : Owner) (name : List ℕ) (contents : Contents) → contents_at job c owner (version_in c.lookups owner (at (owner_node owner))) ≡ Some contents
      → IsThere c.lookups owner (at (owner_node owner)) → at (trait_node owner name) ≡ 1 → is_declared contents.traits.entries name ≡ true
  declared_there owner name contents is there is_on =
      true_from_ne_false (is_declared contents.traits.entries name)
      (λ isnt.
      let load = own at owner (Some name) in
      let none : true ≡ false
      = own_none owner (Some name) there is_on (undeclared_one c.lookups load)
      (subst (λ f. Contains (clauses_with job c load f) (undeclared_one c.lookups load)) (sym is) (undeclared_there job c load name contents isnt)) in
      false≢true (sym none))

  under_clause : (owner : Owner) (name : List ℕ) (contents : Contents) → contents_at job c owner (version_in c.lookups owner (at (owner_node owner))) ≡ Some contents
      → IsThere c.lookups owner (at (owner_node owner)) → at (trait_node owner name) ≡ 1 → (one : Fact)
      → Contains (map (enables c.lookups (own at owner (Some name))) (enabled_by contents.traits.entries name)
      ++ flat_map (need_clauses c.lookups (own at owner (Some name))) (filter (is_of (Some name)) contents.needs)) one
      → violates at one.terms ≡ false
  under_clause owner name contents is there is_on one here =
      own_none owner (Some name) there is_on one
      (subst (λ f. Contains (clauses_with job c (own at owner (Some name)) f) one) (sym is)
      (subst (λ clauses. Contains clauses one)
      (sym (cond-true (is_declared contents.traits.entries name) _ _ (declared_there owner name contents is there is_on))) here))

  guard_loaded : (owner : Owner) (need : Need) (name : List ℕ) (found : Option Contents)
      → contents_at job c owner (version_in c.lookups owner (at (owner_node owner))) ≡ found → IsThere c.lookups owner (at (owner_node owner))
      → Contains (needs_in found) need → is_guarded_by name need.guard ≡ true → at (trait_node owner name) ≡ 1 → IsLoaded c at owner need
  guard_loaded owner need name None is there here guard is_on = absurd (contains_nothing need here)
  guard_loaded owner need name (Some contents) is there here guard is_on = record {
    there = there;
    under = Some name;
    none = λ one made.
        under_clause owner name contents is there is_on one
        (Contains-append_right _ _ one
        (contains_flat_map (need_clauses c.lookups (own at owner (Some name))) (filter (is_of (Some name)) contents.needs) need one
        (contains_filter (is_of (Some name)) contents.needs need guard here) made));
  }

  enables_on : (owner : Owner) (name other : List ℕ) (found : Option Contents)
      → contents_at job c owner (version_in c.lookups owner (at (owner_node owner))) ≡ found → IsThere c.lookups owner (at (owner_node owner))
      → at (trait_node owner name) ≡ 1 → Contains (enabled_by (entries_in found) name) other → at (trait_node owner other) ≡ 1
  enables_on owner name other None is there is_on here = absurd (contains_nothing other here)
  enables_on owner name other (Some contents) is there is_on here =
      on_there owner other
      (under_clause owner name contents is there is_on (enables c.lookups (own at owner (Some name)) other)
      (Contains-append_left _ _ _
      (contains_map (enables c.lookups (own at owner (Some name))) (enabled_by contents.traits.entries name) other here)))

  -- ---- what is reached is right

  at_world : (owner : Owner) → contents_at job c owner (version_in c.lookups owner (at (owner_node owner))) ≡ W.contents owner
  at_world owner = ap (contents_at job c owner) (same_version owner)

  -- what is reached is right, by induction over the least sets
  pub right : (spot : Spot) → IsIn W spot → Right c at spot
  right spot by_root = agrees.root
  right spot (by_words name here) = (
    on_there None name
        (own_none None None agrees.root tt (words_ask name)
        (Contains-append_left _ _ _ (contains_map words_ask job.asked name here))),
    agrees.root,
  )
  right spot (by_always owner need held there always) =
      always_loaded owner need (W.contents owner) (at_world owner) (right (Held owner) held) there always
  right spot (by_guard owner need name held there guard enabled) =
      guard_loaded owner need name (W.contents owner) (at_world owner) (right (Held owner) held) there guard (right (Enabled owner name) enabled).0
  right spot (by_need owner need target active known) =
      let found = need_released owner need target (right (Active owner need) active) known in
      (found.release, found.chosen)
  right spot (by_ask owner need target ask active known there none) =
      let loaded = right (Active owner need) active in
      let found = need_released owner need target loaded known in
      (asked_on owner need target ask loaded known there none, (found.release, found.chosen))
  right spot (by_ask_under owner need target ask name active known there under enabled) =
      let loaded = right (Active owner need) active in
      let found = need_released owner need target loaded known in
      (asked_under_on owner need target ask name loaded known there under (right (Enabled owner name) enabled).0, (found.release, found.chosen))
  right spot (by_trait owner name other enabled there) =
      let is = right (Enabled owner name) enabled in
      (enables_on owner name other (W.contents owner) (at_world owner) is.1 is.0 there, is.1)

  -- ---- the reached part is valid

  module _ (part : Selection) (reached : IsReachedPart job c at part) where
    into : (spot : Spot) → IsIn (world_of job c part) spot → IsIn W spot
    into spot here = moved job c part (selection_of c at) reached.same spot here

    back : (spot : Spot) → IsIn W spot → IsIn (world_of job c part) spot
    back spot here = moved job c (selection_of c at) part (λ identity held. sym (reached.same identity (into (Held (Some identity)) held))) spot here

    unmet : (owner : Owner) (need : Need) → IsLoaded c at owner need → target_of c.lookups need ≡ None → ⊥
    unmet owner need loaded none =
        let e : true ≡ false
        = loaded.none (unmet_one c.lookups (own at owner loaded.under) need) (unmet_there c (own at owner loaded.under) need none) in
        false≢true (sym e)

    met : (owner : Owner) (need : Need) (target : Option (List ℕ)) → target_of c.lookups need ≡ target → IsIn W (Active owner need) → IsMet c part need
    met owner need None is active = absurd (unmet owner need (right (Active owner need) active) is)
    met owner need (Some target) is active =
        let found = need_released owner need target (right (Active owner need) active) is in
        record {
          target = target;
          known = is;
          release = found.release;
          selected = reached.same target (by_need owner need target active is) ∙ found.chosen;
          within = found.within;
        }

    read : (identity : List ℕ) (release : Parts) (found : Option Contents) → release_at (c.lookups.list identity) (at (Package identity)) ≡ Some release
        → contents_of job.tools (c.found identity release) ≡ found → IsUsable job c identity release
    read identity release None chosen is =
        let load = own at (Some identity) None in
        let none : contents_at job c (Some identity) (version_in c.lookups (Some identity) (at (Package identity))) ≡ None
        = ap (contents_at job c (Some identity)) chosen ∙ is in
        let e : true ≡ false
        = own_none (Some identity) None (release, chosen) tt (trouble_one c load) (trouble_there job c load none) in
        absurd (false≢true (sym e))
    read identity release (Some contents) chosen is = record {
      listed = listed_at (c.lookups.list identity) (at (Package identity)) release chosen;
      contents = contents;
      read = is;
    }

    is_declared_at : (owner : Owner) (name : List ℕ) (found : Option Contents) → contents_at job c owner (version_in c.lookups owner (at (owner_node owner))) ≡ found
        → Right c at (Enabled owner name) → is_declared (entries_in found) name ≡ true
    is_declared_at owner name None is right_there =
        let load = own at owner (Some name) in
        let e : true ≡ false
        = own_none owner (Some name) right_there.1 right_there.0 (trouble_one c load) (trouble_there job c load is) in
        absurd (false≢true (sym e))
    is_declared_at owner name (Some contents) is right_there = declared_there owner name contents is right_there.1 right_there.0

    -- the law
    pub second_law : IsValid job c part
    second_law = record {
      needs = λ owner need active. met owner need (target_of c.lookups need) refl (into (Active owner need) active);
      usable = λ identity release selected.
          read identity release (contents_of job.tools (c.found identity release))
          (sym (reached.same identity (reached.reached identity release selected)) ∙ selected) refl;
      declared = λ owner name enabled.
          let over = into (Enabled owner name) enabled in
          ap (λ f. is_declared (entries_in f) name)
          (same_contents job c part (selection_of c at) owner reached.same (owner_held W (Enabled owner name) over))
          ∙ is_declared_at owner name (W.contents owner) (at_world owner) (right (Enabled owner name) over);
      reached = λ identity release selected. back (Held (Some identity)) (reached.reached identity release selected);
    }
