-- With more selected, as much is reached: so what is decided step by step is in the sets.
use Rattle.std.proofs.Common.{◌≡◌, ◌≢◌, ℕ, ◌<◌, true, List, [], ◌∷◌, Contains, Option, Some, None, refl, sym, ap, ◌∙◌, subst, inl, inr, arith}
use Rattle.std.proofs.lemmas.Bool.{cases_Bool}
use Rattle.pub_facts.specs.Assigns.{IsAssignment, selection_of}
use Rattle.pub_facts.specs.Catalogue.{Catalogue, Job, Owner, contents_at, entries_in, needs_in, release_at}
use Rattle.pub_facts.specs.Enabled.{Active, Enabled, Held, IsIn, Selection, Spot, by_always, by_ask, by_ask_under, by_guard, by_need, by_root, by_trait, by_words, version_of, world_of}
use Rattle.pub_facts.specs.Facts.{size_of}
use Rattle.pub_facts.specs.First.{Includes}
use Rattle.pub_facts.proofs.FactLemmas.{node_same}
use Rattle.pub_facts.proofs.Members.{contains_nothing}
use Rattle.pub_term.specs.NodeLaws.{node_eq, node_equiv}
use Rattle.pub_term.specs.declared.node.NodeName.{NodeName}
use Rattle.pub_term.specs.declared.node.NodeName.TheVariants.{Root, RootTrait, Package, PackageTrait}
use Rattle.spm_manifest.specs.declared.dump.Contents.{Contents}
use Rattle.spm_trait.specs.Closure.{enabled_by}
use Rattle.spm_version.specs.Release.{Parts}
use Rattle.pub_plain.proofs.Decisions.{AreReached, AreSteps, Decision, InWorld, Keeps, chosen_at, chosen_behind, chosen_here, step_keeps}
use Rattle.pub_plain.proofs.ReachedLemmas.{asked_in}

-- ---- with more selected, as much is reached

-- what is read of an owner's contents, if there are some, is read of them in the whole
contents_grow : (job : Job) (c : Catalogue) (part whole : Selection) → Includes whole part → (P : Option Contents → Type 0) → (P None → ⊥)
    → (owner : Owner) → P (contents_at job c owner (version_of part owner)) → P (contents_at job c owner (version_of whole owner))
contents_grow job c part whole includes P never None here = here
contents_grow job c part whole includes P never (Some identity) here = go (part identity) refl
  where
    go : (found : Option Parts) → part identity ≡ found → P (contents_at job c (Some identity) (whole identity))
    go None is = absurd (never (subst (λ v. P (contents_at job c (Some identity) v)) is here))
    go (Some release) is =
        subst (λ v. P (contents_at job c (Some identity) v)) (sym (includes identity release is))
        (subst (λ v. P (contents_at job c (Some identity) v)) is here)

-- what the part reaches the whole does
pub grown : (job : Job) (c : Catalogue) (part whole : Selection) → Includes whole part
    → (spot : Spot) → IsIn (world_of job c part) spot → IsIn (world_of job c whole) spot
grown job c part whole includes spot by_root = by_root
grown job c part whole includes spot (by_words name here) = by_words name here
grown job c part whole includes spot (by_always owner need held there always) =
    by_always owner need (grown job c part whole includes (Held owner) held)
    (contents_grow job c part whole includes (λ f. Contains (needs_in f) need) (contains_nothing need) owner there) always
grown job c part whole includes spot (by_guard owner need name held there guard enabled) =
    by_guard owner need name (grown job c part whole includes (Held owner) held)
    (contents_grow job c part whole includes (λ f. Contains (needs_in f) need) (contains_nothing need) owner there) guard
    (grown job c part whole includes (Enabled owner name) enabled)
grown job c part whole includes spot (by_need owner need target active known) =
    by_need owner need target (grown job c part whole includes (Active owner need) active) known
grown job c part whole includes spot (by_ask owner need target ask active known there none) =
    by_ask owner need target ask (grown job c part whole includes (Active owner need) active) known there none
grown job c part whole includes spot (by_ask_under owner need target ask name active known there under enabled) =
    by_ask_under owner need target ask name (grown job c part whole includes (Active owner need) active) known there under
    (grown job c part whole includes (Enabled owner name) enabled)
grown job c part whole includes spot (by_trait owner name other enabled there) =
    by_trait owner name other (grown job c part whole includes (Enabled owner name) enabled)
    (contents_grow job c part whole includes (λ f. Contains (enabled_by (entries_in f) name) other) (contains_nothing other) owner there)

-- and so do nodes
pub node_grown : (job : Job) (c : Catalogue) (part whole : Selection) → Includes whole part
    → (node : NodeName) → InWorld (world_of job c part) node → InWorld (world_of job c whole) node
node_grown job c part whole includes Root here = tt
node_grown job c part whole includes (RootTrait name) here = grown job c part whole includes (Enabled None name) here
node_grown job c part whole includes (Package identity) here = grown job c part whole includes (Held (Some identity)) here
node_grown job c part whole includes (PackageTrait identity name) here = grown job c part whole includes (Enabled (Some identity) name) here

-- ---- decisions

-- a choice of a release isn't 0
pub some_chosen : (list : List Parts) (choice : ℕ) (release : Parts) → release_at list choice ≡ Some release → choice ≢ 0
some_chosen list choice release is none = (let e : None ≡ Some release = sym (ap (release_at list) none) ∙ is in cc)

-- each node has a choice
size_some : (c : Catalogue) (node : NodeName) → 0 < size_of c.lookups node
size_some c Root = omega arith
size_some c (RootTrait name) = omega arith
size_some c (Package identity) = omega arith
size_some c (PackageTrait identity name) = omega arith

-- choices that are kept select as much
pub includes_kept : (c : Catalogue) (before after : NodeName → ℕ) → Keeps before after → Includes (selection_of c after) (selection_of c before)
includes_kept c before after keeps identity release is =
    ap (release_at (c.lookups.list identity))
    (keeps (Package identity) (some_chosen (c.lookups.list identity) (before (Package identity)) release is))
    ∙ is

module _ (job : Job) (c : Catalogue) where
  -- each node has one of its choices
  pub steps_sized : (steps : List Decision) → AreSteps job c steps → IsAssignment c (chosen_at steps)
  steps_sized [] are node = absurd are
  steps_sized (one ∷ []) are node = elim (cases_Bool (node_eq one.node node)) [
    | inl is ↦
        (let e : node ≡ Root = sym (node_same one.node node is) ∙ are.0 in
        let k : chosen_at (one ∷ []) node ≡ 1 = chosen_here one [] node is ∙ are.1 in
        subst (λ (n : ℕ). n < size_of c.lookups node) (sym k) (subst (λ n. 1 < size_of c.lookups n) (sym e) (omega arith)))
    | inr isnt ↦ subst (λ (n : ℕ). n < size_of c.lookups node) (sym (chosen_behind one [] node isnt)) (size_some c node)
  ]
  steps_sized (one ∷ next ∷ before) are node = elim (cases_Bool (node_eq one.node node)) [
    | inl is ↦
        subst (λ (n : ℕ). n < size_of c.lookups node) (sym (chosen_here one (next ∷ before) node is))
        (subst (λ n. one.choice < size_of c.lookups n) (node_same one.node node is) are.0.below)
    | inr isnt ↦
        subst (λ (n : ℕ). n < size_of c.lookups node) (sym (chosen_behind one (next ∷ before) node isnt))
        (steps_sized (next ∷ before) are.1 node)
  ]

  -- what is decided is in the sets
  pub steps_reached : (steps : List Decision) → AreSteps job c steps → AreReached job c (chosen_at steps)
  steps_reached [] are = absurd are
  steps_reached (one ∷ []) are = record {
    root = chosen_here one [] Root (subst (λ n. node_eq n Root ≡ true) (sym are.0) (node_equiv.refl Root)) ∙ are.1;
    nodes = λ node some. elim (cases_Bool (node_eq one.node node)) [
      | inl is ↦ subst (InWorld (world_of job c (selection_of c (chosen_at (one ∷ []))))) (sym are.0 ∙ node_same one.node node is) tt
      | inr isnt ↦ absurd (some (chosen_behind one [] node isnt))
    ];
  }
  steps_reached (one ∷ next ∷ before) are =
      let earlier = steps_reached (next ∷ before) are.1 in
      let keeps = step_keeps one (next ∷ before) are.0.fresh in
      let includes = includes_kept c (chosen_at (next ∷ before)) (chosen_at (one ∷ next ∷ before)) keeps in
      let over = node_grown job c (selection_of c (chosen_at (next ∷ before))) (selection_of c (chosen_at (one ∷ next ∷ before))) includes in
      record {
        root = keeps Root (λ none. absurd (omega (arith, none, earlier.root))) ∙ earlier.root;
        nodes = λ node some. elim (cases_Bool (node_eq one.node node)) [
          | inl is ↦
              over node (subst (InWorld (world_of job c (selection_of c (chosen_at (next ∷ before))))) (node_same one.node node is)
              (asked_in job c (chosen_at (next ∷ before)) earlier one.node are.0.asked))
          | inr isnt ↦ over node (earlier.nodes node (λ none. some (chosen_behind one (next ∷ before) node isnt ∙ none)))
        ];
      }
