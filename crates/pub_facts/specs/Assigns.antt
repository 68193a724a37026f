-- The assignment that a selection is, and the selection that an assignment has.
use Rattle.std.specs.Prelude.{◌≡◌, ℕ, ◌<◌, List, false, Contains, Option, Some, None}
use Rattle.spm_version.specs.Release.{Parts}
use Rattle.pub_term.specs.declared.node.NodeName.{NodeName}
use Rattle.pub_term.specs.declared.node.NodeName.TheVariants.{Root, Package}
use Rattle.pub_facts.specs.Catalogue.{Catalogue, Job, Owner, release_at}
use Rattle.pub_facts.specs.Enabled.{Enabled, Held, IsIn, Selection, world_of}
use Rattle.pub_facts.specs.Known.{IsThere}
use Rattle.pub_facts.specs.Facts.{Load, facts_of, owner_node, size_of, trait_node, violates}
use Rattle.pub_facts.specs.declared.fact.Fact.{Fact}
use Rattle.pub_facts.specs.declared.fact.Written.{Written}

-- each node has one of its choices
abbrev pub IsAssignment : Catalogue → (NodeName → ℕ) → Type 0
IsAssignment c at = (node : NodeName) → at node < size_of c.lookups node

-- the selection's versions are chosen, its enabled traits on, and all else absent, as far as nodes are named
pub record Shows (job : Job) (c : Catalogue) (selection : Selection) (Named : NodeName → Type 0) (at : NodeName → ℕ) : Type 0 where
  pub sized : IsAssignment c at
  pub root : at Root ≡ 1
  pub versions : (identity : List ℕ) → release_at (c.lookups.list identity) (at (Package identity)) ≡ selection identity
  pub switched : (owner : Owner) (name : List ℕ) → Named (trait_node owner name) → IsIn (world_of job c selection) (Enabled owner name)
      → at (trait_node owner name) ≡ 1
  pub enabled : (owner : Owner) (name : List ℕ) → Named (trait_node owner name) → at (trait_node owner name) ≡ 1
      → IsIn (world_of job c selection) (Enabled owner name)

abbrev pub AreNamed : (NodeName → Type 0) → List Written → Type 0
AreNamed Named terms = (term : Written) → Contains terms term → Named term.node

-- the versions that are chosen
abbrev pub selection_of : Catalogue → (NodeName → ℕ) → Selection
selection_of c at = λ identity. release_at (c.lookups.list identity) (at (Package identity))

abbrev pub IsOn : (NodeName → ℕ) → Owner → Option (List ℕ) → Type 0
IsOn at owner None = Unit {0}
IsOn at owner (Some name) = at (trait_node owner name) ≡ 1

-- a load of the assignment's own choices
pub record IsOwn (c : Catalogue) (at : NodeName → ℕ) (load : Load) : Type 0 where
  pub there : IsThere c.lookups load.owner load.choice
  pub chosen : at (owner_node load.owner) ≡ load.choice
  pub on : IsOn at load.owner load.under

-- an assignment that violates no fact of the loads of its own choices
pub record Agrees (job : Job) (c : Catalogue) (at : NodeName → ℕ) : Type 0 where
  pub sized : IsAssignment c at
  pub root : at Root ≡ 1
  pub none : (load : Load) → IsOwn c at load → (fact : Fact) → Contains (facts_of job c load) fact → violates at fact.terms ≡ false

-- the part of an assignment's selection that it reaches
pub record IsReachedPart (job : Job) (c : Catalogue) (at : NodeName → ℕ) (part : Selection) : Type 0 where
  pub reached : (identity : List ℕ) (release : Parts) → part identity ≡ Some release
      → IsIn (world_of job c (selection_of c at)) (Held (Some identity))
  pub same : (identity : List ℕ) → IsIn (world_of job c (selection_of c at)) (Held (Some identity)) → part identity ≡ selection_of c at identity
