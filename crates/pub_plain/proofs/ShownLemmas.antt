-- A valid selection is shown by an assignment, as far as some nodes are named: where the aim is to refute, nothing needs to decide what is
-- enabled.
use Rattle.std.proofs.Common.{◌≡◌, ℕ, zero, suc, ◌<◌, Bool, true, false, cond, List, [], ◌∷◌, length, slice_index_or, Option, Some, None, refl, sym, ap, ◌∙◌, subst, inl, inr, arith}
use Rattle.std.specs.List.{slice_get}
use Rattle.std.proofs.lemmas.Bool.{cases_Bool, cond-false, cond-true, false≢true}
use Rattle.pub_facts.specs.Assigns.{Shows}
use Rattle.pub_facts.specs.Catalogue.{Catalogue, Job, Owner, release_at}
use Rattle.pub_facts.specs.Enabled.{Enabled, IsIn, Selection, World, world_of}
use Rattle.pub_facts.specs.Facts.{size_of, trait_node}
use Rattle.pub_facts.specs.Numbered.{number_in}
use Rattle.pub_facts.specs.Valid.{IsValid}
use Rattle.pub_facts.proofs.FactLemmas.{node_same}
use Rattle.pub_term.specs.NodeLaws.{node_eq}
use Rattle.pub_term.specs.declared.node.NodeName.{NodeName}
use Rattle.pub_term.specs.declared.node.NodeName.TheVariants.{Root, RootTrait, Package, PackageTrait}
use Rattle.spm_version.specs.Release.{Parts}

-- ---- a test of the nodes that are named

-- the node has a number
abbrev pub IsNamed : List NodeName → NodeName → Type 0
IsNamed names node = number_in names node < length names

-- a test tells what is so of each node that is named
pub record Tells (P : NodeName → Type 0) (names : List NodeName) (test : NodeName → Bool) : Type 0 where
  pub passes : (node : NodeName) → IsNamed names node → P node → test node ≡ true
  pub holds : (node : NodeName) → IsNamed names node → test node ≡ true → P node

-- a node that is named and isn't the first is one of the others
named_behind : (first : NodeName) (names : List NodeName) (node : NodeName) → node_eq first node ≡ false → IsNamed (first ∷ names) node
    → IsNamed names node
named_behind first names node isnt named =
    let n : number_in (first ∷ names) node ≡ suc (number_in names node) = cond-false (node_eq first node) 0 (suc (number_in names node)) isnt in
    omega (arith, n, named)

-- a test that tells it of the others, and of the first what is so of it
tells_more : (P : NodeName → Type 0) (first : NodeName) (names : List NodeName) (test : NodeName → Bool) (it : Bool) → Tells P names test
    → (P first → it ≡ true) → (it ≡ true → P first) → Tells P (first ∷ names) (λ node. cond (node_eq first node) it (test node))
tells_more P first names test it tells passes holds = record {
  passes = λ node named so. elim (cases_Bool (node_eq first node)) [
    | inl is ↦ cond-true (node_eq first node) it (test node) is ∙ passes (subst P (sym (node_same first node is)) so)
    | inr isnt ↦ cond-false (node_eq first node) it (test node) isnt ∙ tells.passes node (named_behind first names node isnt named) so
  ];
  holds = λ node named told. elim (cases_Bool (node_eq first node)) [
    | inl is ↦ subst P (node_same first node is) (holds (sym (cond-true (node_eq first node) it (test node) is) ∙ told))
    | inr isnt ↦
        tells.holds node (named_behind first names node isnt named) (sym (cond-false (node_eq first node) it (test node) isnt) ∙ told)
  ];
}

-- whatever is so of nodes, it can't be that no test tells it of those that are named
pub told_of : (P : NodeName → Type 0) (names : List NodeName) → ((test : NodeName → Bool) → Tells P names test → ⊥) → ⊥
told_of P [] never = never (λ node. false) (record {
  passes = λ node named so. absurd (omega (arith, named));
  holds = λ node named told. absurd (omega (arith, named));
})
told_of P (first ∷ names) never =
    told_of P names
    (λ test tells.
    let not_first : P first → ⊥
    = λ so. never (λ node. cond (node_eq first node) true (test node)) (tells_more P first names test true tells (λ _. refl) (λ _. so)) in
    never (λ node. cond (node_eq first node) false (test node))
    (tells_more P first names test false tells (λ so. absurd (not_first so)) (λ told. absurd (false≢true told))))

-- ---- what a selection enables

-- the trait is enabled; nothing is asked of the root and of packages
abbrev pub IsEnabled : World → NodeName → Type 0
IsEnabled world Root = Unit {0}
IsEnabled world (RootTrait name) = IsIn world (Enabled None name)
IsEnabled world (Package identity) = Unit {0}
IsEnabled world (PackageTrait identity name) = IsIn world (Enabled (Some identity) name)

-- the same of the trait of an owner
trait_enabled : (world : World) (owner : Owner) (name : List ℕ) → IsIn world (Enabled owner name) → IsEnabled world (trait_node owner name)
trait_enabled world None name is = is
trait_enabled world (Some identity) name is = is

-- and back
enabled_trait : (world : World) (owner : Owner) (name : List ℕ) → IsEnabled world (trait_node owner name) → IsIn world (Enabled owner name)
enabled_trait world None name is = is
enabled_trait world (Some identity) name is = is

-- ---- the assignment

-- what stands at a place of a list can be got there
got : (list : List Parts) (k : ℕ) (release : Parts) → k < length list → slice_index_or list k release ≡ release → slice_get list k ≡ Some release
got [] k release below is = absurd (omega (arith, below))
got (first ∷ list) zero release below is = ap (λ (r : Parts). Some r) is
got (first ∷ list) (suc k) release below is = got list k release (omega (arith, below)) is

-- a trait is on where the test passes
abbrev switch : Bool → ℕ
switch b = cond b 1 0

-- on and off are the choices of a trait
switch_below : (b : Bool) → switch b < 2
switch_below true = omega arith
switch_below false = omega arith

-- it is on only where the test passes
switch_on : (b : Bool) → switch b ≡ 1 → b ≡ true
switch_on true is = refl
switch_on false is = absurd (omega (arith, is))

module _ (job : Job) (c : Catalogue) (selection : Selection) (valid : IsValid job c selection) (test : NodeName → Bool) where
  -- the choice of a package: its version's place in its list, or none
  abbrev place_of : (identity : List ℕ) (found : Option Parts) → selection identity ≡ found → ℕ
  place_of identity None is = 0
  place_of identity (Some release) is = suc (valid.usable identity release is).listed.0

  -- is one of its choices
  place_below : (identity : List ℕ) (found : Option Parts) (is : selection identity ≡ found)
      → place_of identity found is < suc (length (c.lookups.list identity))
  place_below identity None is = omega arith
  place_below identity (Some release) is = (let below = (valid.usable identity release is).listed.1 in omega (arith, below))

  -- and that of its version
  place_release : (identity : List ℕ) (found : Option Parts) (is : selection identity ≡ found)
      → release_at (c.lookups.list identity) (place_of identity found is) ≡ found
  place_release identity None is = refl
  place_release identity (Some release) is =
      let listed = (valid.usable identity release is).listed in
      got (c.lookups.list identity) listed.0 release listed.1 listed.2

  -- the assignment of the selection, where the test tells which traits are on
  abbrev pub shown : NodeName → ℕ
  shown Root = 1
  shown (RootTrait name) = switch (test (RootTrait name))
  shown (Package identity) = place_of identity (selection identity) refl
  shown (PackageTrait identity name) = switch (test (PackageTrait identity name))

  -- each node has one of its choices
  shown_below : (node : NodeName) → shown node < size_of c.lookups node
  shown_below Root = omega arith
  shown_below (RootTrait name) = switch_below (test (RootTrait name))
  shown_below (Package identity) = place_below identity (selection identity) refl
  shown_below (PackageTrait identity name) = switch_below (test (PackageTrait identity name))

  -- a trait is on where the test passes
  on_where : (owner : Owner) (name : List ℕ) → test (trait_node owner name) ≡ true → shown (trait_node owner name) ≡ 1
  on_where None name is = cond-true {A = ℕ} (test (RootTrait name)) 1 0 is
  on_where (Some identity) name is = cond-true {A = ℕ} (test (PackageTrait identity name)) 1 0 is

  -- and there alone
  where_on : (owner : Owner) (name : List ℕ) → shown (trait_node owner name) ≡ 1 → test (trait_node owner name) ≡ true
  where_on None name is = switch_on (test (RootTrait name)) is
  where_on (Some identity) name is = switch_on (test (PackageTrait identity name)) is

  -- it shows the selection as far as nodes are named
  pub shows : (names : List NodeName) → Tells (IsEnabled (world_of job c selection)) names test → Shows job c selection (IsNamed names) shown
  shows names tells = record {
    sized = shown_below;
    root = refl;
    versions = λ identity. place_release identity (selection identity) refl;
    switched = λ owner name named enabled.
        on_where owner name (tells.passes (trait_node owner name) named (trait_enabled (world_of job c selection) owner name enabled));
    enabled = λ owner name named is.
        enabled_trait (world_of job c selection) owner name (tells.holds (trait_node owner name) named (where_on owner name is));
  }
