-- The decisions of a solver by the names of their nodes, the newest first, and what is asked of them.
use Rattle.std.proofs.Common.{◌≡◌, ◌≢◌, ◌⊎◌, ℕ, ◌<◌, List, [], ◌∷◌, true, false, Contains, Some, None, sym, ap, ◌∙◌, inl, inr}
use Rattle.std.specs.Prelude.{if◌then◌else◌}
use Rattle.std.specs.Cmp.Lexicographic.{slice_cmp}
use Rattle.std.specs.Ordering.{is_le, nat_cmp}
use Rattle.std.proofs.lemmas.Bool.{cases_Bool, cond-false, cond-true}
use Rattle.pub_set.specs.Choices.{has}
use Rattle.pub_facts.specs.Assigns.{IsOwn, selection_of}
use Rattle.pub_facts.specs.Catalogue.{Catalogue, Job, Owner}
use Rattle.pub_facts.specs.Enabled.{Enabled, Held, IsIn, World, world_of}
use Rattle.pub_facts.specs.Facts.{Load, clauses_of, owner_node, size_of, trait_node}
use Rattle.pub_facts.specs.declared.fact.Fact.{Fact}
use Rattle.pub_facts.specs.declared.fact.Written.{Written}
use Rattle.pub_facts.proofs.FactLemmas.{node_same}
use Rattle.pub_term.specs.NodeLaws.{node_eq}
use Rattle.pub_term.specs.declared.node.NodeName.{NodeName}
use Rattle.pub_term.specs.declared.node.NodeName.TheVariants.{Root, RootTrait, Package, PackageTrait}

-- a node with the choice that it is decided on
pub record Decision : Type 0 where
  pub node : NodeName
  pub choice : ℕ

-- the decided choice; 0 where there is none
abbrev pub chosen_at : List Decision → NodeName → ℕ
chosen_at [] node = 0
chosen_at (one ∷ before) node = if node_eq one.node node then one.choice else chosen_at before node

-- ---- what is asked

-- what stands behind the subject asks the node: all but the last have their nodes' choices, and the last is on the node
abbrev pub Asks : (NodeName → ℕ) → NodeName → List Written → Type 0
Asks at node [] = ⊥
Asks at node (term ∷ []) = term.node ≡ node
Asks at node (term ∷ next ∷ terms) = (has term.choices (at term.node) ≡ true) × Asks at node (next ∷ terms)

-- a load of the decisions' own choices asks the node
pub record IsAsked (job : Job) (c : Catalogue) (at : NodeName → ℕ) (node : NodeName) : Type 0 where
  pub load : Load
  pub own : IsOwn c at load
  pub clause : Fact
  pub there : Contains (clauses_of job c load) clause
  pub asks : Asks at node clause.terms

-- the spot that a node stands for is in the sets
abbrev pub InWorld : World → NodeName → Type 0
InWorld world Root = Unit {0}
InWorld world (RootTrait name) = IsIn world (Enabled None name)
InWorld world (Package identity) = IsIn world (Held (Some identity))
InWorld world (PackageTrait identity name) = IsIn world (Enabled (Some identity) name)

-- what the decided nodes are is in the sets
pub record AreReached (job : Job) (c : Catalogue) (at : NodeName → ℕ) : Type 0 where
  pub root : at Root ≡ 1
  pub nodes : (node : NodeName) → at node ≢ 0 → InWorld (world_of job c (selection_of c at)) node

-- ---- steps

-- a package is decided where no trait with a decided owner is asked and undecided, and it is the least package that is
pub record IsLeast (job : Job) (c : Catalogue) (at : NodeName → ℕ) (identity : List ℕ) : Type 0 where
  pub no_trait : (owner : Owner) (name : List ℕ) → IsAsked job c at (trait_node owner name) → at (owner_node owner) ≢ 0
      → at (trait_node owner name) ≢ 0
  pub least : (other : List ℕ) → IsAsked job c at (Package other) → at (Package other) ≡ 0 → is_le (slice_cmp nat_cmp identity other) ≡ true

-- nothing is asked of the root and of traits
abbrev pub IsLeastIf : Job → Catalogue → (NodeName → ℕ) → NodeName → Type 0
IsLeastIf job c at Root = Unit {0}
IsLeastIf job c at (RootTrait name) = Unit {0}
IsLeastIf job c at (Package identity) = IsLeast job c at identity
IsLeastIf job c at (PackageTrait identity name) = Unit {0}

-- what is decided is one of the choices of an undecided node that is asked
pub record IsStep (job : Job) (c : Catalogue) (at : NodeName → ℕ) (one : Decision) : Type 0 where
  pub fresh : at one.node ≡ 0
  pub some : one.choice ≢ 0
  pub below : one.choice < size_of c.lookups one.node
  pub asked : IsAsked job c at one.node
  pub least : IsLeastIf job c at one.node

-- each decision is a step, and the first is the root's
abbrev pub AreSteps : Job → Catalogue → List Decision → Type 0
AreSteps job c [] = ⊥
AreSteps job c (one ∷ []) = (one.node ≡ Root) × (one.choice ≡ 1)
AreSteps job c (one ∷ next ∷ before) = IsStep job c (chosen_at (next ∷ before)) one × AreSteps job c (next ∷ before)

-- what was decided earlier, or now
abbrev pub IsTail : List Decision → List Decision → Type 0
IsTail [] before = [] ≡ before
IsTail (one ∷ steps) before = ((one ∷ steps) ≡ before) ⊎ IsTail steps before

-- of a package
abbrev pub package_decision : List ℕ → ℕ → Decision
package_decision identity choice = record { node = Package identity; choice = choice }

-- ---- one more decision

-- the second keeps what the first has decided
abbrev pub Keeps : (NodeName → ℕ) → (NodeName → ℕ) → Type 0
Keeps before after = (node : NodeName) → before node ≢ 0 → after node ≡ before node

-- it is on its own node
pub chosen_here : (one : Decision) (before : List Decision) (node : NodeName) → node_eq one.node node ≡ true
    → chosen_at (one ∷ before) node ≡ one.choice
chosen_here one before node is = cond-true (node_eq one.node node) one.choice (chosen_at before node) is

-- and changes no other
pub chosen_behind : (one : Decision) (before : List Decision) (node : NodeName) → node_eq one.node node ≡ false
    → chosen_at (one ∷ before) node ≡ chosen_at before node
chosen_behind one before node isnt = cond-false (node_eq one.node node) one.choice (chosen_at before node) isnt

-- on a node that wasn't decided, it keeps all that was
pub step_keeps : (one : Decision) (before : List Decision) → chosen_at before one.node ≡ 0 → Keeps (chosen_at before) (chosen_at (one ∷ before))
step_keeps one before fresh node some = elim (cases_Bool (node_eq one.node node)) [
  | inl is ↦ absurd (some (ap (chosen_at before) (sym (node_same one.node node is)) ∙ fresh))
  | inr isnt ↦ chosen_behind one before node isnt
]
