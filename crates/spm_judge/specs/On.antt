-- The nodes of what a selection reaches and enables, as one list in node order.
use Rattle.std.specs.Prelude.{List, Contains, Some, None}
use Rattle.std.specs.List.Sorted.{IsStrictlySortedBy}
use Rattle.pub_term.specs.Node.{node_cmp}
use Rattle.pub_term.specs.declared.node.NodeName.{NodeName}
use Rattle.pub_term.specs.declared.node.NodeName.TheVariants.{Root, RootTrait, Package, PackageTrait}
use Rattle.pub_facts.specs.Enabled.{Enabled, Held, IsIn, Spot, World}

-- a node is on where its owner is reached, or its trait enabled
abbrev pub spot_of : NodeName → Spot
spot_of Root = Held None
spot_of (RootTrait name) = Enabled None name
spot_of (Package identity) = Held (Some identity)
spot_of (PackageTrait identity name) = Enabled (Some identity) name

-- the nodes that are on, in node order, each once
pub record AreOn (world : World) (on : List NodeName) : Type 0 where
  pub ordered : IsStrictlySortedBy node_cmp on
  pub in_sets : (node : NodeName) → Contains on node → IsIn world (spot_of node)
  pub all : (node : NodeName) → IsIn world (spot_of node) → Contains on node
