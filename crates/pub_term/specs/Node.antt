-- The names of nodes, their order and their text.
use Rattle.std.specs.Prelude.{ℕ, List, ◌++◌, codes, Option, Some, None}
use Rattle.std.specs.Cmp.Lexicographic.{slice_cmp}
use Rattle.std.specs.Ordering.{nat_cmp, ordering_then}
use Rattle.std.specs.declared.cmp.Ordering.{Ordering}
use Rattle.std.specs.declared.cmp.Ordering.TheVariants.{Less, Equal, Greater}
use Rattle.pub_term.specs.declared.node.NodeName.{NodeName}
use Rattle.pub_term.specs.declared.node.NodeName.TheVariants.{Root, RootTrait, Package, PackageTrait}

-- the package of a node, and the trait; the root has no package, and a node that is no trait no trait
abbrev pub package_of : NodeName → Option (List ℕ)
package_of Root = None
package_of (RootTrait name) = None
package_of (Package identity) = Some identity
package_of (PackageTrait identity name) = Some identity

abbrev pub trait_of : NodeName → Option (List ℕ)
trait_of Root = None
trait_of (RootTrait name) = Some name
trait_of (Package identity) = None
trait_of (PackageTrait identity name) = Some name

-- nothing comes first, then texts by their bytes
abbrev pub optional_cmp : Option (List ℕ) → Option (List ℕ) → Ordering
optional_cmp None None = Equal
optional_cmp None (Some second) = Less
optional_cmp (Some first) None = Greater
optional_cmp (Some first) (Some second) = slice_cmp nat_cmp first second

-- Node order: the root, its traits by bytes, then packages by identity, each before its traits
abbrev pub node_cmp : NodeName → NodeName → Ordering
node_cmp first second = ordering_then (optional_cmp (package_of first) (package_of second)) (optional_cmp (trait_of first) (trait_of second))

-- `root`, `root#trait`, `identity`, `identity#trait`
abbrev pub node_text : NodeName → List ℕ
node_text Root = codes "root"
node_text (RootTrait name) = codes "root#" ++ name
node_text (Package identity) = identity
node_text (PackageTrait identity name) = identity ++ (codes "#" ++ name)
