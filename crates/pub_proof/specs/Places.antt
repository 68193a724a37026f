-- The places of names, kept in a map.
use Rattle.std.specs.Prelude.{◌≡◌, ℕ, List, Option, Some, if◌then◌else◌}
use Rattle.std.specs.BTreeMap as tree
use Rattle.pub_term.specs.Node.{node_cmp}
use Rattle.pub_term.specs.NodeLaws.{node_eq}
use Rattle.pub_term.specs.declared.node.NodeName.{NodeName}
use Rattle.pub_proof.specs.File.{place_of}

-- the place that the map has for a name
abbrev pub place_in : tree.BTreeMap NodeName ℕ → NodeName → Option ℕ
place_in places name = tree.get node_cmp places name

-- the same with one more name
abbrev pub with_place : tree.BTreeMap NodeName ℕ → NodeName → ℕ → NodeName → Option ℕ
with_place places name place other = if node_eq name other then Some place else place_in places other

-- the map has the place of each name
abbrev pub ArePlaces : List NodeName → tree.BTreeMap NodeName ℕ → Type 0
ArePlaces names places = (name : NodeName) → place_in places name ≡ place_of names name
