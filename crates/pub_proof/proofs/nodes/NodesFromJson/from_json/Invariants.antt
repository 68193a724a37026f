use Rattle.std.proofs.Common.{◌≡◌, length, drop, map}
use Rattle.serde_json.specs.View.{view}
use Rattle.pub_proof.specs.File.{nodes_after, nodes_in}
use Rattle.pub_proof.specs.Places.{ArePlaces}
use Rattle.pub_proof.proofs.nodes.NodesFromJson.from_json.Given as goal

-- the map has the places of the names so far, and the items that are left go on behind these nodes
abbrev pub invariant-loop-index : goal.invariant-loop-index
invariant-loop-index l = record {
  place : l.index ≡ length l.names;
  places : ArePlaces l.names l.places;
  rest : nodes_after (record { names = l.names; sizes = l.sizes }) (map view (drop l.index l.item-items)) ≡ nodes_in (map view l.item-items);
}
