use Rattle.std.proofs.Common.{◌≡◌, [], length, drop, map}
use Rattle.serde_json.specs.View.{view}
use Rattle.spm_json.specs.Sequence.{items_after}
use Rattle.spm_json.proofs.sequence.each_item.Given as goal

abbrev pub invariant-loop-index : goal.invariant-loop-index
invariant-loop-index g l = record {
  place : l.index ≡ length l.read.items;
  rest : items_after g.T.FromJson.reading l.read.items (map view (drop l.index l.values)) ≡ items_after g.T.FromJson.reading [] (map view l.values);
}
