use Rattle.std.proofs.Common.{◌≡◌, ℕ, List, [], length, drop, map}
use Rattle.serde_json.specs.View.{view}
use Rattle.spm_json.specs.Names.{has_name}
use Rattle.spm_manifest.specs.Traits.{entries_after, has_entry}
use Rattle.spm_manifest.proofs.traits.each_entry.Given as goal

abbrev pub invariant-loop-index : goal.invariant-loop-index
invariant-loop-index l = record {
  place : l.index ≡ length l.read.items;
  names : (name : List ℕ) → has_name l.names name ≡ has_entry l.read.items name;
  rest : entries_after l.read.items (map view (drop l.index l.values)) ≡ entries_after [] (map view l.values);
}
