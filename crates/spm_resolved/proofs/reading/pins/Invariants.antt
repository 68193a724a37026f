use Rattle.std.proofs.Common.{◌≡◌, ℕ, List, [], drop, map}
use Rattle.serde_json.specs.View.{view}
use Rattle.spm_json.specs.Names.{has_name}
use Rattle.spm_resolved.specs.Reading.{has_pin, pins_from}
use Rattle.spm_resolved.proofs.reading.pins.Given as goal

-- the set has the identities of the pins so far, and the items that are left go on behind these pins
abbrev pub invariant-loop-index : goal.invariant-loop-index
invariant-loop-index l = record {
  met : (identity : List ℕ) → has_name l.met identity ≡ has_pin l.pins.items identity;
  rest : pins_from l.index l.pins.items (map view (drop l.index l.item-items)) ≡ pins_from 0 [] (map view l.item-items);
}
