use Rattle.std.proofs.Common.{◌≡◌, ◌++◌, drop, reverse}
use Rattle.std.specs.List.{filter_map}
use Rattle.pub_plain.specs.Answers.{lookups_by}
use Rattle.pub_plain.specs.Derivation.{pin_at}
use Rattle.pub_plain.specs.Told.{answers_to}
use Rattle.pub_trail.specs.Turn.{State}
use Rattle.pub_plain.proofs.pins.pins_of.Given as goal

abbrev pub invariant-loop-node : goal.invariant-loop-node
invariant-loop-node l =
    (state : State) → state.names ≡ l.told.known.nodes → state.trail ≡ reverse l.trail
    → l.pins ++ filter_map (pin_at (lookups_by (answers_to l.told)) state) (drop l.node-index l.nodes)
    ≡ filter_map (pin_at (lookups_by (answers_to l.told)) state) l.nodes
