-- What the code's orders stand for.
use Rattle.std.specs.Prelude.{map, option_map, string_bytes}
use Rattle.spm_tool.specs.Words as spec
use Rattle.spm_tool.specs.declared.words.Judgement.{Judgement}
use Rattle.spm_tool.specs.declared.words.Order.{Order}

abbrev pub order_view : Order → spec.Order
order_view order = record {
  shelf = order.shelf.now;
  fingerprints = option_map (λ file. file.now) order.fingerprints;
  tools = order.tools;
  traits = order.traits;
  proofs = order.proofs;
  roots = map string_bytes order.roots.now;
}

abbrev pub judgement_view : Judgement → spec.Judgement
judgement_view order = record { shelf = order.shelf.now; tools = order.tools; root = order.root.now }
