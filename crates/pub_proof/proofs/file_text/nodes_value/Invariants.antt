use Rattle.std.proofs.Common.{◌≡◌, ◌++◌, drop, map}
use Rattle.serde_json.specs.View.{view}
use Rattle.pub_proof.specs.ProofText.{is_named, nodes_data}
use Rattle.pub_proof.proofs.file_text.nodes_value.Given as goal

abbrev pub invariant-loop-node : goal.invariant-loop-node
invariant-loop-node l =
    map view l.values.items ++ nodes_data (is_named l.derivation.lines) l.derivation.sizes l.node-counter (drop l.node-counter l.derivation.nodes)
    ≡ nodes_data (is_named l.derivation.lines) l.derivation.sizes 0 l.derivation.nodes
