use Rattle.std.proofs.Common.{◌∙◌, ◌++◌, ap, append-nil, arith, length, map, sym}
use Rattle.std.proofs.lemmas.List.{drop_all}
use Rattle.serde_json.proofs.Views.{view-Array}
use Rattle.serde_json.specs.View.{view}
use Rattle.pub_proof.specs.ProofText.{is_named, list_data, nodes_data}
use Rattle.pub_proof.proofs.file_text.nodes_value.Goals as goal

pub returns : goal.returns
returns c =
    let derivation = c.args.derivation.now in
    let done = map view c.loop-node.values.items in
    view-Array c.loop-node.values
    ∙ ap list_data
    (sym (append-nil done)
    ∙ ap (λ left. done ++ nodes_data (is_named derivation.lines) derivation.sizes c.loop-node.node-counter left) (sym (drop_all c.loop-node.node-counter derivation.nodes (omega (arith, ap length c.as_slice-name-items.ensures))))
    ∙ c.loop-node.invariant)
