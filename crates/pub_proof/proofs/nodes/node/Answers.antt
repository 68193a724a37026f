use Rattle.std.proofs.Common.{◌∙◌, Ok, ap, arith, is_some, map, sym}
use Rattle.serde_json.specs.View.{view}
use Rattle.pub_proof.specs.Places.{place_in}
use Rattle.pub_proof.proofs.FileLemmas.{node_read}
use Rattle.pub_proof.proofs.nodes.node.Goals as goal

pub returns-in_ok-size-in-len2-clause-node : goal.returns-in_ok-size-in-len2-clause-node
returns-in_ok-size-in-len2-clause-node c =
    node_read view _ (λ name. is_some (place_in c.args.places.now name)) (view c.args.value.now) c.as_slice.result.now c.name-item.result c.size-item.result
    c.in_ok-name-in-len2.name c.in_ok-size-in-len2.size (c.in_ok-list.ensures ∙ ap (λ items. Ok (map view items)) (sym c.as_slice.ensures.value)) (omega (arith, c.in-len2.len_at_least)) (omega (arith, c.in-len2.len_below))
    c.name-item.is c.size-item.is c.in_ok-name-in-len2.ensures.name c.in_ok-size-in-len2.ensures
