use Rattle.std.proofs.Common.{◌≡◌, ◌∙◌, ◌++◌, ◌∷◌, [], Some, ap₂, arith, if◌then◌else◌, length-append, sym}
use Rattle.serde_json.specs.View.{view}
use Rattle.pub_term.specs.NodeLaws.{node_eq}
use Rattle.pub_proof.specs.Places.{place_in}
use Rattle.pub_proof.proofs.FileLemmas.{nodes_next, place_of-snoc}
use Rattle.pub_proof.proofs.nodes.NodesFromJson.from_json.Goals as goal

pub loop-index-preserved : goal.loop-index-preserved
loop-index-preserved c =
    let inv = c.loop-index.invariant in
    let names = c.loop-index.names in
    let name = c.in-Ok.name in
    let pushed : c.push.new.self ≡ names ++ name ∷ [] = c.in_ok-push-in-Ok.ensures.ok in
    let pushed_size : c.push-in-Ok.new.self ≡ c.loop-index.sizes ++ c.in-Ok.size ∷ [] = c.in_ok-push-in-Ok-2.ensures.ok in
    record {
      place = rw pushed (omega (arith, inv.place, length-append names (name ∷ [])));
      places = λ other. rw pushed
          (c.in-Ok.ensures.met other
          ∙ ap₂ (λ place rest. if node_eq name other then Some place else rest) inv.place (inv.places other)
          ∙ sym (place_of-snoc names name other (sym (inv.places name) ∙ c.in-Ok.ensures.new)));
      rest = rw (pushed, pushed_size)
          (nodes_next view names c.loop-index.sizes (place_in c.loop-index.places) c.deref-item-items.result.now c.loop-index.index c.item-item.result name
          c.in-Ok.size (omega arith) c.item-item.is inv.place inv.places c.in-Ok.ensures.node
          ∙ inv.rest);
    }
