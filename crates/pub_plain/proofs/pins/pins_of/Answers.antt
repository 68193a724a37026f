use Rattle.std.proofs.Common.{◌≡◌, ◌∙◌, ℕ, ap, length, rules, sym}
use Rattle.std.specs.List.{filter_map}
use Rattle.pub_trail.specs.First.{chosen}
use Rattle.pub_trail.specs.Required.{decision_in}
use Rattle.pub_plain.specs.Answers.{lookups_by}
use Rattle.pub_plain.specs.Derivation.{pin_at}
use Rattle.pub_plain.specs.Next.{choice_or_none}
use Rattle.pub_plain.specs.Told.{answers_to}
use Rattle.pub_plain.proofs.PinnedLemmas.{decided_chosen, found_end, found_step}
use Rattle.pub_plain.proofs.pins.pins_of.Goals as goal

pub loop-node-preserved : goal.loop-node-preserved
loop-node-preserved c = λ state names newest.
    let l = lookups_by (answers_to c.args.told.now) in
    let trail = c.args.trail.now in
    let decided : (number : ℕ) → choice_or_none (decision_in c.deref.result.now number) ≡ chosen state.trail number
    = λ number. ap (λ items. choice_or_none (decision_in items number)) c.deref.ensures.value
    ∙ decided_chosen (length c.args.told.now.known.nodes) trail c.in_ok-decided.decided.items
    (search rules) c.requires.there number
    ∙ ap (λ t. chosen t number) (sym newest) in
    found_step (pin_at l state) c.args.nodes.now c.loop-node.node-index c.node-item.result c.in_ok-found.found c.loop-node.pins c.push_found.new.pins
    (filter_map (pin_at l state) c.args.nodes.now) c.loop-node-test.true c.node-item.is (c.in_ok-found.ensures state names decided)
    c.in_ok-push_found.ensures (c.loop-node.invariant state names newest)

pub returns : goal.returns
returns c = λ state names newest.
    let l = lookups_by (answers_to c.args.told.now) in
    found_end (pin_at l state) c.args.nodes.now c.loop-node.node-index c.loop-node.pins (filter_map (pin_at l state) c.args.nodes.now)
    c.loop-node-test.false (c.loop-node.invariant state names newest)
