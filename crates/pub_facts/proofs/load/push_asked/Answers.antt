use Rattle.pub_facts.specs.Facts.{asked_under, load_of}
use Rattle.pub_facts.specs.Known.{lookups_of}
use Rattle.pub_facts.proofs.ListSteps.{map_step_of}
use Rattle.pub_facts.proofs.load.push_asked.Goals as goal

pub loop-condition-preserved : goal.loop-condition-preserved
loop-condition-preserved c =
    map_step_of (asked_under (lookups_of c.args.known.now) (load_of c.args.place.now.node c.args.place.now.choice) c.args.target.now c.args.ask.now.name)
    c.args.ask.now.under c.as_slice-condition-items.result.now c.loop-condition.condition-index c.condition-item.result c.in_ok-asked_under.field-0 c.loop-condition.clauses c.push-in-loop-condition.new.self _
    c.as_slice-condition-items.ensures c.loop-condition-test.true c.condition-item.is c.in_ok-asked_under.ensures c.in_ok-push.ensures.ok c.loop-condition.invariant
