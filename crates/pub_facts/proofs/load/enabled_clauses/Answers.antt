use Rattle.pub_facts.specs.Facts.{enables, load_of}
use Rattle.pub_facts.specs.Known.{lookups_of}
use Rattle.pub_facts.proofs.ListSteps.{map_step}
use Rattle.pub_facts.proofs.load.enabled_clauses.Goals as goal

pub loop-other-preserved : goal.loop-other-preserved
loop-other-preserved c =
    map_step (enables (lookups_of c.args.known.now) (load_of c.args.place.now.node c.args.place.now.choice))
    c.args.enabled.now c.loop-other.other-index c.other-item.result c.in_ok-enables.field-0 c.loop-other.clauses c.push.new.self _
    c.loop-other-test.true c.other-item.is c.in_ok-enables.ensures c.in_ok-push.ensures.ok c.loop-other.invariant
