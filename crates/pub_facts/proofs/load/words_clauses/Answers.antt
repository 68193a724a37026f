use Rattle.pub_facts.specs.Facts.{words_ask}
use Rattle.pub_facts.proofs.ListSteps.{map_step_of}
use Rattle.pub_facts.proofs.load.words_clauses.Goals as goal

pub loop-name-preserved : goal.loop-name-preserved
loop-name-preserved c =
    map_step_of words_ask c.args.known.now.asked c.as_slice-name-items.result.now c.loop-name.name-index c.name-item.result c.in_ok-words_ask.field-0 c.loop-name.clauses c.push.new.self _
    c.as_slice-name-items.ensures c.loop-name-test.true c.name-item.is c.in_ok-words_ask.ensures c.in_ok-push.ensures.ok c.loop-name.invariant
