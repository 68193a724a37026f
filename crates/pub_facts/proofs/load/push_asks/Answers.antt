use Rattle.pub_facts.specs.Facts.{asks_of, load_of}
use Rattle.pub_facts.specs.Known.{lookups_of}
use Rattle.spm_manifest.specs.declared.need.Ask.{Ask}
use Rattle.pub_facts.proofs.ListSteps.{flat_step}
use Rattle.pub_facts.proofs.load.push_asks.Goals as goal

pub loop-ask-preserved : goal.loop-ask-preserved
loop-ask-preserved c =
    flat_step (λ (ask : Ask). asks_of (lookups_of c.args.known.now) (load_of c.args.place.now.node c.args.place.now.choice) c.args.target.now ask.name ask.under)
    c.args.asks.now c.loop-ask.ask-index c.ask-item.result c.loop-ask.clauses c.push_asked.new.clauses _ c.loop-ask-test.true c.ask-item.is
    c.in_ok-push_asked.ensures c.loop-ask.invariant
