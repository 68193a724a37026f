use Rattle.pub_facts.specs.Catalogue.{target_of}
use Rattle.pub_plain.specs.Answers.{lookups_by}
use Rattle.spm_judge.specs.Heard.{contents_in}
use Rattle.spm_judge.specs.Held.{says_of}
use Rattle.spm_judge.specs.Spread.{spread_pin}
use Rattle.spm_judge.proofs.LoopLemmas.{each_step}
use Rattle.spm_judge.proofs.spread.spread.Goals as goal

pub loop-pin-preserved : goal.loop-pin-preserved
loop-pin-preserved g c =
    each_step
    (spread_pin (target_of (lookups_by (says_of (g.R.Replies.held c.args.replies.now)))) (contents_in c.args.root.now c.args.pinned.now))
    c.args.pinned.now c.loop-pin.pin-index c.pin-item.result c.loop-pin.on.keys c.spread_pin.new.on.keys _ c.loop-pin-test.true c.pin-item.is
    c.in_ok-spread_pin.ensures c.loop-pin.invariant
