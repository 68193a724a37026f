use Rattle.spm_judge.specs.Held.{says_of}
use Rattle.spm_judge.proofs.LoopLemmas.{ended, falls, opened, passed_on}
use Rattle.spm_judge.proofs.spread.nodes_on.Goals as goal

pub loop-on-init : goal.loop-on-init
loop-on-init g c =
    opened c.args.root.now c.args.asked.now (says_of (g.R.Replies.held c.args.replies.now)) c.args.pinned.now c.in_ok-on.on.keys c.in_ok-on.ensures

pub returns-then-len-before : goal.returns-then-len-before
returns-then-len-before g c =
    ended c.args.root.now c.args.asked.now (says_of (g.R.Replies.held c.args.replies.now)) c.args.pinned.now c.loop-on.on.keys c.spread.new.on.keys
    c.in_ok-spread.ensures c.len-before.result c.len.result c.len-before.ensures.len c.len.ensures.len c.if-len-before.true c.loop-on.invariant
    c.len.ensures.ordered

pub loop-on-smaller : goal.loop-on-smaller
loop-on-smaller g c =
    falls c.args.root.now c.args.asked.now (says_of (g.R.Replies.held c.args.replies.now)) c.args.pinned.now c.loop-on.on.keys c.spread.new.on.keys
    c.in_ok-spread.ensures c.len-before.result c.len.result c.len-before.ensures.len c.len.ensures.len c.if-len-before.false

pub loop-on-preserved : goal.loop-on-preserved
loop-on-preserved g c =
    passed_on c.args.root.now c.args.asked.now (says_of (g.R.Replies.held c.args.replies.now)) c.args.pinned.now c.loop-on.on.keys c.spread.new.on.keys
    c.in_ok-spread.ensures c.loop-on.invariant
