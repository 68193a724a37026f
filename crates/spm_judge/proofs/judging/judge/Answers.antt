use Rattle.spm_judge.specs.Held.{says_of}
use Rattle.spm_judge.proofs.JudgingLemmas.{judged_memory, refuses_if_err, valid_if_ok}
use Rattle.spm_judge.proofs.judging.judge.Goals as goal

pub returns-in-Ok-clause-valid : goal.returns-in-Ok-clause-valid
returns-in-Ok-clause-valid g c =
    valid_if_ok (record { root = c.args.root.now; asked = c.args.asked.now; tools = c.args.tools }) (says_of (g.R.Replies.held c.args.replies.now))
    c.args.pins.now c.in-Ok.judgement c.in-Ok.ensures

pub returns-in-Ok-clause-invalid : goal.returns-in-Ok-clause-invalid
returns-in-Ok-clause-invalid g c =
    refuses_if_err (record { root = c.args.root.now; asked = c.args.asked.now; tools = c.args.tools }) (says_of (g.R.Replies.held c.args.replies.now))
    c.args.pins.now c.in-Ok.judgement c.requires c.in-Ok.ensures

pub returns-in-Err-clause-judged : goal.returns-in-Err-clause-judged
returns-in-Err-clause-judged g c =
    judged_memory (record { root = c.args.root.now; asked = c.args.asked.now; tools = c.args.tools }) (says_of (g.R.Replies.held c.args.replies.now))
    c.args.pins.now
