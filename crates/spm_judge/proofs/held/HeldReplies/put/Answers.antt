use Rattle.spm_judge.proofs.PinnedLemmas.{reply_put}
use Rattle.spm_judge.proofs.held.HeldReplies.put.Goals as goal

pub returns-clause-ok : goal.returns-clause-ok
returns-clause-ok c =
    reply_put c.args.self.now.by_key c.insert.new.self c.args.key c.args.reply c.in_ok-insert.ensures.updates
