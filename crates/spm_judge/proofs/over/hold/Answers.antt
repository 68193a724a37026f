use Rattle.std.proofs.Common.{◌∙◌, ap, sym}
use Rattle.spm_judge.specs.Held.{held_in, is_held}
use Rattle.spm_judge.proofs.OverLemmas.{put_from, put_more}
use Rattle.spm_judge.proofs.over.hold.Goals as goal

pub returns-clause-more : goal.returns-clause-more
returns-clause-more g c =
    put_more (held_in c.args.held.now) (held_in c.put.new.self) c.in_ok-key.key c.in-Ok.reply
    (ap (is_held (held_in c.args.held.now)) c.in_ok-key.ensures ∙ (sym c.is_held.ensures ∙ c.if-is_held.false)) c.in_ok-put.ensures.ok

pub returns-clause-from : goal.returns-clause-from
returns-clause-from g c =
    put_from (g.L.Link.state c.args.link.now).book c.args.base.now (held_in c.args.held.now) (held_in c.put.new.self) c.in_ok-key.key c.in-Ok.reply
    c.in_ok-put.ensures.ok c.in-Ok.ensures.reply
