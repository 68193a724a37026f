use Rattle.spm_worker.proofs.RoundLemmas.{flown_last, flown_more}
use Rattle.spm_worker.proofs.worker.fly_once.Goals as goal

-- src/worker.rt
pub returns-clause-more : goal.returns-clause-more
returns-clause-more g c =
    flown_more c.args.run.now.base.now (g.L.Link.state c.args.link.now) (g.L.Link.state c.fly-flown.new.link) c.args.pass.now c.fly-flown.new.pass
    c.args.ticket c.fly-flown.result c.end_after.result c.end_after.ensures c.fly-flown.ensures.does

pub returns-clause-last : goal.returns-clause-last
returns-clause-last g c =
    flown_last c.args.run.now.base.now (g.L.Link.state c.args.link.now) (g.L.Link.state c.fly-flown.new.link) c.args.pass.now c.fly-flown.new.pass
    c.args.ticket c.fly-flown.result c.end_after.result c.end_after.ensures c.fly-flown.ensures.does
