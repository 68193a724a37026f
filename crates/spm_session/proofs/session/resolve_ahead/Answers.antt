use Rattle.spm_session.proofs.session.resolve_ahead.Goals as goal
use Rattle.spm_session.proofs.SessionLemmas.{memory_ends, refusal_is, went_nowhere, went_on}

-- src/session.rt
pub returns-in-Ok-clause-went : goal.returns-in-Ok-clause-went
returns-in-Ok-clause-went g c =
    went_on g.L.Link.state c.args.source.now.ahead c.args.job.input c.args.source.now c.look_ahead_of_root.new.source c.resolve.new.source c.resolve.result
    c.look_ahead_of_root.ensures.same c.in-Ok.ensures.opens c.requires.input c.resolve.ensures.went
    (refusal_is _ _ c.args.trust.now c.args.job c.resolve.result c.resolve.ensures.end)

pub returns-in-Err-clause-end : goal.returns-in-Err-clause-end
returns-in-Err-clause-end g c = memory_ends _ _ c.args.trust.now c.args.job c.in-Err.ensures.of_ready

pub returns-in-Err-clause-went : goal.returns-in-Err-clause-went
returns-in-Err-clause-went g c =
    went_nowhere g.L.Link.state c.args.source.now.ahead c.args.job.input c.args.source.now c.look_ahead_of_root.new.source
    c.look_ahead_of_root.ensures.same c.in-Err.ensures.nothing
