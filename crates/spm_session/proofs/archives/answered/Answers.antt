use Rattle.std.proofs.Common.{sym, subst}
use Rattle.spm_session.specs.Outcome.{IsNoFault}
use Rattle.spm_session.specs.Run.{IsUnanswered}
use Rattle.spm_session.proofs.ArchiveLemmas.{refuses, wants}
use Rattle.spm_session.proofs.SourceLemmas.{quiet_ends, refused_quiet}
use Rattle.spm_session.proofs.archives.answered.Goals as goal

-- src/archives.rt
pub returns-in-Err-clause-err : goal.returns-in-Err-clause-err
returns-in-Err-clause-err g c =
    wants (g.S.Source.knows c.fetched.new.source) c.args.key c.in-Err.outcome c.in-Err.ensures.err

pub returns-in-Err-said-clause-err : goal.returns-in-Err-said-clause-err
returns-in-Err-said-clause-err g c =
    let known = g.S.Source.knows c.fetched.new.source in
    let key = c.in-Ok.found.0 in
    let reply = c.reply-2.result.now in
    subst (λ k. IsUnanswered known k c.refused.result) c.in-Ok.ensures.key
    (subst (IsUnanswered known key) (sym c.refused.ensures)
    (refuses known key reply c.in-Err-said.fault
    (subst (known key) (sym c.reply-2.ensures) (subst (λ k. known k c.in-Ok.found.1) (sym c.in-Ok.ensures.key) c.in-Ok.ensures.known))
    c.in-Err-said.ensures))

pub returns-in-Err-said-clause-went : goal.returns-in-Err-said-clause-went
returns-in-Err-said-clause-went g c =
    quiet_ends g.S.Source.goes g.S.Source.misses _ _ c.refused.result
    (subst IsNoFault (sym c.refused.ensures) (refused_quiet c.in-Ok.found.0 c.in-Err-said.fault)) c.in-Ok.ensures.went
