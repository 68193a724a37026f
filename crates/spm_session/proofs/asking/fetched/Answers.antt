use Rattle.std.proofs.Common.{sym, subst}
use Rattle.spm_session.specs.Run.{EndsBy}
use Rattle.spm_session.proofs.SourceLemmas.{missed_ends}
use Rattle.spm_session.proofs.asking.fetched.Goals as goal

-- src/asking.rt
pub returns-in-Ok-clause-wider : goal.returns-in-Ok-clause-wider
returns-in-Ok-clause-wider g c = g.S.Source.keeps _ _ c.in-Ok.ensures.goes

pub returns-in-Err-clause-err : goal.returns-in-Err-clause-err
returns-in-Err-clause-err g c = (c.in-Err.why, c.missed.ensures)

pub returns-in-Err-clause-went : goal.returns-in-Err-clause-went
returns-in-Err-clause-went g c =
    subst (EndsBy g.S.Source.goes g.S.Source.misses _ _) (sym c.missed.ensures)
    (missed_ends g.S.Source.goes g.S.Source.misses _ _ c.args.key c.in-Err.why c.in-Err.ensures.misses)

pub returns-in-Err-clause-wider : goal.returns-in-Err-clause-wider
returns-in-Err-clause-wider g c = g.S.Source.keeps_missed _ _ c.args.key c.in-Err.why c.in-Err.ensures.misses
