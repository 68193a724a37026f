use Rattle.spm_session.proofs.ArchiveLemmas.{looks_wider, pin_looks, pin_stopped}
use Rattle.spm_session.proofs.SourceLemmas.{then_goes}
use Rattle.spm_session.proofs.archives.look_at_pin.Goals as goal

-- src/archives.rt
pub returns-in-Ok-clause-looks : goal.returns-in-Ok-clause-looks
returns-in-Ok-clause-looks g c =
    pin_looks (g.S.Source.knows c.look_at_archive.new.source) c.args.trust.now c.args.pin.now c.in-Ok.checksum c.look_at_archive.result
    (looks_wider _ _ c.look_at_archive.ensures.wider _ _ _ c.in-Ok.ensures.looks) c.look_at_archive.ensures.looks

pub returns-in-Ok-clause-went : goal.returns-in-Ok-clause-went
returns-in-Ok-clause-went g c =
    then_goes g.S.Source.goes g.S.Source.misses _ _ _ (g.S.Source.onward _ _ _) (λ asked why. g.S.Source.then_misses _ _ _ asked why)
    c.look_at_archive.result c.in-Ok.ensures.went c.look_at_archive.ensures.went

pub returns-in-Ok-clause-wider : goal.returns-in-Ok-clause-wider
returns-in-Ok-clause-wider g c = λ asked reply has. c.look_at_archive.ensures.wider asked reply (c.look_at_release.ensures.wider asked reply has)

pub returns-in-Err-clause-looks : goal.returns-in-Err-clause-looks
returns-in-Err-clause-looks g c =
    pin_stopped (g.S.Source.knows c.look_at_release.new.source) c.args.trust.now c.args.pin.now c.in-Err.outcome c.in-Err.ensures.looks
