use Rattle.std.proofs.Common.{◌≡◌, None, Err, sym, subst}
use Rattle.std.proofs.lemmas.Result.{err_from_is_err_and}
use Rattle.spm_api.specs.Refused.{reply_refusal}
use Rattle.spm_session.specs.Archives.{archive_key, archive_by, looked_at}
use Rattle.spm_session.specs.Outcome.{IsNoFault}
use Rattle.spm_session.specs.Run.{GoesBy, IsUnanswered, LooksFrom}
use Rattle.spm_session.proofs.ArchiveLemmas.{looks_by, looks_memory}
use Rattle.spm_session.proofs.SourceLemmas.{quiet_ends, quiet_goes}
use Rattle.spm_session.proofs.archives.look_at_archive.Goals as goal

-- src/archives.rt
pub returns-in_err-archive_key-clause-looks : goal.returns-in_err-archive_key-clause-looks
returns-in_err-archive_key-clause-looks g c =
    let known = g.S.Source.knows c.args.source.now in
    let asked = archive_key c.args.pin.now in
    let exit = err_from_is_err_and c.from_residual.result c.from_residual.ensures.1 in
    subst (LooksFrom known (λ other. other ≡ asked) (λ c'. looked_at c' asked (archive_by c.args.trust.now c.args.pin.now c.args.checksum))) (sym exit.1)
    (subst (λ it. LooksFrom known (λ other. other ≡ asked) (λ c'. looked_at c' asked (archive_by c.args.trust.now c.args.pin.now c.args.checksum)) (Err it)) (sym exit.2)
    (looks_memory known (λ other. other ≡ asked) (λ c'. looked_at c' asked (archive_by c.args.trust.now c.args.pin.now c.args.checksum))))

pub returns-in_err-archive_key-clause-went : goal.returns-in_err-archive_key-clause-went
returns-in_err-archive_key-clause-went g c =
    let exit = err_from_is_err_and c.from_residual.result c.from_residual.ensures.1 in
    subst (GoesBy g.S.Source.goes g.S.Source.misses _ _) (sym exit.1)
    (quiet_ends g.S.Source.goes g.S.Source.misses _ _ exit.0 (subst IsNoFault (sym exit.2) tt) (g.S.Source.stays _))

pub returns-in-Ok-clause-looks : goal.returns-in-Ok-clause-looks
returns-in-Ok-clause-looks g c =
    let known = g.S.Source.knows c.answered.new.source in
    let reply = c.reply-in-Ok.result.now in
    let same = c.in_ok-archive_key.ensures in
    looks_by known (archive_key c.args.pin.now) reply (archive_by c.args.trust.now c.args.pin.now c.args.checksum) c.archive_by.result
    (subst (λ k. known k reply) same (subst (known c.in_ok-archive_key.field-0) (sym c.reply-in-Ok.ensures) c.in-Ok.ensures.known))
    (subst (λ k. reply_refusal k reply ≡ None) same (subst (λ r. reply_refusal c.in_ok-archive_key.field-0 r ≡ None) (sym c.reply-in-Ok.ensures) c.in-Ok.ensures.answered)) c.archive_by.ensures.finds c.archive_by.ensures.quiet

pub returns-in-Ok-clause-went : goal.returns-in-Ok-clause-went
returns-in-Ok-clause-went g c =
    quiet_goes g.S.Source.goes g.S.Source.misses _ _ c.archive_by.result c.archive_by.ensures.quiet c.in-Ok.ensures.went

pub returns-in-Err-clause-looks : goal.returns-in-Err-clause-looks
returns-in-Err-clause-looks g c =
    subst (λ k. IsUnanswered (g.S.Source.knows c.answered.new.source) k c.in-Err.outcome) c.in_ok-archive_key.ensures c.in-Err.ensures.err
    (archive_by c.args.trust.now c.args.pin.now c.args.checksum)
