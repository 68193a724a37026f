use Rattle.std.proofs.Common.{Err, subst, sym}
use Rattle.std.proofs.lemmas.Result.{err_from_is_err_and}
use Rattle.spm_flight.specs.Work.{LeavesLanded, Obtains}
use Rattle.spm_flight.proofs.FlownLemmas.{obtained, unfetched, unshared}
use Rattle.spm_flight.proofs.flight.obtain.Goals as goal

-- src/flight.rt
pub returns-in_err-shared_by_two-in-Ok-clause-leaves : goal.returns-in_err-shared_by_two-in-Ok-clause-leaves
returns-in_err-shared_by_two-in-Ok-clause-leaves g c =
    let old = g.L.Link.state c.args.link.now in
    let new = g.L.Link.state c.fetch-fetched.new.link in
    let base = c.args.run.now.base.now in
    let exit = err_from_is_err_and c.from_residual-in_err-shared_by_two-in-Ok.result c.from_residual-in_err-shared_by_two-in-Ok.ensures.1 in
    subst (λ k. Obtains base k c.from_residual-in_err-shared_by_two-in-Ok.result old new) c.key-key.ensures
    (subst (λ found. Obtains base c.key-key.result.now found old new) (sym exit.1)
    (subst (λ why. Obtains base c.key-key.result.now (Err why) old new) (sym exit.2)
    (unshared base c.key-key.result.now old new c.in-Ok.ensures.book c.in-Ok.ensures.calls c.in-Ok.ensures.faults)))

pub returns-in-Ok-clause-leaves : goal.returns-in-Ok-clause-leaves
returns-in-Ok-clause-leaves g c =
    let old = g.L.Link.state c.args.link.now in
    let new = g.L.Link.state c.fetch-fetched.new.link in
    let base = c.args.run.now.base.now in
    let kept = c.in_ok-shared_by_two-in-Ok.field-0.0 in
    subst (λ k. LeavesLanded base k kept old new) c.key-key.ensures
    (obtained base c.key-key.result.now old new c.in-Ok.ensures.book c.in-Ok.reply kept c.in_ok-shared_by_two-in-Ok.ensures.0 c.in-Ok.ensures.reply
    c.in-Ok.ensures.calls c.in-Ok.ensures.faults)

pub returns-clause-leaves : goal.returns-clause-leaves
returns-clause-leaves g c =
    let old = g.L.Link.state c.args.link.now in
    let new = g.L.Link.state c.fetch-fetched.new.link in
    let base = c.args.run.now.base.now in
    subst (λ k. Obtains base k (Err c.in-Err.fault) old new) c.key-key.ensures
    (unfetched base c.key-key.result.now old new c.in-Err.ensures.book c.in-Err.fault c.in-Err.ensures.calls c.in-Err.ensures.faults)
