use Rattle.std.proofs.Common.{◌-◌, ◌<◌, arith, refl, vec_len}
use Rattle.spm_outside.proofs.CallLemmas.{last_failed-set}
use Rattle.spm_outside.proofs.book_link.mark_last.Goals as goal

pub returns-in-Some : goal.returns-in-Some
returns-in-Some c =
    let calls = c.args.calls.now in
    let some : 0 < vec_len calls = c.in-Some.ensures.variant.0 refl in
    last_failed-set calls.items (vec_len calls - 1) c.in-Some.call.now (omega (arith, calls.ok.0)) c.in-Some.ensures.value
