use Rattle.std.proofs.Common.{◌∙◌}
use Rattle.spm_outside.proofs.PutLemmas.{within_more, written_more}
use Rattle.spm_server.proofs.serving.send.Goals as goal

pub loop-done-preserved : goal.loop-done-preserved
loop-done-preserved g c =
    let so_far = c.loop-done.invariant in
    let put = c.in_ok-done.ensures in
    record {
      within = within_more c.args.text.now c.loop-done.done c.in_ok-done.field-0 so_far.within put.takes.0;
      written = written_more _ _ _ c.args.text.now c.loop-done.done c.in_ok-done.field-0 so_far.written put.written;
      taken = put.taken ∙ so_far.taken;
      rest = put.rest ∙ so_far.rest;
      faults = put.faults ∙ so_far.faults;
    }
