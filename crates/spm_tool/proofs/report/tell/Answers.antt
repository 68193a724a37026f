use Rattle.std.proofs.Common.{Some, ◌≡◌, ◌∙◌, subst}
use Rattle.spm_outside.specs.Sink.{PutsAll}
use Rattle.spm_tool.proofs.report.tell.Goals as goal

pub returns-in-Ok : goal.returns-in-Ok
returns-in-Ok g c = λ text made.
    let is : c.in-Ok.report ≡ text = rw c.in-Ok.is at made in
    record {
      answer = Some c.put_all.result;
      told = (
        record {
          written =
              subst (λ bytes. PutsAll c.put_all.result bytes (g.O.Sink.state c.args.out.now).written (g.O.Sink.state c.put_all.new.sink).written)
              (c.as_slice.ensures ∙ is) c.put_all.ensures.written;
          faults = c.put_all.ensures.faults;
        },
        c.status_after.ensures,
      );
    }
