use Rattle.std.proofs.Common.{sym, subst}
use Rattle.spm_session.specs.Run.{IsRun}
use Rattle.spm_session.proofs.RunLemmas.{run_opens}
use Rattle.spm_session.proofs.run.resolve.Goals as goal

-- src/run.rt
pub turn_on-requires-clause-run : goal.turn_on-requires-clause-run
turn_on-requires-clause-run g c =
    subst (IsRun (g.S.Source.knows c.args.source.now)) (sym c.in-Ok.ensures) (run_opens (g.S.Source.knows c.args.source.now) _ _)
