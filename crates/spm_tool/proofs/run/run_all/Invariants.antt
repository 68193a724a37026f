use Rattle.std.proofs.Common.{◌≡◌, All, length}
use Rattle.pub_term.specs.contracts.cause.CausePartialEq.TheImpl.{eq-value}
use Rattle.spm_session.specs.Outcome.{CanBeTold}
use Rattle.spm_shelf.specs.declared.file.ShelfFile.{ShelfFile}
use Rattle.spm_tool.specs.Jobs.{AreRunsOf, faulty_inputs}
use Rattle.spm_tool.specs.Left.{faulty_gets}
use Rattle.spm_tool.specs.Shelf.{IsBookOf}
use Rattle.spm_tool.specs.declared.ending.RootRun.{RootRun}
use Rattle.spm_tool.proofs.run.run_all.Given as goal

-- what the jobs so far came to
abbrev pub invariant-loop-job : goal.invariant-loop-job
invariant-loop-job l = record {
  end : (shelf : ShelfFile) → IsBookOf shelf l.base l.book → AreRunsOf eq-value.it shelf l.trust l.yielded l.runs;
  each : length l.runs ≡ length l.yielded;
  told : All (λ (run : RootRun). CanBeTold run.outcome) l.runs;
  names : faulty_gets l.runs ≡ faulty_inputs l.yielded;
}
