use Rattle.std.proofs.Common.{◌≡◌, All, length, take, map, string_bytes}
use Rattle.std.specs.Prelude.{IfSome}
use Rattle.spm_session.specs.Run.{IsInput}
use Rattle.spm_session.specs.declared.job.RootJob.{RootJob}
use Rattle.spm_tool.specs.Jobs.{AreJobsOf, faulty_inputs}
use Rattle.spm_tool.specs.Left.{FaultsLeft}
use Rattle.spm_tool.specs.WordsView.{order_view}
use Rattle.spm_tool.proofs.job.get_jobs.Given as goal

-- the jobs of the roots so far
abbrev pub invariant-loop-root : goal.invariant-loop-root
invariant-loop-root g l = record {
  told : IfSome (g.D.Desk.state l.fn.desk).files (λ files. AreJobsOf (order_view l.order) files (take l.root-index (map string_bytes l.order.roots.now)) l.jobs);
  each : length l.jobs ≡ l.root-index;
  inputs : All (λ (job : RootJob). IsInput job.input) l.jobs;
  faults : FaultsLeft (faulty_inputs l.jobs) (g.D.Desk.state l.fn.desk) (g.D.Desk.state l.desk);
  files : (g.D.Desk.state l.desk).files ≡ (g.D.Desk.state l.fn.desk).files;
}
