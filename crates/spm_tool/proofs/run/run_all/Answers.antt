use Rattle.std.proofs.Common.{◌+◌, ◌∷◌, [], ◌++◌, length, All, ap, ◌∙◌, subst, sym, length-append}
use Rattle.std.proofs.lemmas.List.Elements.{All-push}
use Rattle.pub_term.specs.contracts.cause.CausePartialEq.TheImpl.{eq-value}
use Rattle.spm_session.specs.Outcome.{CanBeTold}
use Rattle.spm_tool.specs.declared.ending.RootRun.{RootRun}
use Rattle.spm_tool.specs.Jobs.{AreRunsOf, faulty_inputs}
use Rattle.spm_tool.specs.Left.{faulty_get, faulty_gets}
use Rattle.spm_tool.proofs.JobLemmas.{faulty_gets_more, faulty_inputs_more, runs_more}
use Rattle.spm_tool.proofs.run.run_all.Goals as goal

-- src/run.rt
pub loop-job-preserved : goal.loop-job-preserved
loop-job-preserved c =
    let before = c.loop-job.invariant in
    let done = c.loop-job.yielded in
    let runs = c.loop-job.runs in
    let job = c.in-Some.job in
    let run = c.run_of.result in
    let added = c.in_ok-push.ensures.ok in
    record {
      end = λ shelf is_book.
          subst (AreRunsOf eq-value.it shelf c.args.trust.now (done ++ job ∷ [])) (sym added)
          (runs_more eq-value.it shelf c.args.trust.now done runs job run (before.end shelf is_book) (c.run_of.ensures.end shelf is_book));
      each = ap length added ∙ length-append runs (run ∷ []) ∙ ap (λ n. n + 1) before.each ∙ sym (length-append done (job ∷ []));
      told = subst (All (λ (one : RootRun). CanBeTold one.outcome)) (sym added) (All-push (λ (one : RootRun). CanBeTold one.outcome) runs run before.told c.run_of.ensures.told);
      names =
          ap faulty_gets added ∙ faulty_gets_more runs run
          ∙ ap (λ names. names ++ faulty_get run.outcome) before.names
          ∙ ap (λ names. faulty_inputs done ++ names) c.run_of.ensures.names
          ∙ sym (faulty_inputs_more done job);
    }
