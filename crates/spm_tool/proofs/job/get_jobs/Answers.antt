use Rattle.std.proofs.Common.{◌≡◌, ◌+◌, ◌∷◌, [], ◌++◌, length, take, map, string_bytes, All, ap, ◌∙◌, subst, sym, length-append}
use Rattle.std.proofs.lemmas.List.{take_more}
use Rattle.std.proofs.lemmas.List.Elements.{All-push}
use Rattle.std.proofs.lemmas.Result.{err_from_is_err_and}
use Rattle.std.specs.Prelude.{IfOk, IfSome}
use Rattle.spm_session.specs.Run.{IsInput}
use Rattle.spm_session.specs.declared.job.RootJob.{RootJob}
use Rattle.spm_tool.specs.Jobs.{AreJobsOf, IsJobOf, faulty_input, faulty_inputs}
use Rattle.spm_tool.specs.Left.{FaultsLeft}
use Rattle.spm_tool.specs.WordsView.{order_view}
use Rattle.spm_tool.proofs.FaultLemmas.{faults_on}
use Rattle.spm_tool.proofs.JobLemmas.{faulty_inputs_more, jobs_told}
use Rattle.spm_tool.proofs.PutLemmas.{at_root, below_map}
use Rattle.spm_tool.proofs.job.get_jobs.Goals as goal

-- src/job.rt
pub returns-in_err-get_job-clause-faults : goal.returns-in_err-get_job-clause-faults
returns-in_err-get_job-clause-faults g c =
    let old = g.D.Desk.state c.args.desk.now in
    let between = g.D.Desk.state c.loop-root.desk in
    let new = g.D.Desk.state c.get_job.new.desk in
    let names = faulty_inputs c.loop-root.jobs ++ [] in
    let exit = err_from_is_err_and c.from_residual.result c.from_residual.ensures.1 in (
      names,
      faults_on (faulty_inputs c.loop-root.jobs) [] old between new c.loop-root.invariant.faults c.in_err-get_job.ensures.faults,
      subst (λ r. IfOk r (λ jobs. names ≡ faulty_inputs jobs)) (sym exit.1) tt,
    )

pub returns-in_err-push-clause-faults : goal.returns-in_err-push-clause-faults
returns-in_err-push-clause-faults g c =
    let old = g.D.Desk.state c.args.desk.now in
    let between = g.D.Desk.state c.loop-root.desk in
    let new = g.D.Desk.state c.get_job.new.desk in
    let job = c.in_ok-get_job.field-0 in
    let names = faulty_inputs c.loop-root.jobs ++ faulty_input job.input in
    let exit = err_from_is_err_and c.from_residual-in_err-push.result c.from_residual-in_err-push.ensures.1 in (
      names,
      faults_on (faulty_inputs c.loop-root.jobs) (faulty_input job.input) old between new c.loop-root.invariant.faults c.in_ok-get_job.ensures.faults,
      subst (λ r. IfOk r (λ jobs. names ≡ faulty_inputs jobs)) (sym exit.1) tt,
    )

pub loop-root-preserved : goal.loop-root-preserved
loop-root-preserved g c =
    let old = g.D.Desk.state c.args.desk.now in
    let between = g.D.Desk.state c.loop-root.desk in
    let new = g.D.Desk.state c.get_job.new.desk in
    let before = c.loop-root.invariant in
    let order = order_view c.args.order.now in
    let texts = map string_bytes c.args.order.now.roots.now in
    let place = c.loop-root.root-index in
    let root = string_bytes c.root-item.result in
    let jobs = c.loop-root.jobs in
    let job = c.in_ok-get_job.field-0 in
    let added = c.in_ok-push.ensures.ok in
    let next : take (place + 1) texts ≡ take place texts ++ root ∷ []
    = take_more texts place root (below_map string_bytes c.args.order.now.roots.now place c.root-item.result c.loop-root-test.true)
    ∙ ap (λ one. take place texts ++ one ∷ [])
    (at_root string_bytes c.args.order.now.roots.now place c.root-item.result c.loop-root-test.true c.root-item.is) in
    record {
      told = subst (λ all. IfSome old.files (λ files. AreJobsOf order files all c.push.new.self)) (sym next)
          (subst (λ all. IfSome old.files (λ files. AreJobsOf order files (take place texts ++ root ∷ []) all)) (sym added)
          (jobs_told old.files order (take place texts) jobs root job before.told
          (subst (λ told. IfSome told (λ files. IsJobOf order files root job)) before.files
          (subst (λ r. IfSome between.files (λ files. IsJobOf order files r job)) c.as_str.ensures.value c.in_ok-get_job.ensures.told))));
      each = ap length added ∙ length-append jobs (job ∷ []) ∙ ap (λ n. n + 1) before.each;
      inputs = subst (All (λ (one : RootJob). IsInput one.input)) (sym added) (All-push (λ (one : RootJob). IsInput one.input) jobs job before.inputs c.in_ok-get_job.ensures.input);
      faults = subst (λ names. FaultsLeft names old new) (sym (ap faulty_inputs added ∙ faulty_inputs_more jobs job))
          (faults_on (faulty_inputs jobs) (faulty_input job.input) old between new before.faults c.in_ok-get_job.ensures.faults);
      files = c.get_job.ensures.files ∙ before.files;
    }
