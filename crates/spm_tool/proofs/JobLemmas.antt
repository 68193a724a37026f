-- The roots, one after the other: their jobs, and what these come to.
use Rattle.std.proofs.Common.{◌≡◌, ℕ, suc, List, [], ◌∷◌, ◌++◌, length, Bool, Option, Some, None, Result, Ok, Err, refl, sym, ap, ◌∙◌, subst, append_assoc, append-nil}
use Rattle.std.specs.Prelude.{IfOk, IfSome}
use Rattle.pub_term.specs.declared.cause.Cause.{Cause}
use Rattle.spm_api.specs.declared.base.Base.{Base}
use Rattle.spm_outside.specs.Book.{Pages}
use Rattle.spm_outside.specs.Names.{FileMap}
use Rattle.spm_session.specs.Archives.{Fingerprints}
use Rattle.spm_session.specs.declared.job.RootJob.{RootJob}
use Rattle.spm_shelf.specs.declared.file.ShelfFile.{ShelfFile}
use Rattle.spm_tool.specs.Ending.{AreRootRuns, origin_in}
use Rattle.spm_tool.specs.Jobs.{AreJobsOf, AreRunsOf, IsJobOf, IsRunOf, faulty_input, faulty_inputs}
use Rattle.spm_tool.specs.Left.{faulty_get, faulty_gets}
use Rattle.spm_tool.specs.Shelf.{IsBookOf, IsShelfOutcome}
use Rattle.spm_tool.specs.Words.{Order}
use Rattle.spm_tool.specs.declared.ending.RootRun.{RootRun}

-- ---- jobs

pub jobs_more : (order : Order) (files : FileMap) (roots : List (List ℕ)) (jobs : List RootJob) (root : List ℕ) (job : RootJob)
    → AreJobsOf order files roots jobs → IsJobOf order files root job → AreJobsOf order files (roots ++ root ∷ []) (jobs ++ job ∷ [])
jobs_more order files [] [] root job are is = (is, tt)
jobs_more order files (first ∷ roots) (one ∷ jobs) root job are is = (are.0, jobs_more order files roots jobs root job are.1 is)
jobs_more order files [] (one ∷ jobs) root job are is = absurd are
jobs_more order files (first ∷ roots) [] root job are is = absurd are

pub faulty_inputs_more : (jobs : List RootJob) (job : RootJob) → faulty_inputs (jobs ++ job ∷ []) ≡ faulty_inputs jobs ++ faulty_input job.input
faulty_inputs_more [] job = append-nil (faulty_input job.input)
faulty_inputs_more (one ∷ jobs) job =
    ap (λ names. faulty_input one.input ++ names) (faulty_inputs_more jobs job)
    ∙ sym (append_assoc (faulty_input one.input) (faulty_inputs jobs) (faulty_input job.input))

pub jobs_each : (order : Order) (files : FileMap) (roots : List (List ℕ)) (jobs : List RootJob) → AreJobsOf order files roots jobs → length jobs ≡ length roots
jobs_each order files [] [] are = refl
jobs_each order files (root ∷ roots) (job ∷ jobs) are = ap (λ n. suc n) (jobs_each order files roots jobs are.1)
jobs_each order files [] (job ∷ jobs) are = absurd are
jobs_each order files (root ∷ roots) [] are = absurd are

-- ---- runs

pub runs_each : (same : Cause → Cause → Bool) (shelf : ShelfFile) (fingerprints : Fingerprints) (jobs : List RootJob) (runs : List RootRun)
    → AreRunsOf same shelf fingerprints jobs runs → length runs ≡ length jobs
runs_each same shelf fingerprints [] [] are = refl
runs_each same shelf fingerprints (job ∷ jobs) (run ∷ runs) are = ap (λ n. suc n) (runs_each same shelf fingerprints jobs runs are.1)
runs_each same shelf fingerprints [] (run ∷ runs) are = absurd are
runs_each same shelf fingerprints (job ∷ jobs) [] are = absurd are

module _ (same : Cause → Cause → Bool) (shelf : ShelfFile) (fingerprints : Fingerprints) where
  pub runs_more : (jobs : List RootJob) (runs : List RootRun) (job : RootJob) (run : RootRun) → AreRunsOf same shelf fingerprints jobs runs
      → IsRunOf same shelf fingerprints job run → AreRunsOf same shelf fingerprints (jobs ++ job ∷ []) (runs ++ run ∷ [])
  runs_more [] [] job run are is = (is, tt)
  runs_more (one ∷ jobs) (other ∷ runs) job run are is = (are.0, runs_more jobs runs job run are.1 is)
  runs_more [] (other ∷ runs) job run are is = absurd are
  runs_more (one ∷ jobs) [] job run are is = absurd are

  -- each root by its files
  pub root_runs : (order : Order) (files : FileMap) (roots : List (List ℕ)) (jobs : List RootJob) (runs : List RootRun) → AreJobsOf order files roots jobs
      → AreRunsOf same shelf fingerprints jobs runs → AreRootRuns same shelf fingerprints order files roots runs
  root_runs order files [] [] [] jobs_are runs_are = tt
  root_runs order files (root ∷ roots) (job ∷ jobs) (run ∷ runs) jobs_are runs_are = (
    record {
      it = jobs_are.0.0;
      is = jobs_are.0.1;
      origin = runs_are.0.origin ∙ ap (λ (j : RootJob). origin_in j.input) jobs_are.0.2;
      comes = subst (λ j. IsShelfOutcome same shelf fingerprints j run.outcome) jobs_are.0.2 runs_are.0.comes;
      quiet = runs_are.0.quiet;
    },
    root_runs order files roots jobs runs jobs_are.1 runs_are.1,
  )
  root_runs order files [] [] (run ∷ runs) jobs_are runs_are = absurd runs_are
  root_runs order files [] (job ∷ jobs) runs jobs_are runs_are = absurd jobs_are
  root_runs order files (root ∷ roots) [] runs jobs_are runs_are = absurd jobs_are
  root_runs order files (root ∷ roots) (job ∷ jobs) [] jobs_are runs_are = absurd runs_are

pub faulty_gets_more : (runs : List RootRun) (run : RootRun) → faulty_gets (runs ++ run ∷ []) ≡ faulty_gets runs ++ faulty_get run.outcome
faulty_gets_more [] run = append-nil (faulty_get run.outcome)
faulty_gets_more (one ∷ runs) run =
    ap (λ names. faulty_get one.outcome ++ names) (faulty_gets_more runs run)
    ∙ sym (append_assoc (faulty_get one.outcome) (faulty_gets runs) (faulty_get run.outcome))

-- ---- where a desk tells its files

pub jobs_told : (told : Option FileMap) (order : Order) (roots : List (List ℕ)) (jobs : List RootJob) (root : List ℕ) (job : RootJob)
    → IfSome told (λ files. AreJobsOf order files roots jobs) → IfSome told (λ files. IsJobOf order files root job)
    → IfSome told (λ files. AreJobsOf order files (roots ++ root ∷ []) (jobs ++ job ∷ []))
jobs_told None order roots jobs root job are is = tt
jobs_told (Some files) order roots jobs root job are is = jobs_more order files roots jobs root job are is

pub runs_told : {E : Type 0} (same : Cause → Cause → Bool) (shelf : ShelfFile) (fingerprints : Fingerprints) (base : Base) (pages : Pages) (order : Order)
    (roots : List (List ℕ)) (jobs : List RootJob) (told : Option FileMap) (result : Result (List RootRun) E)
    → IfSome told (λ files. AreJobsOf order files roots jobs)
    → IfOk result (λ runs. (one : ShelfFile) → IsBookOf one base pages → AreRunsOf same one fingerprints jobs runs) → IsBookOf shelf base pages
    → IfSome told (λ files. IfOk result (λ runs. AreRootRuns same shelf fingerprints order files roots runs))
runs_told same shelf fingerprints base pages order roots jobs None result jobs_are runs_are book = tt
runs_told same shelf fingerprints base pages order roots jobs (Some files) (Ok runs) jobs_are runs_are book =
    root_runs same shelf fingerprints order files roots jobs runs jobs_are (runs_are shelf book)
runs_told same shelf fingerprints base pages order roots jobs (Some files) (Err want) jobs_are runs_are book = tt
