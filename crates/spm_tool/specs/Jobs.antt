-- The steps from the roots' files to their outcomes: jobs, and what each comes to.
use Rattle.std.specs.Prelude.{◌≡◌, ℕ, List, [], ◌∷◌, ◌++◌, Bool, Result, Ok, Err}
use Rattle.pub_term.specs.declared.cause.Cause.{Cause}
use Rattle.spm_outside.specs.Names.{FileMap}
use Rattle.spm_session.specs.Archives.{Fingerprints}
use Rattle.spm_session.specs.Outcome.{IsNoFault}
use Rattle.spm_session.specs.declared.job.RootInput.{RootInput}
use Rattle.spm_session.specs.declared.job.RootInput.TheVariants as input
use Rattle.spm_session.specs.declared.job.RootJob.{RootJob}
use Rattle.spm_session.specs.declared.outcome.Outcome.{Outcome}
use Rattle.spm_shelf.specs.declared.file.ShelfFile.{ShelfFile}
use Rattle.spm_tool.specs.Ending.{origin_in}
use Rattle.spm_tool.specs.Files.{IsInputOf, asked_by, job_with}
use Rattle.spm_tool.specs.Left.{faulty_get}
use Rattle.spm_tool.specs.Shelf.{IsShelfOutcome}
use Rattle.spm_tool.specs.Words.{Order}
use Rattle.spm_tool.specs.declared.ending.RootRun.{RootRun}

-- ---- jobs

-- its files weren't refused
abbrev pub IsReady : RootInput → Type 0
IsReady (input.Ready contents origin pins) = Unit {0}
IsReady (input.Refused it) = ⊥

-- what a root's files come to: its input and the traits that are asked of it, or its refusal
abbrev pub ReadsRoot : Order → FileMap → List ℕ → Result (RootInput × List (List ℕ)) Outcome → Type 0
ReadsRoot order files root (Ok found) = IsInputOf order.tools root files found.0 × (found.1 ≡ asked_by order.traits found.0)
ReadsRoot order files root (Err it) = IsInputOf order.tools root files (input.Refused it)

-- a root's job by its files
abbrev pub IsJobOf : Order → FileMap → List ℕ → RootJob → Type 0
IsJobOf order files root job = (it : RootInput) × IsInputOf order.tools root files it × (job ≡ job_with order root it)

abbrev pub AreJobsOf : Order → FileMap → List (List ℕ) → List RootJob → Type 0
AreJobsOf order files [] [] = Unit {0}
AreJobsOf order files (root ∷ roots) (job ∷ jobs) = IsJobOf order files root job × AreJobsOf order files roots jobs
AreJobsOf order files roots jobs = ⊥

-- the files whose gets failed
abbrev pub faulty_input : RootInput → List (List ℕ)
faulty_input (input.Refused it) = faulty_get it
faulty_input (input.Ready contents origin pins) = []

abbrev pub faulty_in_job : {E : Type 0} → Result RootJob E → List (List ℕ)
faulty_in_job (Ok job) = faulty_input job.input
faulty_in_job (Err want) = []

abbrev pub faulty_inputs : List RootJob → List (List ℕ)
faulty_inputs [] = []
faulty_inputs (job ∷ jobs) = faulty_input job.input ++ faulty_inputs jobs

-- ---- outcomes

-- what a job comes to over the shelf's book
pub record IsRunOf (same : Cause → Cause → Bool) (shelf : ShelfFile) (fingerprints : Fingerprints) (job : RootJob) (run : RootRun) : Type 0 where
  pub origin : run.origin ≡ origin_in job.input
  pub comes : IsShelfOutcome same shelf fingerprints job run.outcome
  pub quiet : IsNoFault run.outcome

abbrev pub AreRunsOf : (Cause → Cause → Bool) → ShelfFile → Fingerprints → List RootJob → List RootRun → Type 0
AreRunsOf same shelf fingerprints [] [] = Unit {0}
AreRunsOf same shelf fingerprints (job ∷ jobs) (run ∷ runs) =
    IsRunOf same shelf fingerprints job run × AreRunsOf same shelf fingerprints jobs runs
AreRunsOf same shelf fingerprints jobs runs = ⊥
