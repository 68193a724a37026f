-- How a run ends, by the bytes of its files where no call of the desk fails and memory is ample.
use Rattle.std.specs.Prelude.{◌≡◌, ℕ, List, [], ◌∷◌, ◌++◌, Bool, is_some, not, Option, Some, None, Ok, Err, if◌then◌else◌}
use Rattle.std.specs.FinMap as map
use Rattle.std.specs.List.{list_any, zip}
use Rattle.pub_term.specs.declared.cause.Cause.{Cause}
use Rattle.spm_outside.specs.Names.{FileMap}
use Rattle.spm_session.specs.Archives.{Fingerprints, Pin}
use Rattle.spm_session.specs.Outcome.{IsNoFault}
use Rattle.spm_session.specs.declared.job.RootInput.{RootInput}
use Rattle.spm_session.specs.declared.job.RootInput.TheVariants as input
use Rattle.spm_session.specs.declared.outcome.Outcome.{Outcome}
use Rattle.spm_session.specs.declared.outcome.Outcome.TheVariants as outcome
use Rattle.spm_shelf.specs.declared.file.ShelfFile.{ShelfFile}
use Rattle.spm_trust.specs.Trust.{added, kept_in}
use Rattle.spm_tool.specs.Files.{IsInputOf, ReadsFingerprints, ReadsShelf, job_with}
use Rattle.spm_tool.specs.Puts.{IsPut, fingerprints_put, root_put}
use Rattle.spm_tool.specs.Shelf.{IsShelfOutcome}
use Rattle.spm_tool.specs.Words.{Order}
use Rattle.spm_tool.specs.declared.ending.Ending.{Ending}
use Rattle.spm_tool.specs.declared.ending.Ending.TheVariants as ending
use Rattle.spm_tool.specs.declared.ending.PutEnding.{PutEnding}
use Rattle.spm_tool.specs.declared.ending.PutEnding.TheVariants as put
use Rattle.spm_tool.specs.declared.ending.RootRun.{RootRun}

-- ---- a root

-- the sum of the manifest's bytes, by which a lock file names its origin; of a root that is refused there is none
abbrev pub origin_in : RootInput → Option (List ℕ)
origin_in (input.Ready contents origin pins) = Some origin
origin_in (input.Refused refusal) = None

-- what a root came to: its files give its job, and the job an outcome over the shelf's book beside the fingerprints
pub record IsRootRun (same : Cause → Cause → Bool) (shelf : ShelfFile) (fingerprints : Fingerprints) (order : Order) (files : FileMap)
    (root : List ℕ) (run : RootRun) : Type 0 where
  pub it : RootInput
  pub is : IsInputOf order.tools root files it
  pub origin : run.origin ≡ origin_in it
  pub comes : IsShelfOutcome same shelf fingerprints (job_with order root it) run.outcome
  pub quiet : IsNoFault run.outcome

-- one root after the other
abbrev pub AreRootRuns : (Cause → Cause → Bool) → ShelfFile → Fingerprints → Order → FileMap → List (List ℕ) → List RootRun → Type 0
AreRootRuns same shelf fingerprints order files [] [] = Unit {0}
AreRootRuns same shelf fingerprints order files (root ∷ roots) (run ∷ runs) =
    IsRootRun same shelf fingerprints order files root run × AreRootRuns same shelf fingerprints order files roots runs
AreRootRuns same shelf fingerprints order files [] (run ∷ runs) = ⊥
AreRootRuns same shelf fingerprints order files (root ∷ roots) [] = ⊥

-- ---- the fingerprints that are gained

-- the pins of a root that was resolved, each with the sum of its archive
abbrev pub sums_of : Outcome → List (Pin × List ℕ)
sums_of (outcome.Resolved pins sums turns) = zip pins sums
sums_of other = []

-- of all roots that were resolved, in their order
abbrev pub sums_in : List RootRun → List (Pin × List ℕ)
sums_in [] = []
sums_in (run ∷ runs) = sums_of run.outcome ++ sums_in runs

-- one is kept where none was
abbrev pub keep_by : Option (List ℕ) → Pin × List ℕ → Fingerprints → Fingerprints
keep_by (Some kept) found fingerprints = fingerprints
keep_by None found fingerprints = added found.0.0 found.0.1 found.1 fingerprints

abbrev pub kept_with : Fingerprints → Pin × List ℕ → Fingerprints
kept_with fingerprints found = keep_by (kept_in found.0.0 found.0.1 fingerprints) found fingerprints

abbrev pub kept_with_all : Fingerprints → List (Pin × List ℕ) → Fingerprints
kept_with_all fingerprints [] = fingerprints
kept_with_all fingerprints (found ∷ others) = kept_with_all (kept_with fingerprints found) others

-- one of them isn't kept yet
abbrev pub gains : Fingerprints → List (Pin × List ℕ) → Bool
gains fingerprints found = list_any (λ (one : Pin × List ℕ). not (is_some (kept_in one.0.0 one.0.1 fingerprints))) found

-- the fingerprints with those that the runs gain; none where they gain none, or the words name no file
abbrev pub gained_in : Option (List ℕ) → Fingerprints → List (Pin × List ℕ) → Option Fingerprints
gained_in None fingerprints found = None
gained_in (Some file) fingerprints found = if gains fingerprints found then Some (kept_with_all fingerprints found) else None

-- the fingerprint file is put exactly where it gains one; memory may run out
abbrev pub IsGained : Order → Fingerprints → List RootRun → Option Fingerprints → PutEnding → Type 0
IsGained order fingerprints runs gained put.Memory = Unit {0}
IsGained order fingerprints runs gained it =
    (gained ≡ gained_in order.fingerprints fingerprints (sums_in runs)) × IsPut (is_some (fingerprints_put order.fingerprints gained it)) it

-- ---- the puts of the roots

-- there is a put for a root exactly where it has a file to put; whether it has one doesn't hang on how the put ended
abbrev pub ArePuts : Bool → List (List ℕ) → List RootRun → List PutEnding → Type 0
ArePuts proofs [] [] [] = Unit {0}
ArePuts proofs (root ∷ roots) (run ∷ runs) (it ∷ others) = IsPut (is_some (root_put proofs root run it)) it × ArePuts proofs roots runs others
ArePuts proofs roots runs others = ⊥

abbrev pub ArePutsOf : Order → Ending → Type 0
ArePutsOf order (ending.Roots runs puts gained it) = ArePuts order.proofs order.roots runs puts
ArePutsOf order other = Unit {0}

-- ---- the run

-- what the roots come to over a shelf and beside fingerprints
abbrev pub RootsEnding : (Cause → Cause → Bool) → ShelfFile → Fingerprints → Order → FileMap → Ending → Type 0
RootsEnding same shelf fingerprints order files (ending.Roots runs puts gained it) =
    AreRootRuns same shelf fingerprints order files order.roots runs × IsGained order fingerprints runs gained it
RootsEnding same shelf fingerprints order files other = ⊥

-- the ending of a run with accepted words
abbrev pub IsEnding : (Cause → Cause → Bool) → Order → FileMap → Ending → Type 0
IsEnding same order files ending.Memory = Unit {0}
IsEnding same order files (ending.Shelf why) = ReadsShelf (map.get files order.shelf) (Err why)
IsEnding same order files (ending.Fingerprints why) =
    (shelf : ShelfFile) × ReadsShelf (map.get files order.shelf) (Ok shelf) × ReadsFingerprints order.fingerprints files (Err why)
IsEnding same order files (ending.Roots runs puts gained it) =
    (shelf : ShelfFile) × ReadsShelf (map.get files order.shelf) (Ok shelf)
    × (fingerprints : Fingerprints) × ReadsFingerprints order.fingerprints files (Ok fingerprints)
    × RootsEnding same shelf fingerprints order files (ending.Roots runs puts gained it)
