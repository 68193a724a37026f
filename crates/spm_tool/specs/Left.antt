-- Which files the desk fails at, in the order of the calls, and what that leaves.
use Rattle.std.specs.Prelude.{◌≡◌, ℕ, List, [], ◌∷◌, ◌++◌, Option, Some, None, Result, Ok, Err, option_map}
use Rattle.spm_outside.specs.Desk.{DeskState}
use Rattle.spm_outside.specs.Faults.{Rises}
use Rattle.spm_session.specs.declared.outcome.Outcome.{Outcome}
use Rattle.spm_session.specs.declared.outcome.Outcome.TheVariants as outcome
use Rattle.spm_tool.specs.Puts.{failed_puts, puts_of}
use Rattle.spm_tool.specs.Words.{Order}
use Rattle.spm_tool.specs.declared.ending.Ending.{Ending}
use Rattle.spm_tool.specs.declared.ending.Ending.TheVariants as ending
use Rattle.spm_tool.specs.declared.ending.FileEnding.{FileEnding}
use Rattle.spm_tool.specs.declared.ending.FileEnding.TheVariants as file
use Rattle.spm_tool.specs.declared.ending.RootRun.{RootRun}

-- the desk counted faults and named these files, in this order; where there is none, neither
abbrev pub FaultsLeft : List (List ℕ) → DeskState → DeskState → Type 0
FaultsLeft [] before after = (after.failed ≡ before.failed) × (after.faults ≡ before.faults)
FaultsLeft (name ∷ names) before after =
    (after.failed ≡ option_map (λ failed. failed ++ name ∷ names) before.failed) × Rises before.faults after.faults

-- ---- which files they are

abbrev pub faulty_file : List ℕ → FileEnding → List (List ℕ)
faulty_file name file.Fault = name ∷ []
faulty_file name why = []

abbrev pub faulty_get : Outcome → List (List ℕ)
faulty_get (outcome.DeskFault name) = name ∷ []
faulty_get it = []

-- of a step
abbrev pub faulty_in_file : {A : Type 0} → List ℕ → Result A FileEnding → List (List ℕ)
faulty_in_file name (Ok found) = []
faulty_in_file name (Err why) = faulty_file name why

abbrev pub faulty_in : {A : Type 0} → Result A Outcome → List (List ℕ)
faulty_in (Ok found) = []
faulty_in (Err it) = faulty_get it

-- of roots: at the gets of their files
abbrev pub faulty_gets : List RootRun → List (List ℕ)
faulty_gets [] = []
faulty_gets (run ∷ runs) = faulty_get run.outcome ++ faulty_gets runs

abbrev pub named : Option (List ℕ) → List ℕ
named (Some name) = name
named None = []

-- of a run: at the gets of its files, and then at the puts
abbrev pub faulty_files : Order → Ending → List (List ℕ)
faulty_files order (ending.Shelf why) = faulty_file order.shelf why
faulty_files order (ending.Fingerprints why) = faulty_file (named order.fingerprints) why
faulty_files order (ending.Roots runs puts gained it) = faulty_gets runs ++ failed_puts (puts_of order (ending.Roots runs puts gained it))
faulty_files order ending.Memory = []

-- a run that ended in want of memory before any root was done may have failed at gets
abbrev pub FaultsOf : Order → Ending → DeskState → DeskState → Type 0
FaultsOf order ending.Memory before after = (names : List (List ℕ)) × FaultsLeft names before after
FaultsOf order it before after = FaultsLeft (faulty_files order it) before after

-- the same of the roots' run, which ends in want of memory or with an ending
abbrev pub FaultsOfRun : {E : Type 0} → Order → Result Ending E → DeskState → DeskState → Type 0
FaultsOfRun order (Ok it) before after = FaultsLeft (faulty_files order it) before after
FaultsOfRun order (Err want) before after = (names : List (List ℕ)) × FaultsLeft names before after
