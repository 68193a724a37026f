-- The command `check --proof FILE`: whether the derivation in a file holds by the file's own facts. The file's bytes decide how it
-- ends; the ending decides the one line and the status. Want of memory is free, and a fault of the desk is tied to its count.
use Rattle.std.specs.Prelude.{◌≡◌, ℕ, List, [], ◌++◌, length, codes, Option, Some, None, IfSome, Result, Ok, Err}
use Rattle.std.specs.FinMap as map
use Rattle.std.specs.Fmt.{decimal}
use Rattle.pub_proof.specs.Checked.{LineFault, checked_of}
use Rattle.pub_proof.specs.Checks.{own_facts}
use Rattle.pub_proof.specs.File.{derivation_in}
use Rattle.pub_proof.specs.Kinds as proof
use Rattle.pub_proof.specs.declared.derivation.Derivation.{Derivation}
use Rattle.pub_term.specs.declared.term.Term.{Term}
use Rattle.spm_json.specs.Reading.{Reading}
use Rattle.spm_outside.specs.Desk.{DeskState}
use Rattle.spm_outside.specs.Sink.{SinkState}
use Rattle.spm_tool.specs.Left.{FaultsLeft, faulty_file}
use Rattle.spm_tool.specs.Report.{file_report, file_status, line_end}
use Rattle.spm_tool.specs.Resolves.{Tells}
use Rattle.spm_tool.specs.declared.check.CheckEnding.{CheckEnding}
use Rattle.spm_tool.specs.declared.check.CheckEnding.TheVariants.{File, Holds, Fails}
use Rattle.spm_tool.specs.declared.ending.FileEnding.TheVariants as file

-- ---- the ending

abbrev pub verdict_on : ℕ → Result (List Term) LineFault → CheckEnding
verdict_on lines (Ok last) = Holds lines
verdict_on lines (Err fault) = Fails fault.line fault.kind

abbrev pub verdict : Derivation → CheckEnding
verdict derivation = verdict_on (length derivation.lines) (checked_of derivation.nodes derivation.sizes (own_facts derivation.lines) derivation.lines)

abbrev pub check_read : Reading Derivation → CheckEnding
check_read (Ok derivation) = verdict derivation
check_read (Err fault) = File (file.Unreadable fault.place fault.kind)

-- by the file's bytes
abbrev pub check_in : Option (List ℕ) → CheckEnding
check_in None = File file.Missing
check_in (Some bytes) = check_read (derivation_in bytes)

-- an ending is want of memory, a fault of the desk, or else that of the file's bytes
abbrev pub IsCheck : CheckEnding → CheckEnding → Type 0
IsCheck ending (File file.Memory) = Unit {0}
IsCheck ending (File file.Fault) = Unit {0}
IsCheck ending found = found ≡ ending

-- the same of a step without a call of the desk
abbrev pub IsVerdict : CheckEnding → CheckEnding → Type 0
IsVerdict ending (File file.Memory) = Unit {0}
IsVerdict ending found = found ≡ ending

-- the file on which the desk failed, if it did
abbrev pub faulty_check : List ℕ → CheckEnding → List (List ℕ)
faulty_check name (File why) = faulty_file name why
faulty_check name ending = []

-- ---- the line and the status

abbrev pub check_report : List ℕ → CheckEnding → List ℕ
check_report name (File why) = file_report name why
check_report name (Holds lines) = codes "proof holds, " ++ (decimal lines ++ (codes " lines" ++ line_end))
check_report name (Fails line kind) = codes "proof fails at line " ++ (decimal line ++ (codes ": " ++ (proof.kind_text kind ++ line_end)))

abbrev pub check_status : CheckEnding → ℕ
check_status (File why) = file_status why
check_status (Holds lines) = 0
check_status (Fails line kind) = 1

-- ---- the whole

pub record ChecksFile (name : List ℕ) (before after : DeskState) (sink_before sink_after : SinkState) (status : ℕ) : Type 0 where
  pub ending : CheckEnding
  pub told : IfSome before.files (λ files. IsCheck (check_in (map.get files name)) ending)
  pub faults : FaultsLeft (faulty_check name ending) before after
  pub files : after.files ≡ before.files
  pub report : Tells (check_report name ending) (check_status ending) sink_before sink_after status
