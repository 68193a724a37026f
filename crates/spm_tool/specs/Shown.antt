-- The command `fingerprints FILE`: a line for each fingerprint that a file keeps. The file's bytes decide how it ends; the ending decides the lines
-- and the status. Want of memory is free, and a fault of the desk is tied to its count.
use Rattle.std.specs.Prelude.{◌≡◌, ℕ, List, IfSome, Result, Ok, Err}
use Rattle.std.specs.FinMap as map
use Rattle.spm_outside.specs.Desk.{DeskState}
use Rattle.spm_outside.specs.Sink.{SinkState}
use Rattle.spm_session.specs.Archives.{Fingerprints}
use Rattle.spm_trust.specs.TrustText.{trust_lines}
use Rattle.spm_tool.specs.Files.{ReadsTrustFile}
use Rattle.spm_tool.specs.Left.{FaultsLeft, faulty_in_file}
use Rattle.spm_tool.specs.Report.{file_report, file_status}
use Rattle.spm_tool.specs.Resolves.{Tells}
use Rattle.spm_tool.specs.declared.ending.FileEnding.{FileEnding}

-- the lines, or the one on the file
abbrev pub shown_report : List ℕ → Result Fingerprints FileEnding → List ℕ
shown_report name (Ok fingerprints) = trust_lines fingerprints
shown_report name (Err why) = file_report name why

abbrev pub shown_status : Result Fingerprints FileEnding → ℕ
shown_status (Ok fingerprints) = 0
shown_status (Err why) = file_status why

pub record ShowsFile (name : List ℕ) (before after : DeskState) (sink_before sink_after : SinkState) (status : ℕ) : Type 0 where
  pub found : Result Fingerprints FileEnding
  pub told : IfSome before.files (λ files. ReadsTrustFile (map.get files name) found)
  pub faults : FaultsLeft (faulty_in_file name found) before after
  pub files : after.files ≡ before.files
  pub report : Tells (shown_report name found) (shown_status found) sink_before sink_after status
