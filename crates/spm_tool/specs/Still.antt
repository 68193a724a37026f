-- The commands that wait for nobody: `check`, `judge` and `fingerprints`. The words decide which it is; other words are refused.
use Rattle.std.specs.Prelude.{ℕ, List, Option, Some, None}
use Rattle.spm_outside.specs.Desk.{DeskState}
use Rattle.spm_outside.specs.Sink.{SinkState}
use Rattle.spm_tool.specs.Check.{ChecksFile}
use Rattle.spm_tool.specs.Judge.{JudgesFiles}
use Rattle.spm_tool.specs.Resolves.{RefusesWords}
use Rattle.spm_tool.specs.Shown.{ShowsFile}
use Rattle.spm_tool.specs.Words.{Judgement, judge_of, proof_of, shown_of}

abbrev pub ShowsBy : Option (List ℕ) → DeskState → DeskState → SinkState → SinkState → ℕ → Type 0
ShowsBy (Some file) before after sink_before sink_after status = ShowsFile file before after sink_before sink_after status
ShowsBy None before after sink_before sink_after status = RefusesWords before after sink_before sink_after status

abbrev pub JudgesBy : Option Judgement → Option (List ℕ) → DeskState → DeskState → SinkState → SinkState → ℕ → Type 0
JudgesBy (Some order) shown before after sink_before sink_after status = JudgesFiles order before after sink_before sink_after status
JudgesBy None shown before after sink_before sink_after status = ShowsBy shown before after sink_before sink_after status

abbrev pub StillBy : Option (List ℕ) → Option Judgement → Option (List ℕ) → DeskState → DeskState → SinkState → SinkState → ℕ → Type 0
StillBy (Some file) order shown before after sink_before sink_after status = ChecksFile file before after sink_before sink_after status
StillBy None order shown before after sink_before sink_after status = JudgesBy order shown before after sink_before sink_after status

abbrev pub Still : List (List ℕ) → DeskState → DeskState → SinkState → SinkState → ℕ → Type 0
Still given before after sink_before sink_after status =
    StillBy (proof_of given) (judge_of given) (shown_of given) before after sink_before sink_after status
