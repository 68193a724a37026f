-- The contract of `resolve`: the words and the bytes of the files decide the ending, and the ending decides the report,
-- the status and the files after. Faults are tied to the counts of the desk and the sink; want of memory is free.
use Rattle.std.specs.Prelude.{◌≡◌, ◌⊎◌, ℕ, Bool, List, Option, Some, None, IfSome, Result, ⊤}
use Rattle.pub_term.specs.declared.cause.Cause.{Cause}
use Rattle.spm_outside.specs.Desk.{DeskState}
use Rattle.spm_outside.specs.Faults.{FaultsAfter}
use Rattle.spm_outside.specs.Sink.{PutsAll, SinkState}
use Rattle.spm_outside.specs.declared.fault.CallFault.{CallFault}
use Rattle.spm_tool.specs.Ending.{ArePutsOf, IsEnding}
use Rattle.spm_tool.specs.Left.{FaultsOf}
use Rattle.spm_tool.specs.Puts.{PutsLeave, puts_of}
use Rattle.spm_tool.specs.Report.{report_of, status_after, status_of, words_report}
use Rattle.spm_tool.specs.Words.{Order, order_of}
use Rattle.spm_tool.specs.declared.ending.Ending.{Ending}

-- the text is written, or a part of it from the front on where the sink failed or memory ran out
pub record Writes (text : List ℕ) (before after : SinkState) (answer : Result ⊤ CallFault) : Type 0 where
  pub written : PutsAll answer text before.written after.written
  pub faults : FaultsAfter answer before.faults after.faults

-- the sink's answer to a report, if there was memory to make one
abbrev pub TellsBy : Option (Result ⊤ CallFault) → List ℕ → ℕ → SinkState → SinkState → ℕ → Type 0
TellsBy None report ending_status before after status = (after ≡ before) × (status ≡ 6)
TellsBy (Some answer) report ending_status before after status =
    Writes report before after answer × (status ≡ status_after ending_status answer)

-- a report is written, and the status tells how that went
pub record Tells (report : List ℕ) (ending_status : ℕ) (before after : SinkState) (status : ℕ) : Type 0 where
  pub answer : Option (Result ⊤ CallFault)
  pub told : TellsBy answer report ending_status before after status

-- a run with accepted words; `same` says which causes are equal
pub record Runs (same : Cause → Cause → Bool) (order : Order) (before after : DeskState) (sink_before sink_after : SinkState) (status : ℕ) : Type 0 where
  pub ending : Ending
  pub told : IfSome before.files (λ files. IsEnding same order files ending)
  pub puts : ArePutsOf order ending
  pub faults : FaultsOf order ending before after
  pub files : PutsLeave (puts_of order ending) before.files after.files
  pub report : Tells (report_of order ending) (status_of order ending) sink_before sink_after status

-- words that aren't accepted touch no file; their status is 2 whatever the sink does
pub record RefusesWords (before after : DeskState) (sink_before sink_after : SinkState) (status : ℕ) : Type 0 where
  pub desk : after ≡ before
  pub report : (answer : Result ⊤ CallFault) × Writes words_report sink_before sink_after answer
  pub is_two : status ≡ 2

abbrev pub ResolvesBy : (Cause → Cause → Bool) → Option Order → DeskState → DeskState → SinkState → SinkState → ℕ → Type 0
ResolvesBy same (Some order) before after sink_before sink_after status = Runs same order before after sink_before sink_after status
ResolvesBy same None before after sink_before sink_after status = RefusesWords before after sink_before sink_after status

-- memory ran out before the words were read
pub record Stops (before after : DeskState) (sink_before sink_after : SinkState) (status : ℕ) : Type 0 where
  pub desk : after ≡ before
  pub sink : sink_after ≡ sink_before
  pub is_six : status ≡ 6

abbrev pub Resolves : (Cause → Cause → Bool) → List (List ℕ) → DeskState → DeskState → SinkState → SinkState → ℕ → Type 0
Resolves same words before after sink_before sink_after status =
    ResolvesBy same (order_of words) before after sink_before sink_after status ⊎ Stops before after sink_before sink_after status
