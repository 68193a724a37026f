-- A manifest that is refused is so with its bytes.
use Rattle.std.proofs.Common.{ℕ, List, Result, ap}
use Rattle.spm_manifest.specs.declared.dump.Contents.{Contents}
use Rattle.spm_session.specs.declared.outcome.Outcome.{Outcome}
use Rattle.spm_session.specs.declared.outcome.Outcome.TheVariants as outcome
use Rattle.spm_tool.specs.Files.{with_bytes}
use Rattle.spm_tool.specs.Steps.{IsRefusal, Refuses}

-- a step that is refused is refused with the bytes beside it
pub refused_with_bytes : (name : List ℕ) (it : Outcome) (bytes : List ℕ) (step : Result Contents Outcome)
    → Refuses it step → IsRefusal name it (with_bytes bytes step)
refused_with_bytes name outcome.Memory bytes step h = tt
refused_with_bytes name (outcome.DeskFault failed) bytes step h = absurd h
refused_with_bytes name it bytes step h = ap (with_bytes bytes) h
