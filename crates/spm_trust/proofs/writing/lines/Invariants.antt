use Rattle.std.proofs.Common.{◌≡◌, ◌++◌, drop}
use Rattle.std.specs.Prelude.{string_bytes}
use Rattle.spm_trust.specs.TrustText.{trust_lines}
use Rattle.spm_trust.proofs.writing.lines.Given as goal

abbrev pub invariant-loop-entry : goal.invariant-loop-entry
invariant-loop-entry l = string_bytes l.text ++ trust_lines (drop l.entry-index l.packages) ≡ trust_lines l.packages
