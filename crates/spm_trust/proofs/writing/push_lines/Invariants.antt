use Rattle.std.proofs.Common.{◌≡◌, ◌++◌, drop}
use Rattle.std.specs.Prelude.{string_bytes}
use Rattle.spm_trust.specs.TrustText.{sum_lines}
use Rattle.spm_trust.proofs.writing.push_lines.Given as goal

abbrev pub invariant-loop-kept : goal.invariant-loop-kept
invariant-loop-kept l = string_bytes l.text ++ sum_lines l.identity (drop l.kept-index l.sums)
    ≡ string_bytes l.initial.text ++ sum_lines l.identity l.sums
