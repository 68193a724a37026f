use Rattle.std.proofs.Common.{◌≡◌, ◌++◌, drop}
use Rattle.std.specs.Prelude.{string_bytes}
use Rattle.spm_trust.specs.TrustText.{behind_commas, sum_text}
use Rattle.spm_trust.proofs.writing.push_sums.Given as goal

abbrev pub invariant-loop-kept : goal.invariant-loop-kept
invariant-loop-kept l = string_bytes l.text ++ behind_commas sum_text (drop l.kept-index l.others)
    ≡ string_bytes l.initial.text ++ behind_commas sum_text l.others
