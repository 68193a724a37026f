use Rattle.std.proofs.Common.{◌≡◌, ◌++◌, drop}
use Rattle.std.specs.Prelude.{string_bytes}
use Rattle.spm_trust.specs.TrustText.{behind_commas, package_text}
use Rattle.spm_trust.proofs.writing.push_packages.Given as goal

abbrev pub invariant-loop-entry : goal.invariant-loop-entry
invariant-loop-entry l = string_bytes l.text ++ behind_commas package_text (drop l.entry-index l.others)
    ≡ string_bytes l.initial.text ++ behind_commas package_text l.others
