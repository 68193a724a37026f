use Rattle.std.proofs.Common.{◌≡◌, ◌++◌, codes, string_bytes, take}
use Rattle.std.specs.List.{join_by}
use Rattle.spm_explain.specs.DerivationText.{run_text}
use Rattle.spm_explain.proofs.terms.push_runs.Given as goal

abbrev pub invariant-loop-place : goal.invariant-loop-place
invariant-loop-place l =
    string_bytes l.text ≡ string_bytes l.initial.text ++ join_by (run_text l.texts) (codes "|") (take l.place l.runs)
