use Rattle.std.proofs.Common.{◌≡◌, ◌+◌, ◌++◌, drop, string_bytes}
use Rattle.pub_proof.specs.Checks.{terms_of}
use Rattle.spm_explain.specs.DerivationText.{lines_text}
use Rattle.spm_explain.proofs.lines.push_lines.Given as goal

abbrev pub invariant-loop-place : goal.invariant-loop-place
invariant-loop-place l =
    string_bytes l.text ++ lines_text l.nodes l.choices (l.place + 1) (drop l.place l.lines) (drop l.place (terms_of l.said))
    ≡ string_bytes l.initial.text ++ lines_text l.nodes l.choices 1 l.lines (terms_of l.said)
