use Rattle.std.proofs.Common.{◌≡◌, ◌++◌, IfOk, codes, string_bytes, subst}
use Rattle.spm_tool.proofs.report.unreadable_file.Goals as goal

pub returns : goal.returns
returns c =
    subst (λ what. IfOk c.format.result (λ text. string_bytes text ≡ c.args.file.now ++ (codes " is " ++ what))) c.in_ok-text.ensures c.format.ensures.ok
