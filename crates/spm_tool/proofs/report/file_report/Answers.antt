use Rattle.std.proofs.Common.{◌++◌, ap, codes, sym, ◌∙◌}
use Rattle.spm_tool.specs.Report.{line_end, file_report}
use Rattle.spm_tool.proofs.report.file_report.Goals as goal

-- src/report.rt
pub returns-in_ok-format-in-Unreadable : goal.returns-in_ok-format-in-Unreadable
returns-in_ok-format-in-Unreadable c =
    c.in_ok-format-in-Unreadable.ensures.ok
    ∙ ap (λ text. c.args.name.now ++ (codes ": " ++ (text ++ line_end))) c.in_ok-text-in-Unreadable.ensures
    ∙ ap (file_report c.args.name.now) (sym c.in-Unreadable.is)
