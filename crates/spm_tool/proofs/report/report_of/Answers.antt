use Rattle.std.proofs.Common.{◌≡◌, IfOk, subst, sym}
use Rattle.spm_tool.specs.Report.{all_ended, report_of, roots_report}
use Rattle.spm_tool.specs.WordsView.{order_view}
use Rattle.spm_tool.specs.declared.ending.Ending.{Ending}
use Rattle.spm_tool.proofs.report.report_of.Goals as goal

-- src/report.rt
pub returns-in-Roots : goal.returns-in-Roots
returns-in-Roots c =
    let order = order_view c.args.order.now in
    subst (λ (ending : Ending). IfOk c.roots_report.result (λ report. report ≡ report_of order ending)) (sym c.in-Roots.is)
    (subst (λ runs. IfOk c.roots_report.result (λ report. report ≡ roots_report order (all_ended order.roots runs c.in-Roots.puts) c.in-Roots.put)) c.as_slice.ensures
    (subst (λ puts. IfOk c.roots_report.result (λ report. report ≡ roots_report order (all_ended order.roots c.as_slice.result.now puts) c.in-Roots.put)) c.as_slice-in-Roots.ensures
    c.roots_report.ensures))
