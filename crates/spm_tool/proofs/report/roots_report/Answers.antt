use Rattle.std.proofs.Common.{◌++◌, ap, ◌∙◌, map, append_assoc}
use Rattle.spm_tool.specs.Report.{all_ended, fingerprints_report, outcome_status, root_reports, summary_of, summary_text}
use Rattle.spm_tool.specs.WordsView.{order_view}
use Rattle.spm_tool.proofs.report.roots_report.Goals as goal

-- src/report.rt
pub returns : goal.returns
returns c =
    let order = order_view c.args.order.now in
    let all = all_ended order.roots c.args.runs.now c.args.puts.now in
    let roots = root_reports order.roots all in
    let file = fingerprints_report order.fingerprints c.args.put in
    let last = summary_text (summary_of (map outcome_status all)) in
    c.from_vec.ensures ∙ c.in_ok-extend_from_slice-2.ensures.items
    ∙ ap (λ text. text ++ c.as_bytes-2.result.now)
    (c.in_ok-extend_from_slice.ensures.items ∙ ap (λ text. text ++ c.as_bytes.result.now) c.in_ok-report.ensures
    ∙ ap (λ text. roots ++ text) (c.as_bytes.ensures.value ∙ c.in_ok-line.ensures))
    ∙ ap (λ text. (roots ++ file) ++ text) (c.as_bytes-2.ensures.value ∙ c.in_ok-summary.ensures
    ∙ ap summary_text (c.summary_of.ensures ∙ ap summary_of (c.as_slice.ensures.value ∙ c.in_ok-given.ensures)))
    ∙ append_assoc roots file last
