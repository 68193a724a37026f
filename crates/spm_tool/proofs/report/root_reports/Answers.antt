use Rattle.std.proofs.Common.{◌≡◌, ◌<◌, ◌++◌, ◌∙◌, ◌∷◌, ◌+◌, ap, get_or, drop, length, map, string_bytes, subst, arith}
use Rattle.std.proofs.lemmas.List.{drop_more}
use Rattle.spm_tool.specs.Report.{ended_by, root_report}
use Rattle.spm_tool.specs.declared.ending.PutEnding.TheVariants.{Nothing}
use Rattle.spm_tool.proofs.GainLemmas.{runs_next}
use Rattle.spm_tool.proofs.PutLemmas.{at_root, below_map}
use Rattle.spm_tool.proofs.ReportLemmas.{report_next}
use Rattle.spm_tool.proofs.report.root_reports.Goals as goal

pub loop-place-preserved : goal.loop-place-preserved
loop-place-preserved c =
    let place = c.loop-place.place in
    let roots = map string_bytes c.args.roots.now in
    let run = c.index-runs-place.result in
    let root = string_bytes c.index-roots-place.result in
    let it = get_or c.args.puts.now place Nothing in
    let in_runs : place < length c.args.runs.now = c.loop-place-test.true in
    let in_texts : place < length c.args.roots.now = omega (arith, in_runs, c.requires.1) in
    let in_puts : place < length c.args.puts.now = omega (arith, in_runs, c.requires.1, c.requires.2) in
    let roots_are : drop place roots ≡ root ∷ drop (place + 1) roots
    = drop_more roots place root (below_map string_bytes c.args.roots.now place c.index-roots-place.result in_texts)
    ∙ ap (λ one. one ∷ drop (place + 1) roots) (at_root string_bytes c.args.roots.now place c.index-roots-place.result in_texts c.index-roots-place.is) in
    report_next roots c.args.runs.now c.args.puts.now place root run it roots_are (runs_next c.args.runs.now place run in_runs c.index-runs-place.is)
    (drop_more c.args.puts.now place Nothing in_puts) c.in_ok-lines.lines c.loop-place.report.items c.extend_from_slice.new.self.items
    (subst (λ r. c.in_ok-lines.lines ≡ root_report r (ended_by it r run.outcome)) c.as_str.ensures.value c.in_ok-lines.ensures)
    (c.in_ok-extend_from_slice.ensures.items ∙ ap (λ lines. c.loop-place.report.items ++ lines) c.as_slice.ensures)
    ∙ c.loop-place.invariant
