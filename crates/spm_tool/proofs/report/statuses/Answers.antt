use Rattle.std.proofs.Common.{◌<◌, ◌∙◌, [], get_or, length, map, string_bytes, arith}
use Rattle.std.proofs.lemmas.List.{drop_more}
use Rattle.spm_tool.specs.declared.ending.PutEnding.TheVariants.{Nothing}
use Rattle.spm_tool.proofs.GainLemmas.{runs_next}
use Rattle.spm_tool.proofs.PutLemmas.{below_texts}
use Rattle.spm_tool.proofs.ReportLemmas.{status_next}
use Rattle.spm_tool.proofs.report.statuses.Goals as goal

pub loop-place-preserved : goal.loop-place-preserved
loop-place-preserved c =
    let place = c.loop-place.place in
    let roots = map string_bytes c.args.roots.now in
    let run = c.index-runs-place.result in
    let root = get_or roots place [] in
    let it = get_or c.args.puts.now place Nothing in
    let in_runs : place < length c.args.runs.now = c.loop-place-test.true in
    let in_texts : place < length c.args.roots.now = omega (arith, in_runs, c.requires.0) in
    let in_puts : place < length c.args.puts.now = omega (arith, in_runs, c.requires.0, c.requires.1) in
    status_next roots c.args.runs.now c.args.puts.now place root run it (drop_more roots place [] (below_texts string_bytes c.args.roots.now place in_texts))
    (runs_next c.args.runs.now place run in_runs c.index-runs-place.is) (drop_more c.args.puts.now place Nothing in_puts) c.ended_status.result
    c.loop-place.found.items c.push.new.self.items (c.ended_status.ensures root) c.in_ok-push.ensures.items
    ∙ c.loop-place.invariant
