use Rattle.std.proofs.Common.{◌<◌, ◌+◌, arith, length}
use Rattle.spm_explain.proofs.TextLemmas.{line_behind, lines_text-next}
use Rattle.spm_explain.proofs.lines.push_lines.Goals as goal

pub loop-place-preserved : goal.loop-place-preserved
loop-place-preserved c =
    let place = c.loop-place.place in
    let inside : place < length c.args.said.now = omega arith in
    line_behind _ _ _ _ _ _ c.in_ok-push_line.ensures
    (lines_text-next c.args.nodes.now c.args.choices.now (place + 1) c.args.lines.now c.args.said.now place
    c.index-lines-place.result c.index-said-place.result c.loop-place-test.true
    inside c.index-lines-place.is c.index-said-place.is)
    c.loop-place.invariant
