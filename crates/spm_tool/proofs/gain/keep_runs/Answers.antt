use Rattle.std.proofs.Common.{◌+◌, ap, drop, sym, ◌∙◌}
use Rattle.spm_tool.specs.Ending.{kept_with_all, sums_in, sums_of}
use Rattle.spm_tool.proofs.GainLemmas.{kept_on, runs_next}
use Rattle.spm_tool.proofs.gain.keep_runs.Goals as goal

pub loop-run-preserved : goal.loop-run-preserved
loop-run-preserved c =
    let rest = drop (c.loop-run.run-index + 1) c.args.runs.now in
    let found = sums_of c.run-item.result.outcome in
    ap (λ fingerprints. kept_with_all fingerprints (sums_in rest)) c.in_ok-keep_outcome.ensures
    ∙ sym (kept_on c.loop-run.trust found (sums_in rest))
    ∙ ap (λ left. kept_with_all c.loop-run.trust (sums_in left))
    (sym (runs_next c.args.runs.now c.loop-run.run-index c.run-item.result c.loop-run-test.true c.run-item.is))
    ∙ c.loop-run.invariant
