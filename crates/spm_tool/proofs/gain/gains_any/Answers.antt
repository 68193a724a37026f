use Rattle.std.proofs.Common.{◌∙◌, rules}
use Rattle.std.proofs.lemmas.Iterator.{YieldsList-from_slice}
use Rattle.std.proofs.lemmas.Iterator.Search.{any_from_yields_List}
use Rattle.spm_tool.specs.Ending.{gains, sums_of}
use Rattle.spm_tool.specs.declared.ending.RootRun.{RootRun}
use Rattle.spm_tool.proofs.GainLemmas.{gains_runs}
use Rattle.spm_tool.proofs.gain.gains_any.Goals as goal

pub returns : goal.returns
returns c =
    any_from_yields_List (λ (run : RootRun). gains c.args.trust.now (sums_of run.outcome)) _ _ _ c.any.ensures.ran
    (YieldsList-from_slice c.args.runs.now cc) (λ x b q k. search rules)
    ∙ gains_runs c.args.trust.now c.args.runs.now
