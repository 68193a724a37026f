use Rattle.std.proofs.Common.{◌≡◌, drop}
use Rattle.spm_tool.specs.Ending.{kept_with_all, sums_in}
use Rattle.spm_tool.proofs.gain.keep_runs.Given as goal

-- with those of the roots that are left it is what it is to be
abbrev pub invariant-loop-run : goal.invariant-loop-run
invariant-loop-run l = kept_with_all l.trust (sums_in (drop l.run-index l.runs)) ≡ kept_with_all l.initial.trust (sums_in l.runs)
