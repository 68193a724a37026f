use Rattle.std.proofs.Common.{◌≡◌, ◌∷◌, ◌++◌, codes, drop}
use Rattle.spm_tool.specs.Files.{others_of}
use Rattle.spm_tool.proofs.job.all_of.Given as goal

abbrev pub invariant-loop-entry : goal.invariant-loop-entry
invariant-loop-entry l = l.names ++ others_of (drop l.entry-index l.entries) ≡ codes "default" ∷ others_of l.entries
