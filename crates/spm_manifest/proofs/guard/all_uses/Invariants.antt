use Rattle.std.proofs.Common.{◌≡◌, ◌++◌, drop, map}
use Rattle.spm_manifest.specs.Guard.{all_uses}
use Rattle.spm_manifest.proofs.guard.all_uses.Given as goal

abbrev pub invariant-loop-target : goal.invariant-loop-target
invariant-loop-target l = map (λ found. found.now) l.uses.items ++ all_uses (drop l.target-index l.targets) ≡ all_uses l.targets
