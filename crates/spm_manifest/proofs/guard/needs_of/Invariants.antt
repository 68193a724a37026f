use Rattle.std.proofs.Common.{◌≡◌, ◌++◌, drop, map}
use Rattle.spm_manifest.specs.Guard.{need_of}
use Rattle.spm_manifest.proofs.guard.needs_of.Given as goal

abbrev pub invariant-loop-dependency : goal.invariant-loop-dependency
invariant-loop-dependency l = l.needs.items ++ map (need_of l.targets l.dependencies) (drop l.dependency-index l.dependencies)
    ≡ map (need_of l.targets l.dependencies) l.dependencies
