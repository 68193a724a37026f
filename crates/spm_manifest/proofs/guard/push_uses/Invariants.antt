use Rattle.std.proofs.Common.{◌≡◌, ◌++◌, drop, map}
use Rattle.spm_manifest.specs.Guard.{some_uses}
use Rattle.spm_manifest.proofs.guard.push_uses.Given as goal

abbrev pub invariant-loop-item : goal.invariant-loop-item
invariant-loop-item l = map (λ found. found.now) l.uses.items ++ some_uses (drop l.item-index l.optional)
    ≡ map (λ found. found.now) l.initial.uses.items ++ some_uses l.optional
