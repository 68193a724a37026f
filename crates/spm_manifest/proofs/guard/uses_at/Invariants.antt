use Rattle.std.proofs.Common.{◌≡◌, ◌++◌, drop, map}
use Rattle.spm_manifest.specs.Counted.{counted_use, uses_at}
use Rattle.spm_manifest.proofs.guard.uses_at.Given as goal

abbrev pub invariant-loop-one : goal.invariant-loop-one
invariant-loop-one l = map (λ found. found.now) l.uses.items ++ uses_at l.number (map counted_use (drop l.one-index l.counted))
    ≡ uses_at l.number (map counted_use l.counted)
