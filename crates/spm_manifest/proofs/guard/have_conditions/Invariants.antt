use Rattle.std.proofs.Common.{◌≡◌, drop, map}
use Rattle.std.specs.List.{list_all}
use Rattle.spm_manifest.specs.Guard.{has_condition}
use Rattle.spm_manifest.proofs.guard.have_conditions.Given as goal

abbrev pub invariant-loop-found : goal.invariant-loop-found
invariant-loop-found l = list_all has_condition (map (λ found. found.now) (drop l.found-index l.uses))
    ≡ list_all has_condition (map (λ found. found.now) l.uses)
