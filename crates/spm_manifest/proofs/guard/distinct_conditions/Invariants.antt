use Rattle.std.proofs.Common.{◌≡◌, ◌++◌, drop, map}
use Rattle.std.specs.List.{flat_map}
use Rattle.spm_json.specs.Names.{has_name}
use Rattle.spm_manifest.specs.Guard.{distinct, distinct_after}
use Rattle.spm_manifest.specs.declared.uses.Use.{Use}
use Rattle.spm_manifest.proofs.guard.distinct_conditions.Given as goal

abbrev pub invariant-loop-found : goal.invariant-loop-found
invariant-loop-found l =
    l.list.items ++ distinct_after (has_name l.met) (flat_map (λ (found : Use). found.condition) (map (λ found. found.now) (drop l.found-index l.uses)))
    ≡ distinct (flat_map (λ (found : Use). found.condition) (map (λ found. found.now) l.uses))
