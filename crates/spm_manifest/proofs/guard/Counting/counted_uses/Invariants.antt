use Rattle.std.proofs.Common.{◌≡◌, ◌++◌, drop, map}
use Rattle.std.specs.BTreeMap.{get_by_text}
use Rattle.spm_json.specs.Names.{has_name}
use Rattle.spm_manifest.specs.Counted.{counted_use, with_counted}
use Rattle.spm_manifest.proofs.guard.Counting.counted_uses.Given as goal

abbrev pub invariant-loop-found : goal.invariant-loop-found
invariant-loop-found l = map counted_use l.counted.items
    ++ with_counted (get_by_text l.self.numbers) (has_name l.self.targets) (map (λ found. found.now) (drop l.found-index l.uses))
    ≡ with_counted (get_by_text l.self.numbers) (has_name l.self.targets) (map (λ found. found.now) l.uses)
