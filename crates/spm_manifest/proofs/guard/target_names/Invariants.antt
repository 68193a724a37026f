use Rattle.std.proofs.Common.{◌≡◌, ℕ, List, ◌||◌, drop}
use Rattle.spm_json.specs.Names.{has_name}
use Rattle.spm_manifest.specs.Guard.{is_target}
use Rattle.spm_manifest.proofs.guard.target_names.Given as goal

abbrev pub invariant-loop-target : goal.invariant-loop-target
invariant-loop-target l = (name : List ℕ) →
    (has_name l.names name || is_target (drop l.target-index l.targets) name) ≡ is_target l.targets name
