use Rattle.std.proofs.Common.{◌≡◌, ◌++◌, drop}
use Rattle.spm_judge.specs.Judged.{manifest_keys}
use Rattle.spm_judge.proofs.keys.push_manifests.Given as goal

abbrev pub invariant-loop-identity : goal.invariant-loop-identity
invariant-loop-identity l =
    l.keys ++ manifest_keys (drop l.identity-index l.pins) ≡ l.fn.keys ++ manifest_keys l.pins
