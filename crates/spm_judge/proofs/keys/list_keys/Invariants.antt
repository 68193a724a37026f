use Rattle.std.proofs.Common.{◌≡◌, ◌++◌, drop}
use Rattle.spm_judge.specs.Judged.{list_keys}
use Rattle.spm_judge.proofs.keys.list_keys.Given as goal

abbrev pub invariant-loop-identity : goal.invariant-loop-identity
invariant-loop-identity l =
    l.keys ++ list_keys (drop l.identity-index l.pins) ≡ list_keys l.pins
