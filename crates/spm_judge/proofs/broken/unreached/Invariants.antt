use Rattle.std.proofs.Common.{◌≡◌, drop}
use Rattle.spm_judge.specs.Judged.{first_of, unreached}
use Rattle.spm_judge.proofs.broken.unreached.Given as goal

abbrev pub invariant-loop-identity : goal.invariant-loop-identity
invariant-loop-identity l =
    first_of (unreached l.on.keys) (drop l.identity-index l.pins) ≡ first_of (unreached l.on.keys) l.pins
