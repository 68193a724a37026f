use Rattle.std.proofs.Common.{◌≡◌, drop}
use Rattle.spm_judge.specs.Judged.{first_of}
use Rattle.spm_judge.specs.Steps.{unusable_in}
use Rattle.spm_judge.proofs.broken.unusable.Given as goal

abbrev pub invariant-loop-pin : goal.invariant-loop-pin
invariant-loop-pin l =
    first_of unusable_in (drop l.pin-index l.pinned) ≡ first_of unusable_in l.pinned
