use Rattle.std.proofs.Common.{◌≡◌, take}
use Rattle.spm_resolved.proofs.reading.copy_pins.Given as goal

abbrev pub invariant-loop-identity : goal.invariant-loop-identity
invariant-loop-identity l = l.copy.items ≡ take l.identity-index l.pins
