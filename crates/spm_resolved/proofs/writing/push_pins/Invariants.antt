use Rattle.std.proofs.Common.{◌≡◌, ◌++◌, drop}
use Rattle.std.specs.Prelude.{string_bytes}
use Rattle.spm_resolved.specs.Resolved.{more_pins_text}
use Rattle.spm_resolved.proofs.writing.push_pins.Given as goal

abbrev pub invariant-loop-pin : goal.invariant-loop-pin
invariant-loop-pin l = string_bytes l.text ++ more_pins_text (drop l.pin-index l.others)
    ≡ string_bytes l.initial.text ++ more_pins_text l.others
