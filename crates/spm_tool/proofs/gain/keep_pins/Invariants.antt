use Rattle.std.proofs.Common.{◌≡◌}
use Rattle.std.specs.Iterator.Adapters.{zip_first, zip_second}
use Rattle.std.specs.List.{zip}
use Rattle.std.specs.Slice.Iter.{iter_rest}
use Rattle.spm_tool.specs.Ending.{kept_with_all}
use Rattle.spm_tool.proofs.gain.keep_pins.Given as goal

-- with those of the pins that are left it is what it is to be
abbrev pub invariant-loop-pin : goal.invariant-loop-pin
invariant-loop-pin l =
    kept_with_all l.trust (zip (iter_rest (zip_first l.pin-iterator)) (iter_rest (zip_second l.pin-iterator)))
    ≡ kept_with_all l.initial.trust (zip l.pins l.sums)
