use Rattle.std.proofs.Common.{ap, sym, ◌∙◌}
use Rattle.std.proofs.lemmas.Slice.Zip.{either_empty_from_Zip}
use Rattle.std.specs.Iterator.Adapters.{zip_first, zip_second}
use Rattle.std.specs.Slice.Iter.{iter_rest}
use Rattle.spm_tool.specs.Ending.{kept_with_all}
use Rattle.spm_tool.proofs.GainLemmas.{none_left}
use Rattle.spm_tool.proofs.gain.keep_pins.Goals as goal

pub returns : goal.returns
returns c =
    ap (kept_with_all c.loop-pin.trust)
    (sym (none_left (iter_rest (zip_first c.loop-pin.pin-iterator)) (iter_rest (zip_second c.loop-pin.pin-iterator))
    (either_empty_from_Zip c.loop-pin.pin-iterator c.next.new.self c.next.result c.in-None.is c.next.ensures.steps)))
    ∙ c.loop-pin.invariant
