use Rattle.std.proofs.Common.{ap, ◌∙◌, ◌++◌}
use Rattle.std.specs.Prelude.{string_bytes}
use Rattle.spm_resolved.specs.Resolved.{pin_text}
use Rattle.spm_resolved.proofs.PinLemmas.{all_pins, one_more}
use Rattle.spm_resolved.proofs.writing.push_pins.Goals as goal

pub loop-pin-preserved : goal.loop-pin-preserved
loop-pin-preserved c =
    one_more (string_bytes c.loop-pin.text) (string_bytes c.push_pin-in-loop-pin.new.text) c.in-Some.others.now
    c.loop-pin.pin-index c.pin-item.result c.loop-pin-test.true c.pin-item.is
    (c.in_ok-push_pin-2.ensures ∙ ap (λ text. text ++ pin_text c.pin-item.result) c.in_ok-push_str.ensures.bytes)
    ∙ c.loop-pin.invariant

pub returns : goal.returns
returns c =
    all_pins (string_bytes c.args.text.now) (string_bytes c.push_pin.new.text) (string_bytes c.loop-pin.text)
    c.args.pins.now c.in-Some.others.now c.loop-pin.pin-index c.in-Some.first.now c.in-Some.ensures.cases.0
    c.in_ok-push_pin.ensures c.loop-pin-test.false c.loop-pin.invariant
