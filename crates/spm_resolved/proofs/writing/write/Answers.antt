use Rattle.std.proofs.Common.{ap, ◌∙◌, ◌++◌}
use Rattle.std.specs.Prelude.{string_bytes}
use Rattle.spm_resolved.proofs.PinLemmas.{five_parts}
use Rattle.spm_resolved.proofs.writing.write.Goals as goal

pub returns : goal.returns
returns c =
    let spelled = c.as_str-2.ensures ∙ c.in_ok-hex_of.ensures in
    c.from_vec.ensures ∙ ap (λ v. v.items) c.into_bytes.ensures.value
    ∙ five_parts _ _ _ _ _ _ _ _ _ _ _ c.new-text.ensures.bytes c.in_ok-push_str.ensures.bytes
    (c.in_ok-push_str-2.ensures.bytes ∙ ap (λ digits. string_bytes c.push_str.new.self ++ digits) spelled)
    c.in_ok-push_str-3.ensures.bytes c.in_ok-push_pins.ensures c.in_ok-push_str-4.ensures.bytes
