use Rattle.std.proofs.Common.{◌∙◌, subst, sym}
use Rattle.pub_facts.specs.Catalogue.{Job}
use Rattle.spm_judge.specs.Fetching.{AreHeld}
use Rattle.spm_judge.specs.Held.{held_in}
use Rattle.spm_judge.proofs.FetchLemmas.{pins_held, settled_since}
use Rattle.spm_judge.proofs.RoundLemmas.{empty_is, round_end, settled_pins, some_falls, some_is}
use Rattle.spm_judge.proofs.over.hold_wanted.Goals as goal

pub returns-then-is_empty-clause-pins : goal.returns-then-is_empty-clause-pins
returns-then-is_empty-clause-pins g c =
    let job : Job = record { root = c.args.root.now; asked = c.args.asked.now; tools = c.args.tools } in
    settled_pins job c.args.pins.now (held_in c.args.held.now)
    (settled_since job (held_in c.args.held.now) c.args.pins.now c.in_ok-keys.keys c.in_ok-keys.ensures
    (sym c.as_slice.ensures ∙ empty_is c.as_slice.result.now (sym c.is_empty.ensures ∙ c.if-is_empty.true)))

pub returns-then-is_empty-clause-settled : goal.returns-then-is_empty-clause-settled
returns-then-is_empty-clause-settled g c = λ none.
    settled_since (record { root = c.args.root.now; asked = c.args.asked.now; tools = c.args.tools }) (held_in c.args.held.now) c.args.pins.now
    c.in_ok-keys.keys c.in_ok-keys.ensures
    (sym c.as_slice.ensures ∙ empty_is c.as_slice.result.now (sym c.is_empty.ensures ∙ c.if-is_empty.true))

pub returns-clause-end : goal.returns-clause-end
returns-clause-end g c = λ from.
    round_end (g.L.Link.state c.args.link.now).book c.args.base.now
    (record { root = c.args.root.now; asked = c.args.asked.now; tools = c.args.tools }) (held_in c.args.held.now) c.args.pins.now c.in_ok-keys.keys
    c.as_slice-2.result.now c.in-Err.end c.as_slice-2.ensures c.in_ok-keys.ensures from c.in-Err.ensures.end

pub returns-in-Ok-clause-pins : goal.returns-in-Ok-clause-pins
returns-in-Ok-clause-pins g c =
    pins_held (record { root = c.args.root.now; asked = c.args.asked.now; tools = c.args.tools }) (held_in c.args.held.now)
    (held_in c.hold_all.new.held) c.args.pins.now c.in_ok-keys.keys c.in_ok-keys.ensures c.in-Ok.ensures.more
    (subst (λ keys. AreHeld keys (held_in c.hold_all.new.held)) c.as_slice-2.ensures c.in-Ok.ensures.there)

pub returns-in-Ok-clause-falls : goal.returns-in-Ok-clause-falls
returns-in-Ok-clause-falls g c = λ some pins.
    some_falls (record { root = c.args.root.now; asked = c.args.asked.now; tools = c.args.tools }) (held_in c.args.held.now)
    (held_in c.hold_all.new.held) c.args.pins.now c.in_ok-keys.keys
    (λ none. some_is c.as_slice.result.now (sym c.is_empty.ensures ∙ c.if-is_empty.false) (c.as_slice.ensures ∙ none)) c.in_ok-keys.ensures
    c.in-Ok.ensures.more (subst (λ keys. AreHeld keys (held_in c.hold_all.new.held)) c.as_slice-2.ensures c.in-Ok.ensures.there) pins
