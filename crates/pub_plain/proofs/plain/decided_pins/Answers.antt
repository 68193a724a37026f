use Rattle.std.proofs.Common.{All, ap, reverse, subst, sym, refl, ◌∙◌}
use Rattle.pub_plain.specs.Kept.{Kept, state_with}
use Rattle.pub_plain.proofs.NextKept.{IsBelow, trail_below}
use Rattle.pub_plain.proofs.PlainLemmas.{pins_same}
use Rattle.pub_plain.proofs.plain.decided_pins.Goals as goal

pub pins_of-requires-clause-there : goal.pins_of-requires-clause-there
pins_of-requires-clause-there c =
    subst (All (IsBelow _)) (sym (c.deref.ensures.value ∙ ap (λ (k : Kept). k.trail) c.lists.view_is))
    (trail_below c.args.told.now c.args.lists.now c.requires)

pub returns : goal.returns
returns c =
    pins_same c.pins_of.result c.args.told.now c.args.lists.now c.args.nodes.now (state_with c.args.told.now.known.nodes c.args.lists.now) c.deref.result.now refl
    (ap reverse (sym (c.deref.ensures.value ∙ ap (λ (k : Kept). k.trail) c.lists.view_is))) c.pins_of.ensures
