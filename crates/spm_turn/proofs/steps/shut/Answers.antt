use Rattle.std.proofs.Common.{sym, subst, refl, ap, ◌∙◌}
use Rattle.std.specs.Prelude.{IsSome, Option}
use Rattle.spm_turn.proofs.Held.{closed_slot, slot_state}
use Rattle.spm_turn.proofs.steps.shut.Goals as goal

pub unwrap-requires : goal.unwrap-requires
unwrap-requires g c = let t = closed_slot _ _ _ _ _ _ _ _ _ _ c.close_with-closed.ensures.values.2 c.requires.idle.0 c.requires.idle.1 c.requires.all c.take-slot.ensures.value in
    subst (λ (x : Option g.row.T.Denot). IsSome x) (sym t.1) refl

pub returns-clause-history : goal.returns-clause-history
returns-clause-history g c = let t = closed_slot _ _ _ _ _ _ _ _ _ _ c.close_with-closed.ensures.values.2 c.requires.idle.0 c.requires.idle.1 c.requires.all c.take-slot.ensures.value in
    ap g.T.Chronicle.history (slot_state _ t.0 _ t.1 c.unwrap.ensures) ∙ t.2

pub returns-clause-terms : goal.returns-clause-terms
returns-clause-terms g c = let t = closed_slot _ _ _ _ _ _ _ _ _ _ c.close_with-closed.ensures.values.2 c.requires.idle.0 c.requires.idle.1 c.requires.all c.take-slot.ensures.value in
    ap g.T.Chronicle.terms (slot_state _ t.0 _ t.1 c.unwrap.ensures) ∙ t.3

pub returns-clause-own : goal.returns-clause-own
returns-clause-own g c = (closed_slot _ _ _ _ _ _ _ _ _ _ c.close_with-closed.ensures.values.2 c.requires.idle.0 c.requires.idle.1 c.requires.all c.take-slot.ensures.value).4
