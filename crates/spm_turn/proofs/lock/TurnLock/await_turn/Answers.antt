use Rattle.std.proofs.Common.{rules, ap, ◌∙◌}
use Rattle.spm_turn.proofs.TurnSteps.{looks}
use Rattle.spm_turn.proofs.Held.{served_slot}
use Rattle.spm_turn.proofs.lock.TurnLock.await_turn.Goals as goal

pub load-serving-requires : goal.load-serving-requires
load-serving-requires g c = (search rules, search rules, looks _ _ _ _ _ _ _ _ c.args.ticket g.N.Picked.number (search rules) (search rules))

pub exchange-held-requires : goal.exchange-held-requires
exchange-held-requires g c = let told = c.load-serving.ensures.2 c.args.ticket (ap (λ m. m.0.stage) c.loop.invariant.2 ∙ c.requires.waits.0) in let k = c.self.inside.table.shared.key in
    (search rules, served_slot _ _ _ _ (g.T.Chronicle.terms k.state) c.args.ticket c.loop.place.me _ (told.0 (search rules)))
