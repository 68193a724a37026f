use Rattle.std.proofs.Common.{rules, ap, ◌∙◌, arith}
use Rattle.spm_turn.proofs.SeatSteps.{rests}
use Rattle.spm_turn.proofs.Held.{told_on}
use Rattle.spm_turn.proofs.lock.TurnLock.watch.Goals as goal

pub load-found-requires : goal.load-found-requires
load-found-requires g c = (search rules, search rules, rests _ _ _ _ _ _ _ _ (ap (λ m. m.0.stage) c.loop.invariant.2.1 ∙ c.requires.idle))

pub returns-then-found-count-clause-me : goal.returns-then-found-count-clause-me
returns-then-found-count-clause-me g c = let i = c.loop.invariant.2 in let k = c.self.inside.table.shared.key in
    let t = told_on g.T.Chronicle.history g.T.Chronicle.terms g.T.Chronicle.by k.numbers (g.T.Chronicle.terms k.state) _ _ c.loop.place.me _ i.0 c.load-found.result i.1 i.2 c.load-found.ensures.2 in let l = t.3 in
    (t.0, t.1, t.2, omega (arith, c.if-found-count.true))

pub loop-preserved : goal.loop-preserved
loop-preserved g c = let i = c.loop.invariant.2 in let k = c.self.inside.table.shared.key in
    let t = told_on g.T.Chronicle.history g.T.Chronicle.terms g.T.Chronicle.by k.numbers (g.T.Chronicle.terms k.state) _ _ c.loop.place.me _ i.0 c.load-found.result i.1 i.2 c.load-found.ensures.2 in
    (search rules, search rules, (t.0, t.1, t.2))
