use Rattle.std.proofs.Common.{rules, ap, sym, subst}
use Rattle.spm_turn.specs.Views.{is_away}
use Rattle.spm_turn.proofs.SeatSteps.{joins, settles}
use Rattle.spm_turn.proofs.Stages.{IsMet}
use Rattle.spm_turn.proofs.lock.TurnLock.join.Goals as goal

pub join_seat-requires : goal.join_seat-requires
join_seat-requires g c = (search rules, search rules, search rules, search rules, joins _ _ _ _ _ _ _ _ _ _ c.requires.idle.0 c.requires.idle.1 c.requires.numbered.0 c.requires.numbered.1)

pub load-requires : goal.load-requires
load-requires g c = let is = c.join_seat.ensures.2 in
    (search rules, search rules, settles _ _ _ _ _ _ _ _ (ap (λ m. is_away m.0.stage) is) (subst (λ m. IsMet m.0.stage) (sym is) tt))
