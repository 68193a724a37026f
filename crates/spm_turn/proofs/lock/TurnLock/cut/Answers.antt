use Rattle.std.proofs.Common.{rules, subst, ℕ}
use Rattle.atomic_table.specs.Table.{Splits}
use Rattle.spm_turn.specs.Views.{keeping, giving}
use Rattle.spm_turn.specs.Rule.{IsKept}
use Rattle.spm_turn.proofs.SeatSteps.{splits}
use Rattle.spm_turn.proofs.lock.TurnLock.cut.Goals as goal

pub split_seat-requires : goal.split_seat-requires
split_seat-requires g c = let v = c.args.place.now.me.0 in let k = c.self.inside.table.shared.key in (
  search rules,
  search rules,
  subst (λ (n : ℕ). Splits (IsKept g.T.Chronicle.history g.T.Chronicle.terms g.T.Chronicle.by k.numbers (g.T.Chronicle.terms k.state)) c.args.place.now.id v (keeping n v) (giving n v)) c.requires.number.0
      (splits _ _ _ _ _ _ v c.args.number c.requires.idle c.requires.number.1),
)
