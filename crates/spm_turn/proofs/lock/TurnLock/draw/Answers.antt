use Rattle.std.proofs.Common.{rules, refl}
use Rattle.spm_turn.proofs.TurnSteps.{draws}
use Rattle.spm_turn.proofs.lock.TurnLock.draw.Goals as goal

pub compare_exchange-found-requires : goal.compare_exchange-found-requires
compare_exchange-found-requires g c = (search rules, search rules, draws _ _ _ _ _ _ _ _ _ _ (search rules) (search rules) (search rules) refl)
