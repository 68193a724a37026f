use Rattle.std.proofs.Common.{rules}
use Rattle.spm_turn.proofs.TurnSteps.{opens}
use Rattle.spm_turn.proofs.lock.TurnLock.open.Goals as goal

pub load-requires : goal.load-requires
load-requires g c = (search rules, search rules, opens _ _ _ _ _ _ _ _ c.requires.opening.0)
