use Rattle.std.proofs.Common.{rules}
use Rattle.spm_turn.proofs.CountSteps.{passes}
use Rattle.spm_turn.proofs.lock.TurnLock.pass_on.Goals as goal

pub fetch_add-requires : goal.fetch_add-requires
fetch_add-requires g c = let r = c.requires.full in (search rules, search rules, passes _ _ _ _ _ _ _ _ r.0 r.1 r.2 r.3 r.4)
