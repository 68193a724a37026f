use Rattle.std.proofs.Common.{rules}
use Rattle.spm_turn.proofs.CountSteps.{counts}
use Rattle.spm_turn.proofs.lock.TurnLock.count.Goals as goal

pub fetch_add-requires : goal.fetch_add-requires
fetch_add-requires g c = let r = c.requires.grown in (search rules, search rules, counts _ _ _ _ _ _ _ _ r.0 r.1 r.2 r.3 r.4 r.5 r.6 r.7)
