use Rattle.std.proofs.Common.{refl}
use Rattle.spm_turn.proofs.Ends.{begins}
use Rattle.spm_turn.proofs.lock.TurnLock.new.Goals as goal

pub vacant-requires : goal.vacant-requires
vacant-requires g c = begins _ _ _ _ _ _ _ refl refl c.requires.some
