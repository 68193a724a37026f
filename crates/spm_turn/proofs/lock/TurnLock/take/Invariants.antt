use Rattle.spm_turn.proofs.lock.TurnLock.take.Given as goal

abbrev pub ghosts-await_turn : goal.ghosts-await_turn
ghosts-await_turn g a = record { number = a.self.now.numbers }
