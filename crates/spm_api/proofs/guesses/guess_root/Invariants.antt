use Rattle.std.proofs.Common.{◌≡◌, ◌++◌, drop}
use Rattle.spm_api.specs.Guess.{keys_of}
use Rattle.spm_api.proofs.guesses.guess_root.Given as goal

abbrev pub invariant-loop-need : goal.invariant-loop-need
invariant-loop-need l = l.keys ++ keys_of (drop l.need-index l.need-items) ≡ keys_of l.need-items
