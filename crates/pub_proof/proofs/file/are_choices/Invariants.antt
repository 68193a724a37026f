use Rattle.std.proofs.Common.{◌≡◌, None, drop}
use Rattle.pub_proof.specs.File.{are_choices}
use Rattle.pub_proof.proofs.file.are_choices.Given as goal

abbrev pub invariant-loop-number : goal.invariant-loop-number
invariant-loop-number l = are_choices l.size l.before (drop l.number-index l.numbers) ≡ are_choices l.size None l.numbers
