use Rattle.std.proofs.Common.{◌≡◌, take}
use Rattle.pub_trail.proofs.walk.left_with.Given as goal

abbrev pub invariant-loop-choices : goal.invariant-loop-choices
invariant-loop-choices l = l.copies.items ≡ take l.choices-index l.left
