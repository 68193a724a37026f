use Rattle.std.proofs.Common.{[], take}
use Rattle.pub_trail.specs.KnownOf.{AreLeft}
use Rattle.pub_trail.proofs.left.all_whole.Given as goal

abbrev pub invariant-loop-size : goal.invariant-loop-size
invariant-loop-size l = AreLeft (take l.size-index l.sizes) [] l.known.items
