use Rattle.std.proofs.Common.{◌≡◌, length, take, reverse}
use Rattle.pub_trail.specs.KnownOf.{AreBefore, AreLeft}
use Rattle.pub_trail.proofs.left.Left.of.Given as goal

abbrev pub invariant-loop-entry : goal.invariant-loop-entry
invariant-loop-entry l = record {
  now : AreLeft l.sizes (reverse (take l.entry-index l.trail)) l.now.items;
  long : length l.before.items ≡ l.entry-index;
  before : AreBefore l.sizes (take l.entry-index l.trail) l.before.items;
}
