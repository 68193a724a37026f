use Rattle.std.proofs.Common.{◌≡◌, ◌≤◌, length, reverse, take}
use Rattle.pub_trail.specs.Trail.{up_to}
use Rattle.pub_trail.proofs.lists.drop_above.Given as goal

abbrev pub invariant-loop-kept : goal.invariant-loop-kept
invariant-loop-kept l = record {
  within : l.kept ≤ length l.trail.items;
  left : up_to l.level (reverse (take l.kept l.trail.items)) ≡ up_to l.level (reverse l.trail.items);
}

abbrev pub decreases-loop-kept : goal.decreases-loop-kept
decreases-loop-kept l = l.kept
