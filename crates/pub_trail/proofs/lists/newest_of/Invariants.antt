use Rattle.std.proofs.Common.{◌≡◌, ◌≤◌, length, take}
use Rattle.pub_term.specs.Known as kept
use Rattle.pub_trail.specs.Turn.{newest_from}
use Rattle.pub_trail.specs.Walk.{terms_of}
use Rattle.pub_trail.proofs.lists.newest_of.Given as goal

abbrev pub invariant-loop-place : goal.invariant-loop-place
invariant-loop-place l = record {
  within : l.place ≤ length l.incompats;
  left :
      newest_from (kept.holds l.left) 0 (take l.place (terms_of l.incompats)) ≡ newest_from (kept.holds l.left) 0 (terms_of l.incompats);
}

abbrev pub decreases-loop-place : goal.decreases-loop-place
decreases-loop-place l = l.place
