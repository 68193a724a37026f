use Rattle.std.proofs.Common.{◌≡◌, drop}
use Rattle.std.specs.List.{list_any}
use Rattle.pub_trail.specs.Turn.{same_place}
use Rattle.pub_plain.proofs.lists.Lists.is_loaded.Given as goal

abbrev pub invariant-loop-done : goal.invariant-loop-done
invariant-loop-done l = list_any (same_place l.place) (drop l.done-index l.done-items) ≡ list_any (same_place l.place) l.done-items
