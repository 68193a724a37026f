use Rattle.std.proofs.Common.{◌≤◌, ◌-◌, [], length, reverse, take}
use Rattle.pub_trail.specs.Required.{AreDecisions}
use Rattle.pub_trail.proofs.required.decisions.Given as goal

abbrev pub invariant-loop-found : goal.invariant-loop-found
invariant-loop-found l = record {
  within : length l.found.items ≤ l.count;
  none : AreDecisions (length l.found.items) [] l.found.items;
}

abbrev pub decreases-loop-found : goal.decreases-loop-found
decreases-loop-found l = l.count - length l.found.items

abbrev pub invariant-loop-entry : goal.invariant-loop-entry
invariant-loop-entry l = AreDecisions l.count (reverse (take l.entry-index l.trail)) l.found.items
