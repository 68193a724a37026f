use Rattle.std.proofs.Common.{◌≡◌, ◌≤◌, ◌-◌, drop, false, length, replicate}
use Rattle.pub_trail.specs.Required.{decision_in, loaded_facts}
use Rattle.pub_trail.specs.Walk.{terms_of}
use Rattle.pub_trail.proofs.RequiredLemmas.{AreMarking}
use Rattle.pub_trail.proofs.required.marked.Given as goal

abbrev pub invariant-loop-marks : goal.invariant-loop-marks
invariant-loop-marks l = record {
  within : length l.marks.items ≤ length l.decisions;
  none : l.marks.items ≡ replicate (length l.marks.items) false;
}

abbrev pub decreases-loop-marks : goal.decreases-loop-marks
decreases-loop-marks l = length l.decisions - length l.marks.items

abbrev pub invariant-loop-place : goal.invariant-loop-place
invariant-loop-place l = record {
  within : l.place ≤ length l.incompats;
  marks :
      AreMarking (decision_in l.decisions) (length l.decisions) (loaded_facts (drop l.place (terms_of l.incompats)) (drop l.place l.origins))
      (loaded_facts (terms_of l.incompats) l.origins) l.marks.items;
}

abbrev pub decreases-loop-place : goal.decreases-loop-place
decreases-loop-place l = length l.incompats - l.place
