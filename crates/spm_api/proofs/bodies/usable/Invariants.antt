use Rattle.std.proofs.Common.{◌≡◌, ◌++◌}
use Rattle.std.specs.Vec.Iter.{into_iter_items}
use Rattle.spm_api.specs.Bodies.{all_some}
use Rattle.spm_api.proofs.bodies.usable.Given as goal

abbrev pub invariant-loop-entry : goal.invariant-loop-entry
invariant-loop-entry l = l.releases.items ++ all_some (into_iter_items l.entry-iterator) ≡ all_some l.fn.listed
