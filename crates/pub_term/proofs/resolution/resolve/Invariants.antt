use Rattle.std.proofs.Common.{◌+◌, ◌-◌, length}
use Rattle.pub_term.proofs.StepLemmas.{IsMerging}
use Rattle.pub_term.proofs.resolution.resolve.Given as goal

abbrev pub invariant-loop-i : goal.invariant-loop-i
invariant-loop-i l = IsMerging l.first l.second l.on l.terms l.i l.j

abbrev pub decreases-loop-i : goal.decreases-loop-i
decreases-loop-i l = (length l.first - l.i) + (length l.second - l.j)
