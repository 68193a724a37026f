use Rattle.std.proofs.Common.{◌-◌, ◌≤◌, vec_len}
use Rattle.kevannir.specs.declared.TheConstants.{LINKS}
use Rattle.kevannir.proofs.links.Given as goal

abbrev pub invariant-loop-alloc : goal.invariant-loop-alloc
invariant-loop-alloc l = vec_len l.links ≤ LINKS

abbrev pub decreases-loop-alloc : goal.decreases-loop-alloc
decreases-loop-alloc l = LINKS - vec_len l.links
