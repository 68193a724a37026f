use Rattle.std.proofs.Common.{◌≡◌, drop}
use Rattle.pub_plain.specs.Choosing.{pin_of}
use Rattle.pub_plain.proofs.preference.pin_of.Given as goal

abbrev pub invariant-loop-pinned : goal.invariant-loop-pinned
invariant-loop-pinned l = pin_of (drop l.pinned-index l.pins) l.identity ≡ pin_of l.pins l.identity
