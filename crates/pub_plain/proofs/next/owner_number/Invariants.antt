use Rattle.std.proofs.Common.{◌≡◌, ◌+◌, drop}
use Rattle.pub_plain.specs.Choosing.{owner_number}
use Rattle.pub_plain.proofs.next.owner_number.Given as goal

abbrev pub invariant-loop-other : goal.invariant-loop-other
invariant-loop-other l = record {
  place : l.number ≡ l.other-index;
  rest : l.number + owner_number (drop l.other-index l.names) l.name ≡ owner_number l.names l.name;
}
