use Rattle.std.proofs.Common.{◌≡◌, drop}
use Rattle.pub_term.specs.Known.{AreKnown, holds}
use Rattle.pub_term.proofs.term.Incompat.holds.Given as goal

-- the terms that are left hold if all terms do
abbrev pub invariant-loop-term : goal.invariant-loop-term
invariant-loop-term l = record {
  known : AreKnown l.known (drop l.term-index l.term-items);
  left : holds l.known (drop l.term-index l.term-items) ≡ holds l.known l.self.terms;
}
