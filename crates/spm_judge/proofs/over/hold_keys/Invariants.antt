use Rattle.std.proofs.Common.{◌≡◌}
use Rattle.spm_judge.specs.Fetching.{ArePinsHeld, keys_left}
use Rattle.spm_judge.specs.Held.{held_in}
use Rattle.spm_judge.specs.Over.{AreFrom}
use Rattle.spm_judge.proofs.over.hold_keys.Given as goal

-- the pins are held, over the same book and without a fault
abbrev pub invariant-loop-some : goal.invariant-loop-some
invariant-loop-some g l = record {
  pins : ArePinsHeld l.pins (held_in l.held);
  from : AreFrom (g.L.Link.state l.fn.link).book l.base (held_in l.fn.held)
      → AreFrom (g.L.Link.state l.fn.link).book l.base (held_in l.held);
  book : (g.L.Link.state l.link).book ≡ (g.L.Link.state l.fn.link).book;
  faults : (g.L.Link.state l.link).faults ≡ (g.L.Link.state l.fn.link).faults;
}

-- fewer look-ups are left
abbrev pub decreases-loop-some : goal.decreases-loop-some
decreases-loop-some g l = keys_left (record { root = l.root; asked = l.asked; tools = l.tools }) l.pins (held_in l.held)
