use Rattle.std.proofs.Common.{◌≡◌, drop}
use Rattle.spm_judge.specs.Fetching.{IsMore}
use Rattle.spm_judge.specs.Held.{held_in}
use Rattle.spm_judge.specs.Over.{AreFrom}
use Rattle.spm_judge.proofs.RoundLemmas.{AreHeldBut}
use Rattle.spm_judge.proofs.over.hold_all.Given as goal

-- the keys so far are held, over the same book and without a fault
abbrev pub invariant-loop-key : goal.invariant-loop-key
invariant-loop-key g l = record {
  more : IsMore (held_in l.initial.held) (held_in l.held);
  there : AreHeldBut (drop l.key-index l.keys) l.keys (held_in l.held);
  from : AreFrom (g.L.Link.state l.initial.link).book l.base (held_in l.initial.held)
      → AreFrom (g.L.Link.state l.initial.link).book l.base (held_in l.held);
  book : (g.L.Link.state l.link).book ≡ (g.L.Link.state l.initial.link).book;
  faults : (g.L.Link.state l.link).faults ≡ (g.L.Link.state l.initial.link).faults;
}
