use Rattle.std.proofs.Common.{drop}
use Rattle.spm_session.proofs.PinsLemmas.{IsLooking}
use Rattle.spm_session.proofs.archives.look_at_pins.Given as goal

-- what was looked at is right, and the source had each reply
abbrev pub invariant-loop-pin : goal.invariant-loop-pin
invariant-loop-pin g l = record {
  ready : g.S.Source.ready l.source;
  looking : IsLooking (g.S.Source.knows l.source) l.trust l.pins (drop l.pin-index l.pins) l.sums;
  goes : g.S.Source.goes l.fn.source l.source;
}
