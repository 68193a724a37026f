use Rattle.std.proofs.Common.{◌≡◌}
use Rattle.pub_plain.specs.Ending.{steps_left}
use Rattle.spm_session.specs.Run.{IsRun}
use Rattle.spm_session.proofs.run.turn_on.Given as goal

-- the run goes on, and the source had each reply
abbrev pub invariant-loop-outcome : goal.invariant-loop-outcome
invariant-loop-outcome g l = record {
  ready : g.S.Source.ready l.source;
  run : IsRun (g.S.Source.knows l.source) l.plain;
  job : (l.plain.job ≡ l.fn.plain.job) × (l.plain.pins ≡ l.fn.plain.pins);
  goes : g.S.Source.goes l.initial.source l.source;
}

-- it comes to its end
abbrev pub decreases-loop-outcome : goal.decreases-loop-outcome
decreases-loop-outcome g l = steps_left l.plain
