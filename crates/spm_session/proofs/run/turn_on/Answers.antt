use Rattle.std.proofs.Common.{◌∙◌}
use Rattle.spm_session.proofs.SourceLemmas.{then_ends}
use Rattle.spm_session.proofs.run.turn_on.Goals as goal

-- src/run.rt
pub loop-outcome-preserved : goal.loop-outcome-preserved
loop-outcome-preserved g c =
    let kept = c.in_default.ensures in
    let before = c.loop-outcome.invariant in
    record {
      ready = kept.ready;
      run = kept.run before.run;
      job = (kept.job.0 ∙ before.job.0, kept.job.1 ∙ before.job.1);
      goes = g.S.Source.onward _ _ _ before.goes kept.went;
    }

pub loop-outcome-smaller : goal.loop-outcome-smaller
loop-outcome-smaller g c = c.in_default.ensures.falls c.loop-outcome.invariant.run

pub returns-in-Err-clause-went : goal.returns-in-Err-clause-went
returns-in-Err-clause-went g c =
    then_ends g.S.Source.goes g.S.Source.misses _ _ _ (g.S.Source.onward _ _ _) (λ asked why. g.S.Source.then_misses _ _ _ asked why)
    c.in-Err.outcome c.loop-outcome.invariant.goes c.in-Err.ensures.went

pub returns-in-Err-clause-wider : goal.returns-in-Err-clause-wider
returns-in-Err-clause-wider g c = λ asked reply has.
    c.step.ensures.wider asked reply (g.S.Source.keeps _ _ c.loop-outcome.invariant.goes asked reply has)
