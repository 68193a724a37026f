use Rattle.std.proofs.Common.{◌≡◌, ◌++◌, [], ap, refl, subst}
use Rattle.spm_cache.specs.Passing.{Passing}
use Rattle.spm_worker.specs.Worker.{IsRound, LastRound}
use Rattle.spm_flight.proofs.WorkLemmas.{does_nothing, does_then}
use Rattle.spm_worker.proofs.RoundLemmas.{rounds_end, rounds_on}
use Rattle.spm_worker.proofs.worker.work.Goals as goal

-- src/worker.rt
pub loop-init : goal.loop-init
loop-init g c = record {
  next = (tt, tt);
  done = ([], does_nothing c.args.run.now.base.now (g.L.Link.state c.args.link.now) c.args.pass.now, ([], refl));
}

pub returns-in-Some-round : goal.returns-in-Some-round
returns-in-Some-round g c =
    let before = c.loop.invariant.done in
    let last = c.in-Some-round.ensures.last in
    let actor : c.loop.pass.actor ≡ c.args.pass.now.actor = ap (λ (pass : Passing). pass.actor) before.1.steps.same in
    record {
      work = (
        before.0 ++ last.0,
        does_then c.args.run.now.base.now _ _ _ c.args.pass.now c.loop.pass c.round.new.pass before.0 last.0 before.1 last.1,
        rounds_end c.args.pass.now.actor c.in-Some-round.end before.0 last.0 before.2
            (subst (λ a. LastRound a c.in-Some-round.end last.0) actor last.2),
      );
    }

pub loop-preserved : goal.loop-preserved
loop-preserved g c =
    let before = c.loop.invariant.done in
    let more = c.in_default.ensures.more in
    let actor : c.loop.pass.actor ≡ c.args.pass.now.actor = ap (λ (pass : Passing). pass.actor) before.1.steps.same in
    record {
      next = (tt, tt);
      done = (
        before.0 ++ more.0,
        does_then c.args.run.now.base.now _ _ _ c.args.pass.now c.loop.pass c.round.new.pass before.0 more.0 before.1 more.1,
        rounds_on c.args.pass.now.actor before.0 more.0 before.2 (subst (λ a. IsRound a more.0) actor more.2),
      );
    }
