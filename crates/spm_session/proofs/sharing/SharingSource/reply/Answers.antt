use Rattle.std.proofs.Common.{ap}
use Rattle.spm_cache.specs.Passing.{Passing}
use Rattle.spm_session.specs.SharingLaws.{sharing_onward}
use Rattle.spm_session.proofs.SharingLemmas.{answered_goes, answered_misses, rests_on, rests_ready}
use Rattle.spm_session.proofs.sharing.SharingSource.reply.Goals as goal

-- src/sharing.rt
pub returns-in-Some-ask-clause-goes : goal.returns-in-Some-ask-clause-goes
returns-in-Some-ask-clause-goes g c =
    answered_goes g.L.Link.state c.args.self.now c.loop.self c.ask.new.self c.loop.invariant.goes c.in-Some-ask.answer c.in-Some-ask.ensures.got

pub returns-in-Some-ask-clause-misses : goal.returns-in-Some-ask-clause-misses
returns-in-Some-ask-clause-misses g c =
    answered_misses g.L.Link.state c.args.self.now c.loop.self c.ask.new.self c.args.key.now c.loop.invariant.goes c.in-Some-ask.answer
    c.in-Some-ask.ensures.misses

pub loop-preserved : goal.loop-preserved
loop-preserved g c =
    let second = c.ask.new.self in
    let third = record second { pass = record second.pass { now = c.rest.new.pass } } in
    let same = ap (λ (p : Passing). record second { pass = record second.pass { now = p } }) c.rest.ensures.pass in
    record {
      next = (tt, tt);
      ready = rests_ready g.L.Link.state c.loop.self second third c.rest.new.pass.told same c.in-None-ask.ensures.ready;
      goes = sharing_onward g.L.Link.state c.args.self.now second third
          (sharing_onward g.L.Link.state c.args.self.now c.loop.self second c.loop.invariant.goes c.in-None-ask.ensures.goes)
          (rests_on g.L.Link.state c.loop.self second third c.rest.new.pass.told same);
    }
