use Rattle.std.proofs.Common.{◌+◌, ◌<◌, arith}
use Rattle.spm_cache.specs.Passing.{newcomers}
use Rattle.spm_cache.proofs.Opened.{dealt_length, dealt_passes, dealt_seat}
use Rattle.spm_cache.proofs.cache.Cache.deal.Goals as goal

pub loop-actor-preserved : goal.loop-actor-preserved
loop-actor-preserved c =
    let t = c.loop-actor-test.true in
    let total = c.args.sessions + c.args.workers in
    let is = c.loop-actor.invariant.0 in
    let below : c.loop-actor.actor < c.args.sessions + c.args.workers = omega (arith, t) in
    let room = c.loop-actor.invariant.3 in
    let kept = c.push_reserved.ensures.capacity in (
      dealt_seat c.args.self.now.id c.args.sessions c.args.workers c.loop-actor.actor total c.loop-actor.seat is _ c.first_pass-pass.ensures.kept,
      dealt_passes c.args.self.now.id c.args.sessions c.args.workers c.loop-actor.actor total c.loop-actor.seat is c.loop-actor.passes.items _
          (newcomers c.args.self.now.id c.args.sessions c.args.workers) c.first_pass-pass.result below c.first_pass-pass.ensures.given
          c.push_reserved.ensures.items c.loop-actor.invariant.1,
      dealt_length c.loop-actor.passes.items _ c.first_pass-pass.result c.loop-actor.actor c.push_reserved.ensures.items c.loop-actor.invariant.2,
      omega (arith, room, kept),
    )
