use Rattle.std.proofs.Common.{[], ◌∷◌, ◌++◌, ap, append_assoc, arith, sym, ◌∙◌}
use Rattle.spm_run.specs.Actors.{seated}
use Rattle.spm_run.proofs.seats.seat_all.Goals as goal

-- src/seats.rt
pub loop-actor-preserved : goal.loop-actor-preserved
loop-actor-preserved g c =
    let before = c.loop-actor.actors.items in
    let rest = seated c.next_actor.new.passes.rest.items c.next_actor.new.links.rest.items c.next_actor.new.jobs.rest.items in
    let more = c.push_reserved.ensures.len in
    let same = c.push_reserved.ensures.capacity in
    let fewer = c.in-Some.ensures.fewer in
    let room = c.loop-actor.invariant.room in
    record {
      all = ap (λ actors. actors ++ rest) c.push_reserved.ensures.items ∙ append_assoc before (c.in-Some.actor ∷ []) rest
          ∙ ap (λ actors. before ++ actors) (sym c.in-Some.ensures.some) ∙ c.loop-actor.invariant.all;
      room = omega (arith, more, same, fewer, room);
    }
