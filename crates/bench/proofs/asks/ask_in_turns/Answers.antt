use Rattle.std.proofs.Common.{◌+◌}
use Rattle.bench.proofs.Ready.{popped_ready}
use Rattle.bench.proofs.asks.ask_in_turns.Goals as goal

pub land_by_pass-requires : goal.land_by_pass-requires
land_by_pass-requires g c =
    (popped_ready c.in_ok-cache.cache.id (c.args.threads + 1) c.in_ok-cache.passes.items c.pop.new.self.items c.in-Some.lander c.in_ok-cache.ensures.passes c.in-Some.ensures.items).1

pub ask_shared-requires-after_bounds : goal.ask_shared-requires-after_bounds
ask_shared-requires-after_bounds g c κs within =
    (popped_ready c.in_ok-cache.cache.id (c.args.threads + 1) c.in_ok-cache.passes.items c.pop.new.self.items c.in-Some.lander c.in_ok-cache.ensures.passes c.in-Some.ensures.items).0
