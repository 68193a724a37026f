use Rattle.std.proofs.Common.{rules, ◌≡◌, refl, ap}
use Rattle.spm_turn.specs.Sitting.{Sitting}
use Rattle.spm_cache_core.specs.History.{event}
use Rattle.spm_cache_core.specs.declared.event.Act.TheVariants.{Land}
use Rattle.spm_cache_core.specs.declared.event.Event.{Event}
use Rattle.spm_cache.specs.Passing.{Passing}
use Rattle.spm_cache.specs.Seated.{passing}
use Rattle.spm_cache.specs.declared.kept.Terms.{Terms}
use Rattle.spm_cache.proofs.Answered.{land_knows}
use Rattle.spm_cache.proofs.Taken.{flight_there, found, pass_kept}
use Rattle.spm_cache.proofs.Went.{seen_legal, spent_keeps, spent_steps}
use Rattle.spm_cache.proofs.cache.Cache.land.Goals as goal

pub land-requires : goal.land-requires
land-requires g c =
    let f =
    found c.pass.inside.seat c.pass.inside.actor c.args.pass.now c.take-turn.result c.pass.view_is c.pass.invariant c.take-turn.ensures.others
    c.take-turn.ensures.told c.take-turn.ensures.terms c.take-turn.ensures.legal in
    let here : c.state.result.now ≡ c.take-turn.result = search rules in
    flight_there c.args.pass.now c.take-turn.result c.state.result.now here f c.args.ticket c.requires.flight.0 c.requires.flight.1

pub returns-clause-steps : goal.returns-clause-steps
returns-clause-steps g c =
    let f =
    found c.pass.inside.seat c.pass.inside.actor c.args.pass.now c.take-turn.result c.pass.view_is c.pass.invariant c.take-turn.ensures.others
    c.take-turn.ensures.told c.take-turn.ensures.terms c.take-turn.ensures.legal in
    let here : c.state.result.now ≡ c.take-turn.result = search rules in
    let new : Passing = passing c.give.new.seat c.pass.inside.actor in
    let same : new ≡ record c.args.pass.now { seen = new.seen } =
    pass_kept c.pass.inside.seat c.take-turn.new.seat c.give.new.seat c.pass.inside.actor c.args.pass.now _ _ c.take-turn.ensures.seat c.give.ensures
    c.pass.view_is in
    let is : c.give.new.seat.seen ≡ c.land.new.self.history = ap (λ (s : Sitting Event Terms). s.seen) c.give.ensures in
    spent_steps c.args.pass.now new same c.take-turn.result c.state.result.now c.land.new.self here f (event c.args.ticket.actor (Land c.args.ticket.key c.args.reply)) c.requires.flight.1 is c.land.ensures.call

pub returns-clause-session : goal.returns-clause-session
returns-clause-session g c =
    let f =
    found c.pass.inside.seat c.pass.inside.actor c.args.pass.now c.take-turn.result c.pass.view_is c.pass.invariant c.take-turn.ensures.others
    c.take-turn.ensures.told c.take-turn.ensures.terms c.take-turn.ensures.legal in
    let here : c.state.result.now ≡ c.take-turn.result = search rules in
    let new : Passing = passing c.give.new.seat c.pass.inside.actor in
    let same : new ≡ record c.args.pass.now { seen = new.seen } =
    pass_kept c.pass.inside.seat c.take-turn.new.seat c.give.new.seat c.pass.inside.actor c.args.pass.now _ _ c.take-turn.ensures.seat c.give.ensures
    c.pass.view_is in
    let is : c.give.new.seat.seen ≡ c.land.new.self.history = ap (λ (s : Sitting Event Terms). s.seen) c.give.ensures in
    spent_keeps c.args.pass.now new same c.take-turn.result c.state.result.now c.land.new.self here f (event c.args.ticket.actor (Land c.args.ticket.key c.args.reply)) c.requires.flight.1 refl is c.land.ensures.call

pub returns-clause-knows : goal.returns-clause-knows
returns-clause-knows g c =
    let f =
    found c.pass.inside.seat c.pass.inside.actor c.args.pass.now c.take-turn.result c.pass.view_is c.pass.invariant c.take-turn.ensures.others
    c.take-turn.ensures.told c.take-turn.ensures.terms c.take-turn.ensures.legal in
    let here : c.state.result.now ≡ c.take-turn.result = search rules in
    let new : Passing = passing c.give.new.seat c.pass.inside.actor in
    let same : new ≡ record c.args.pass.now { seen = new.seen } =
    pass_kept c.pass.inside.seat c.take-turn.new.seat c.give.new.seat c.pass.inside.actor c.args.pass.now _ _ c.take-turn.ensures.seat c.give.ensures
    c.pass.view_is in
    let is : c.give.new.seat.seen ≡ c.land.new.self.history = ap (λ (s : Sitting Event Terms). s.seen) c.give.ensures in
    let legal = seen_legal c.args.pass.now new same c.take-turn.result c.state.result.now c.land.new.self here f c.args.ticket.actor c.land.ensures.moves c.land.ensures.legal is in
    land_knows c.args.pass.now.sessions c.args.pass.now.workers c.args.ticket c.args.reply new.seen c.state.result.now c.land.new.self legal is c.land.ensures.call
    (flight_there c.args.pass.now c.take-turn.result c.state.result.now here f c.args.ticket c.requires.flight.0 c.requires.flight.1)
