use Rattle.std.proofs.Common.{rules, ◌≡◌, refl, ap}
use Rattle.spm_turn.specs.Sitting.{Sitting}
use Rattle.spm_cache_core.specs.History.{event}
use Rattle.spm_cache_core.specs.declared.event.Act.TheVariants.{Fail}
use Rattle.spm_cache_core.specs.declared.event.Event.{Event}
use Rattle.spm_cache.specs.Passing.{Passing}
use Rattle.spm_cache.specs.Seated.{passing}
use Rattle.spm_cache.specs.declared.kept.Terms.{Terms}
use Rattle.spm_cache.proofs.Taken.{flight_there, found, pass_kept}
use Rattle.spm_cache.proofs.Went.{spent_keeps, spent_steps}
use Rattle.spm_cache.proofs.cache.Cache.fail.Goals as goal

pub fail-requires : goal.fail-requires
fail-requires g c =
    let f =
    found c.pass.inside.seat c.pass.inside.actor c.args.pass.now c.take-turn.result c.pass.view_is c.pass.invariant c.take-turn.ensures.others
    c.take-turn.ensures.told c.take-turn.ensures.terms c.take-turn.ensures.legal in
    let here : c.state.result.now ≡ c.take-turn.result = search rules in
    flight_there c.args.pass.now c.take-turn.result c.state.result.now here f c.args.ticket c.requires.flight.0 c.requires.flight.1

pub returns-clause-steps : goal.returns-clause-steps
returns-clause-steps g c =
    let f =
    found c.pass.inside.seat c.pass.inside.actor c.args.pass.now c.take-turn.result c.pass.view_is c.pass.invariant c.take-turn.ensures.others
    c.take-turn.ensures.told c.take-turn.ensures.terms c.take-turn.ensures.legal in
    let here : c.state.result.now ≡ c.take-turn.result = search rules in
    let new : Passing = passing c.give.new.seat c.pass.inside.actor in
    let same : new ≡ record c.args.pass.now { seen = new.seen } =
    pass_kept c.pass.inside.seat c.take-turn.new.seat c.give.new.seat c.pass.inside.actor c.args.pass.now _ _ c.take-turn.ensures.seat c.give.ensures
    c.pass.view_is in
    let is : c.give.new.seat.seen ≡ c.fail.new.self.history = ap (λ (s : Sitting Event Terms). s.seen) c.give.ensures in
    spent_steps c.args.pass.now new same c.take-turn.result c.state.result.now c.fail.new.self here f (event c.args.ticket.actor (Fail c.args.ticket.key c.args.why)) c.requires.flight.1 is c.fail.ensures.call

pub returns-clause-session : goal.returns-clause-session
returns-clause-session g c =
    let f =
    found c.pass.inside.seat c.pass.inside.actor c.args.pass.now c.take-turn.result c.pass.view_is c.pass.invariant c.take-turn.ensures.others
    c.take-turn.ensures.told c.take-turn.ensures.terms c.take-turn.ensures.legal in
    let here : c.state.result.now ≡ c.take-turn.result = search rules in
    let new : Passing = passing c.give.new.seat c.pass.inside.actor in
    let same : new ≡ record c.args.pass.now { seen = new.seen } =
    pass_kept c.pass.inside.seat c.take-turn.new.seat c.give.new.seat c.pass.inside.actor c.args.pass.now _ _ c.take-turn.ensures.seat c.give.ensures
    c.pass.view_is in
    let is : c.give.new.seat.seen ≡ c.fail.new.self.history = ap (λ (s : Sitting Event Terms). s.seen) c.give.ensures in
    spent_keeps c.args.pass.now new same c.take-turn.result c.state.result.now c.fail.new.self here f (event c.args.ticket.actor (Fail c.args.ticket.key c.args.why)) c.requires.flight.1 refl is c.fail.ensures.call
