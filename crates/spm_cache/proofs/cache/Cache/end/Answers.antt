use Rattle.std.proofs.Common.{rules, ◌≡◌, ap, subst}
use Rattle.spm_turn.specs.Sitting.{Sitting}
use Rattle.spm_cache_core.specs.Calls.{Spends}
use Rattle.spm_cache_core.specs.History.{event}
use Rattle.spm_cache_core.specs.declared.event.Act.TheVariants.{End}
use Rattle.spm_cache_core.specs.declared.event.Event.{Event}
use Rattle.spm_cache.specs.Passing.{Passing}
use Rattle.spm_cache.specs.Seated.{passing}
use Rattle.spm_cache.specs.declared.kept.Terms.{Terms}
use Rattle.spm_cache.proofs.Answered.{end_knows}
use Rattle.spm_cache.proofs.Taken.{found, pass_kept, session_there}
use Rattle.spm_cache.proofs.Went.{spent_steps}
use Rattle.spm_cache.proofs.cache.Cache.end.Goals as goal

pub end-requires : goal.end-requires
end-requires g c =
    let f =
    found c.pass.inside.seat c.pass.inside.actor c.args.pass.now c.take-turn.result c.pass.view_is c.pass.invariant c.take-turn.ensures.others
    c.take-turn.ensures.told c.take-turn.ensures.terms c.take-turn.ensures.legal in
    let here : c.state.result.now ≡ c.take-turn.result = search rules in
    session_there c.args.pass.now c.take-turn.result c.state.result.now here f c.pass.inside.actor (ap (λ (p : Passing). p.actor) c.pass.view_is) c.requires.session

pub returns-clause-steps : goal.returns-clause-steps
returns-clause-steps g c =
    let f =
    found c.pass.inside.seat c.pass.inside.actor c.args.pass.now c.take-turn.result c.pass.view_is c.pass.invariant c.take-turn.ensures.others
    c.take-turn.ensures.told c.take-turn.ensures.terms c.take-turn.ensures.legal in
    let here : c.state.result.now ≡ c.take-turn.result = search rules in
    let new : Passing = passing c.give.new.seat c.pass.inside.actor in
    let same : new ≡ record c.args.pass.now { seen = new.seen } =
    pass_kept c.pass.inside.seat c.take-turn.new.seat c.give.new.seat c.pass.inside.actor c.args.pass.now _ _ c.take-turn.ensures.seat c.give.ensures
    c.pass.view_is in
    let is : c.give.new.seat.seen ≡ c.end.new.self.history = ap (λ (s : Sitting Event Terms). s.seen) c.give.ensures in
    let who : c.pass.inside.actor ≡ c.args.pass.now.actor = ap (λ (p : Passing). p.actor) c.pass.view_is in
    let call : Spends c.state.result.now (event c.args.pass.now.actor End) c.end.new.self =
    subst (λ a. Spends c.state.result.now (event a End) c.end.new.self) who c.end.ensures.call in
    spent_steps c.args.pass.now new same c.take-turn.result c.state.result.now c.end.new.self here f (event c.args.pass.now.actor End) f.own is call

pub returns-clause-knows : goal.returns-clause-knows
returns-clause-knows g c =
    let f =
    found c.pass.inside.seat c.pass.inside.actor c.args.pass.now c.take-turn.result c.pass.view_is c.pass.invariant c.take-turn.ensures.others
    c.take-turn.ensures.told c.take-turn.ensures.terms c.take-turn.ensures.legal in
    let here : c.state.result.now ≡ c.take-turn.result = search rules in
    let new : Passing = passing c.give.new.seat c.pass.inside.actor in
    let same : new ≡ record c.args.pass.now { seen = new.seen } =
    pass_kept c.pass.inside.seat c.take-turn.new.seat c.give.new.seat c.pass.inside.actor c.args.pass.now _ _ c.take-turn.ensures.seat c.give.ensures
    c.pass.view_is in
    let is : c.give.new.seat.seen ≡ c.end.new.self.history = ap (λ (s : Sitting Event Terms). s.seen) c.give.ensures in
    let who : c.pass.inside.actor ≡ c.args.pass.now.actor = ap (λ (p : Passing). p.actor) c.pass.view_is in
    let call : Spends c.state.result.now (event c.args.pass.now.actor End) c.end.new.self =
    subst (λ a. Spends c.state.result.now (event a End) c.end.new.self) who c.end.ensures.call in
    end_knows c.args.pass.now.actor new.seen c.state.result.now c.end.new.self is call
