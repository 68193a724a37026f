use Rattle.std.proofs.Common.{rules, ◌≡◌, ap, subst}
use Rattle.spm_turn.specs.Sitting.{Sitting}
use Rattle.spm_cache_core.specs.Calls.{AskTells}
use Rattle.spm_cache_core.specs.declared.event.Event.{Event}
use Rattle.spm_cache.specs.Calls.{OrSame}
use Rattle.spm_cache.specs.Passing.{Passing}
use Rattle.spm_cache.specs.Seated.{passing}
use Rattle.spm_cache.specs.declared.kept.Terms.{Terms}
use Rattle.spm_cache.proofs.Answered.{ask_knows}
use Rattle.spm_cache.proofs.Taken.{found, pass_kept, session_there}
use Rattle.spm_cache.proofs.Went.{ask_went, seen_legal}
use Rattle.spm_cache.proofs.cache.Cache.ask.Goals as goal

pub ask-asked-requires : goal.ask-asked-requires
ask-asked-requires g c =
    let f =
    found c.pass.inside.seat c.pass.inside.actor c.args.pass.now c.take-turn.result c.pass.view_is c.pass.invariant c.take-turn.ensures.others
    c.take-turn.ensures.told c.take-turn.ensures.terms c.take-turn.ensures.legal in
    let here : c.state.result.now ≡ c.take-turn.result = search rules in
    session_there c.args.pass.now c.take-turn.result c.state.result.now here f c.pass.inside.actor (ap (λ (p : Passing). p.actor) c.pass.view_is) c.requires.session

pub returns-clause-steps : goal.returns-clause-steps
returns-clause-steps g c =
    let f =
    found c.pass.inside.seat c.pass.inside.actor c.args.pass.now c.take-turn.result c.pass.view_is c.pass.invariant c.take-turn.ensures.others
    c.take-turn.ensures.told c.take-turn.ensures.terms c.take-turn.ensures.legal in
    let here : c.state.result.now ≡ c.take-turn.result = search rules in
    let new : Passing = passing c.give.new.seat c.pass.inside.actor in
    let same : new ≡ record c.args.pass.now { seen = new.seen } =
    pass_kept c.pass.inside.seat c.take-turn.new.seat c.give.new.seat c.pass.inside.actor c.args.pass.now _ _ c.take-turn.ensures.seat c.give.ensures
    c.pass.view_is in
    let is : c.give.new.seat.seen ≡ c.ask-asked.new.self.history = ap (λ (s : Sitting Event Terms). s.seen) c.give.ensures in
    let who : c.pass.inside.actor ≡ c.args.pass.now.actor = ap (λ (p : Passing). p.actor) c.pass.view_is in
    let call : OrSame c.ask-asked.result (λ asked. AskTells asked c.args.pass.now.actor c.args.key.now) c.state.result.now c.ask-asked.new.self =
    subst (λ a. OrSame c.ask-asked.result (λ asked. AskTells asked a c.args.key.now) c.state.result.now c.ask-asked.new.self) who c.ask-asked.ensures.call in
    (ask_went c.args.pass.now new same c.take-turn.result c.state.result.now c.ask-asked.new.self here f c.args.key.now c.ask-asked.result is call).0

pub returns-clause-session : goal.returns-clause-session
returns-clause-session g c =
    let f =
    found c.pass.inside.seat c.pass.inside.actor c.args.pass.now c.take-turn.result c.pass.view_is c.pass.invariant c.take-turn.ensures.others
    c.take-turn.ensures.told c.take-turn.ensures.terms c.take-turn.ensures.legal in
    let here : c.state.result.now ≡ c.take-turn.result = search rules in
    let new : Passing = passing c.give.new.seat c.pass.inside.actor in
    let same : new ≡ record c.args.pass.now { seen = new.seen } =
    pass_kept c.pass.inside.seat c.take-turn.new.seat c.give.new.seat c.pass.inside.actor c.args.pass.now _ _ c.take-turn.ensures.seat c.give.ensures
    c.pass.view_is in
    let is : c.give.new.seat.seen ≡ c.ask-asked.new.self.history = ap (λ (s : Sitting Event Terms). s.seen) c.give.ensures in
    let who : c.pass.inside.actor ≡ c.args.pass.now.actor = ap (λ (p : Passing). p.actor) c.pass.view_is in
    let call : OrSame c.ask-asked.result (λ asked. AskTells asked c.args.pass.now.actor c.args.key.now) c.state.result.now c.ask-asked.new.self =
    subst (λ a. OrSame c.ask-asked.result (λ asked. AskTells asked a c.args.key.now) c.state.result.now c.ask-asked.new.self) who c.ask-asked.ensures.call in
    (ask_went c.args.pass.now new same c.take-turn.result c.state.result.now c.ask-asked.new.self here f c.args.key.now c.ask-asked.result is call).1

pub returns-clause-knows : goal.returns-clause-knows
returns-clause-knows g c =
    let f =
    found c.pass.inside.seat c.pass.inside.actor c.args.pass.now c.take-turn.result c.pass.view_is c.pass.invariant c.take-turn.ensures.others
    c.take-turn.ensures.told c.take-turn.ensures.terms c.take-turn.ensures.legal in
    let here : c.state.result.now ≡ c.take-turn.result = search rules in
    let new : Passing = passing c.give.new.seat c.pass.inside.actor in
    let same : new ≡ record c.args.pass.now { seen = new.seen } =
    pass_kept c.pass.inside.seat c.take-turn.new.seat c.give.new.seat c.pass.inside.actor c.args.pass.now _ _ c.take-turn.ensures.seat c.give.ensures
    c.pass.view_is in
    let is : c.give.new.seat.seen ≡ c.ask-asked.new.self.history = ap (λ (s : Sitting Event Terms). s.seen) c.give.ensures in
    let who : c.pass.inside.actor ≡ c.args.pass.now.actor = ap (λ (p : Passing). p.actor) c.pass.view_is in
    let call : OrSame c.ask-asked.result (λ asked. AskTells asked c.args.pass.now.actor c.args.key.now) c.state.result.now c.ask-asked.new.self =
    subst (λ a. OrSame c.ask-asked.result (λ asked. AskTells asked a c.args.key.now) c.state.result.now c.ask-asked.new.self) who c.ask-asked.ensures.call in
    let legal = seen_legal c.args.pass.now new same c.take-turn.result c.state.result.now c.ask-asked.new.self here f c.pass.inside.actor c.ask-asked.ensures.moves c.ask-asked.ensures.legal is in
    ask_knows c.args.pass.now.sessions c.args.pass.now.workers c.args.pass.now.actor c.args.key.now new.seen c.state.result.now c.ask-asked.new.self c.ask-asked.result legal is call
