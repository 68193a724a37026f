use Rattle.std.proofs.Common.{rules, ◌≡◌, ap, ◌∙◌, subst}
use Rattle.spm_turn.specs.Sitting.{Sitting}
use Rattle.spm_cache_core.specs.Cache.{Cache}
use Rattle.spm_cache_core.specs.Calls.{ClaimTells}
use Rattle.spm_cache_core.specs.declared.event.Event.{Event}
use Rattle.spm_cache.specs.Calls.{OrSame}
use Rattle.spm_cache.specs.Passing.{Passing}
use Rattle.spm_cache.specs.Seated.{passing}
use Rattle.spm_cache.specs.declared.kept.Terms.{Terms}
use Rattle.spm_cache.proofs.Answered.{claim_knows}
use Rattle.spm_cache.proofs.Taken.{found, pass_kept, worker_there}
use Rattle.spm_cache.proofs.Went.{claim_went, seen_legal}
use Rattle.spm_cache.proofs.cache.Cache.claim.Goals as goal

pub claim-claimed-requires : goal.claim-claimed-requires
claim-claimed-requires g c =
    let f =
    found c.pass.inside.seat c.pass.inside.actor c.args.pass.now c.take-turn.result c.pass.view_is c.pass.invariant c.take-turn.ensures.others
    c.take-turn.ensures.told c.take-turn.ensures.terms c.take-turn.ensures.legal in
    let here : c.state.result.now ≡ c.take-turn.result = search rules in
    worker_there c.args.pass.now c.take-turn.result c.state.result.now here f c.pass.inside.actor (ap (λ (p : Passing). p.actor) c.pass.view_is) c.requires.worker

pub returns-clause-steps : goal.returns-clause-steps
returns-clause-steps g c =
    let f =
    found c.pass.inside.seat c.pass.inside.actor c.args.pass.now c.take-turn.result c.pass.view_is c.pass.invariant c.take-turn.ensures.others
    c.take-turn.ensures.told c.take-turn.ensures.terms c.take-turn.ensures.legal in
    let here : c.state.result.now ≡ c.take-turn.result = search rules in
    let new : Passing = passing c.give.new.seat c.pass.inside.actor in
    let same : new ≡ record c.args.pass.now { seen = new.seen } =
    pass_kept c.pass.inside.seat c.take-turn.new.seat c.give.new.seat c.pass.inside.actor c.args.pass.now _ _ c.take-turn.ensures.seat c.give.ensures
    c.pass.view_is in
    let is : c.give.new.seat.seen ≡ c.claim-claimed.new.self.history = ap (λ (s : Sitting Event Terms). s.seen) c.give.ensures in
    let who : c.pass.inside.actor ≡ c.args.pass.now.actor = ap (λ (p : Passing). p.actor) c.pass.view_is in
    let call : OrSame c.claim-claimed.result (λ claimed. ClaimTells claimed c.args.pass.now.actor) c.state.result.now c.claim-claimed.new.self =
    subst (λ a. OrSame c.claim-claimed.result (λ claimed. ClaimTells claimed a) c.state.result.now c.claim-claimed.new.self) who c.claim-claimed.ensures.call in
    (claim_went c.args.pass.now new same c.take-turn.result c.state.result.now c.claim-claimed.new.self here f c.claim-claimed.result is call).0

pub returns-clause-session : goal.returns-clause-session
returns-clause-session g c =
    let f =
    found c.pass.inside.seat c.pass.inside.actor c.args.pass.now c.take-turn.result c.pass.view_is c.pass.invariant c.take-turn.ensures.others
    c.take-turn.ensures.told c.take-turn.ensures.terms c.take-turn.ensures.legal in
    let here : c.state.result.now ≡ c.take-turn.result = search rules in
    let new : Passing = passing c.give.new.seat c.pass.inside.actor in
    let same : new ≡ record c.args.pass.now { seen = new.seen } =
    pass_kept c.pass.inside.seat c.take-turn.new.seat c.give.new.seat c.pass.inside.actor c.args.pass.now _ _ c.take-turn.ensures.seat c.give.ensures
    c.pass.view_is in
    let is : c.give.new.seat.seen ≡ c.claim-claimed.new.self.history = ap (λ (s : Sitting Event Terms). s.seen) c.give.ensures in
    let who : c.pass.inside.actor ≡ c.args.pass.now.actor = ap (λ (p : Passing). p.actor) c.pass.view_is in
    let call : OrSame c.claim-claimed.result (λ claimed. ClaimTells claimed c.args.pass.now.actor) c.state.result.now c.claim-claimed.new.self =
    subst (λ a. OrSame c.claim-claimed.result (λ claimed. ClaimTells claimed a) c.state.result.now c.claim-claimed.new.self) who c.claim-claimed.ensures.call in
    (claim_went c.args.pass.now new same c.take-turn.result c.state.result.now c.claim-claimed.new.self here f c.claim-claimed.result is call).1

pub returns-clause-knows : goal.returns-clause-knows
returns-clause-knows g c =
    let f =
    found c.pass.inside.seat c.pass.inside.actor c.args.pass.now c.take-turn.result c.pass.view_is c.pass.invariant c.take-turn.ensures.others
    c.take-turn.ensures.told c.take-turn.ensures.terms c.take-turn.ensures.legal in
    let here : c.state.result.now ≡ c.take-turn.result = search rules in
    let new : Passing = passing c.give.new.seat c.pass.inside.actor in
    let same : new ≡ record c.args.pass.now { seen = new.seen } =
    pass_kept c.pass.inside.seat c.take-turn.new.seat c.give.new.seat c.pass.inside.actor c.args.pass.now _ _ c.take-turn.ensures.seat c.give.ensures
    c.pass.view_is in
    let is : c.give.new.seat.seen ≡ c.claim-claimed.new.self.history = ap (λ (s : Sitting Event Terms). s.seen) c.give.ensures in
    let who : c.pass.inside.actor ≡ c.args.pass.now.actor = ap (λ (p : Passing). p.actor) c.pass.view_is in
    let call : OrSame c.claim-claimed.result (λ claimed. ClaimTells claimed c.args.pass.now.actor) c.state.result.now c.claim-claimed.new.self =
    subst (λ a. OrSame c.claim-claimed.result (λ claimed. ClaimTells claimed a) c.state.result.now c.claim-claimed.new.self) who c.claim-claimed.ensures.call in
    let legal = seen_legal c.args.pass.now new same c.take-turn.result c.state.result.now c.claim-claimed.new.self here f c.pass.inside.actor c.claim-claimed.ensures.moves c.claim-claimed.ensures.legal is in
    let terms : c.state.result.now.sessions ≡ c.args.pass.now.sessions = ap (λ (s : Cache). s.sessions) here ∙ f.sessions in
    claim_knows c.args.pass.now.sessions c.args.pass.now.workers c.args.pass.now.actor new.seen c.state.result.now c.claim-claimed.new.self c.claim-claimed.result terms legal is call
