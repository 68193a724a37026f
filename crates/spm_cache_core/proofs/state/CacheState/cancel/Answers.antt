use Rattle.std.proofs.Common.{arith, sym, ap, ◌∙◌, subst}
use Rattle.spm_cache_core.specs.Cache.{Cache}
use Rattle.spm_cache_core.specs.History.{event, has_cancelled}
use Rattle.spm_cache_core.specs.Legal.{IsSession}
use Rattle.spm_cache_core.specs.declared.event.Act.TheVariants.{Cancel}
use Rattle.spm_cache_core.proofs.StateLemmas.{first_or, session_room, spent, state_cancelled}
use Rattle.spm_cache_core.proofs.state.CacheState.cancel.Goals as goal

pub push_reserved-requires : goal.push_reserved-requires
push_reserved-requires c =
    let room = (session_room _ c.args.self.now _ c.args.actor c.self.invariant c.self.view_is c.requires.running).1 in
    let size = c.self.inside.history.ok.0 in omega (arith, room, size)

pub overflow_sub-self : goal.overflow_sub-self
overflow_sub-self c =
    (session_room _ c.args.self.now _ c.args.actor c.self.invariant c.self.view_is c.requires.running).0

pub invariant_of-self : goal.invariant_of-self
invariant_of-self c =
    let may = subst (λ (s : Cache). IsSession s.sessions s.history c.args.actor) (sym c.self.view_is) c.requires.running in
    let none = ap (λ (s : Cache). has_cancelled c.args.actor s.history) c.self.view_is ∙ c.requires.first in
    state_cancelled _ _ _ c.args.actor _ _ c.self.invariant c.push_reserved.ensures.items may none
    (first_or c.self.inside.canceller c.args.actor c.unwrap_or.result c.unwrap_or.ensures) c.push_reserved.ensures.capacity

pub returns-clause-new : goal.returns-clause-new
returns-clause-new c =
    spent c.args.self.now _ (event c.args.actor Cancel) _ c.self.view_is c.push_reserved.ensures.items
    (session_room _ c.args.self.now _ c.args.actor c.self.invariant c.self.view_is c.requires.running).0
