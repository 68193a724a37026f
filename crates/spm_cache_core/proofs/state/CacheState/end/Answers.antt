use Rattle.std.proofs.Common.{arith, sym, subst}
use Rattle.spm_cache_core.specs.Cache.{Cache}
use Rattle.spm_cache_core.specs.History.{event}
use Rattle.spm_cache_core.specs.Legal.{IsSession}
use Rattle.spm_cache_core.specs.declared.event.Act.TheVariants.{End}
use Rattle.spm_cache_core.proofs.StateLemmas.{session_room, spent, state_ended}
use Rattle.spm_cache_core.proofs.state.CacheState.end.Goals as goal

pub overflow_sub-self : goal.overflow_sub-self
overflow_sub-self c = (session_room _ c.args.self.now _ c.args.actor c.self.invariant c.self.view_is c.requires).2

pub push_reserved-requires : goal.push_reserved-requires
push_reserved-requires c =
    let room = (session_room _ c.args.self.now _ c.args.actor c.self.invariant c.self.view_is c.requires).1 in
    let size = c.self.inside.history.ok.0 in omega (arith, room, size)

pub overflow_sub-self-2 : goal.overflow_sub-self-2
overflow_sub-self-2 c =
    (session_room _ c.args.self.now _ c.args.actor c.self.invariant c.self.view_is c.requires).0

pub invariant_of-self : goal.invariant_of-self
invariant_of-self c =
    let may = subst (λ (s : Cache). IsSession s.sessions s.history c.args.actor) (sym c.self.view_is) c.requires in
    state_ended _ _ _ c.args.actor _ c.self.invariant c.push_reserved.ensures.items may c.push_reserved.ensures.capacity

pub returns-clause-new : goal.returns-clause-new
returns-clause-new c =
    spent c.args.self.now _ (event c.args.actor End) _ c.self.view_is c.push_reserved.ensures.items
    (session_room _ c.args.self.now _ c.args.actor c.self.invariant c.self.view_is c.requires).0
