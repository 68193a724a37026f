use Rattle.std.proofs.Common.{◌+◌, ◌≤◌, List, [], ◌∷◌, ◌++◌, length, sym, ap, ap₂, ◌∙◌, subst, rules}
use Rattle.std.specs.Vec.{vec_capacity}
use Rattle.spm_cache_core.specs.Cache.{Cache}
use Rattle.spm_cache_core.specs.History.{event}
use Rattle.spm_cache_core.specs.Legal.{IsSession}
use Rattle.spm_cache_core.specs.declared.event.Act.TheVariants.{Hint}
use Rattle.spm_cache_core.specs.declared.event.Event.{Event}
use Rattle.spm_cache_core.proofs.StateLemmas.{state_hinted}
use Rattle.spm_cache_core.proofs.state.CacheState.hint.Goals as goal

pub invariant_of-self-2 : goal.invariant_of-self-2
invariant_of-self-2 c =
    let may = subst (λ (s : Cache). IsSession s.sessions s.history c.args.actor) (sym c.self.view_is) c.requires in
    let added = c.push_reserved.ensures.items
    ∙ ap₂ (λ (h : List Event) keys. h ++ event c.args.actor (Hint keys) ∷ []) c.reserve.ensures.items (c.from_vec.ensures
    ∙ c.in_ok-noted.ensures) in
    let queued = c.in_ok-append.ensures.items ∙ ap (λ keys. c.self.inside.queue.items ++ keys) c.in_ok-queued.ensures in
    let room : length c.self.inside.history.items + (c.self.inside.spare + 1) ≤ vec_capacity c.push_reserved.new.self =
    search rules in
    state_hinted _ _ _ c.args.actor c.args.keys.now _ _ c.self.invariant added may queued room
