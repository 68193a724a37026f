use Rattle.std.proofs.Common.{◌+◌, ◌≤◌, List, [], ◌∷◌, ◌++◌, length, sym, ap, ◌∙◌, subst, rules}
use Rattle.std.specs.Vec.{vec_capacity}
use Rattle.spm_cache_core.specs.Cache.{Cache}
use Rattle.spm_cache_core.specs.History.{event}
use Rattle.spm_cache_core.specs.Legal.{IsAllowed}
use Rattle.spm_cache_core.specs.declared.event.Event.{Event}
use Rattle.spm_cache_core.proofs.StateLemmas.{state_noted}
use Rattle.spm_cache_core.proofs.state.CacheState.note.Goals as goal

pub invariant_of-self-2 : goal.invariant_of-self-2
invariant_of-self-2 c =
    let e : Event = event c.args.actor c.args.act in
    let may = subst (λ (s : Cache). IsAllowed s.sessions s.workers s.history c.args.actor c.args.act) (sym c.self.view_is) c.requires.allowed in
    let added = c.push_reserved.ensures.items ∙ ap (λ (h : List Event). h ++ e ∷ []) c.reserve.ensures.items in
    let room : length c.self.inside.history.items + (c.self.inside.spare + 1) ≤ vec_capacity c.push_reserved.new.self =
    search rules in
    state_noted _ _ _ e _ c.self.invariant added may c.requires.quiet room
