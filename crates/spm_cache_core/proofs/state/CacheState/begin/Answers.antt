use Rattle.std.proofs.Common.{◌≡◌, ◌+◌, ◌≤◌, cond, List, [], ◌∷◌, ◌++◌, length, arith, sym, ap, ◌∙◌, subst, rules}
use Rattle.std.specs.Vec.{vec_capacity}
use Rattle.spm_cell.specs.Cell.{cell_wanted}
use Rattle.spm_cell.specs.declared.cell.Cell.TheVariants.{Flying}
use Rattle.spm_key.specs.KeyLaws.{key_eq}
use Rattle.spm_cache_core.specs.Cache.{Cache}
use Rattle.spm_cache_core.specs.Cells.{cell_at}
use Rattle.spm_cache_core.specs.History.{event}
use Rattle.spm_cache_core.specs.Legal.{IsAllowed}
use Rattle.spm_cache_core.specs.declared.event.Event.{Event}
use Rattle.spm_cache_core.proofs.AnswerLemmas.{idle_before}
use Rattle.spm_cache_core.proofs.StateLemmas.{state_begun}
use Rattle.spm_cache_core.proofs.state.CacheState.begin.Goals as goal

pub invariant_of-self-2 : goal.invariant_of-self-2
invariant_of-self-2 c =
    let e : Event = event c.args.actor c.args.act in let key = c.args.key.now in
    let may = subst (λ (s : Cache). IsAllowed s.sessions s.workers s.history c.args.actor c.args.act) (sym c.self.view_is) c.requires.allowed in
    let idle = idle_before _ _ _ key _ c.args.actor c.args.act may c.requires.begins (c.self.invariant.of_cells key) in
    let cell : c.want.new.self ≡ Flying c.len-number.result c.args.actor idle.0 =
    c.want.ensures.after ∙ ap (cell_wanted c.args.actor c.len-number.result) (c.cell-cell.ensures ∙ idle.1) in
    let at : c.len-number.result ≡ length c.self.inside.history.items =
    (let l = c.len-number.ensures in let size = c.self.inside.history.ok.0 in omega (arith, l, size)) in
    let added = c.push_reserved.ensures.items ∙ ap (λ (h : List Event). h ++ e ∷ []) c.reserve.ensures.items in
    let kept : c.in_ok-spare.spare ≡ c.self.inside.spare + 1 = search rules in
    let room : length c.self.inside.history.items + (c.in_ok-spare.spare + 1) ≤ vec_capacity c.push_reserved.new.self =
    search rules in
    state_begun _ _ _ e key idle.0 c.len-number.result _ _ _ c.self.invariant added may c.requires.begins at idle.1
    (λ other. c.in_ok-put.ensures.ok other
    ∙ ap (λ new. cond (key_eq key other) new (cell_at c.self.inside.cells other)) cell) kept room
