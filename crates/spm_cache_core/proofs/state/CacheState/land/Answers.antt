use Rattle.std.proofs.Common.{◌≡◌, cond, length, arith, ap, ◌∙◌}
use Rattle.spm_key.specs.KeyLaws.{key_eq}
use Rattle.spm_cache_core.specs.Cells.{cell_at}
use Rattle.spm_cache_core.proofs.AnswerLemmas.{is_flying, ticketed}
use Rattle.spm_cache_core.proofs.CellsLemmas.{flying_there}
use Rattle.spm_cache_core.proofs.StateLemmas.{state_landed}
use Rattle.spm_cache_core.proofs.state.CacheState.land.Goals as goal

pub land-requires : goal.land-requires
land-requires c =
    let t = ticketed _ c.args.self.now _ _ c.args.ticket c.self.invariant c.self.view_is c.ticket.view_is c.requires in
    is_flying c.cell-cell.result c.ticket.inside.number c.ticket.inside.actor t.fails (c.cell-cell.ensures ∙ t.flying)

pub set-requires : goal.set-requires
set-requires c =
    let t = ticketed _ c.args.self.now _ _ c.args.ticket c.self.invariant c.self.view_is c.ticket.view_is c.requires in
    flying_there c.self.inside.cells c.ticket.inside.key c.ticket.inside.number c.ticket.inside.actor t.fails t.flying

pub push_reserved-requires : goal.push_reserved-requires
push_reserved-requires c =
    let t = ticketed _ c.args.self.now _ _ c.args.ticket c.self.invariant c.self.view_is c.ticket.view_is c.requires in
    let room = t.room in let size = c.self.inside.history.ok.0 in omega (arith, room, size)

pub overflow_sub-self : goal.overflow_sub-self
overflow_sub-self c =
    let t = ticketed _ c.args.self.now _ _ c.args.ticket c.self.invariant c.self.view_is c.ticket.view_is c.requires in
    t.some

pub invariant_of-self : goal.invariant_of-self
invariant_of-self c =
    let key = c.ticket.inside.key in
    let t = ticketed _ c.args.self.now _ _ c.args.ticket c.self.invariant c.self.view_is c.ticket.view_is c.requires in
    let at : c.len.result ≡ length c.self.inside.history.items =
    (let l = c.len.ensures in let size = c.self.inside.history.ok.0 in omega (arith, l, size)) in
    state_landed _ _ _ key c.args.reply c.ticket.inside.actor c.ticket.inside.number c.ticket.inside.actor t.fails c.len.result _ _ c.self.invariant
    c.push_reserved.ensures.items t.flies at t.flying
    (λ other. c.set.ensures other ∙ ap (λ new. cond (key_eq key other) new (cell_at c.self.inside.cells other)) c.land.ensures)
    c.push_reserved.ensures.capacity
