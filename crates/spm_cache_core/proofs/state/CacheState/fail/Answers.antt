use Rattle.std.proofs.Common.{◌+◌, cond, arith, ap, ◌∙◌}
use Rattle.spm_cell.specs.Cell.{fails_of}
use Rattle.spm_cell.specs.declared.cell.Cell.TheVariants.{Idle}
use Rattle.spm_key.specs.KeyLaws.{key_eq}
use Rattle.spm_cache_core.specs.Cells.{cell_at}
use Rattle.spm_cache_core.proofs.AnswerLemmas.{is_flying, ticketed}
use Rattle.spm_cache_core.proofs.CellsLemmas.{flying_there}
use Rattle.spm_cache_core.proofs.StateLemmas.{state_failed}
use Rattle.spm_cache_core.proofs.state.CacheState.fail.Goals as goal

pub fail-requires-clause-flying : goal.fail-requires-clause-flying
fail-requires-clause-flying c =
    let t = ticketed _ c.args.self.now _ _ c.args.ticket c.self.invariant c.self.view_is c.ticket.view_is c.requires in
    is_flying c.cell-cell.result c.ticket.inside.number c.ticket.inside.actor t.fails (c.cell-cell.ensures ∙ t.flying)

pub set-requires : goal.set-requires
set-requires c =
    let t = ticketed _ c.args.self.now _ _ c.args.ticket c.self.invariant c.self.view_is c.ticket.view_is c.requires in
    flying_there c.self.inside.cells c.ticket.inside.key c.ticket.inside.number c.ticket.inside.actor t.fails t.flying

pub push_reserved-requires : goal.push_reserved-requires
push_reserved-requires c =
    let t = ticketed _ c.args.self.now _ _ c.args.ticket c.self.invariant c.self.view_is c.ticket.view_is c.requires in
    let room = t.room in let size = c.self.inside.history.ok.0 in omega (arith, room, size)

pub overflow_sub-self : goal.overflow_sub-self
overflow_sub-self c =
    let t = ticketed _ c.args.self.now _ _ c.args.ticket c.self.invariant c.self.view_is c.ticket.view_is c.requires in
    t.some

pub invariant_of-self : goal.invariant_of-self
invariant_of-self c =
    let key = c.ticket.inside.key in
    let t = ticketed _ c.args.self.now _ _ c.args.ticket c.self.invariant c.self.view_is c.ticket.view_is c.requires in
    let after = c.fail.ensures ∙ ap (λ cell. Idle (fails_of cell + 1)) (c.cell-cell.ensures ∙ t.flying) in
    state_failed _ _ _ key c.args.why c.ticket.inside.actor c.ticket.inside.number c.ticket.inside.actor t.fails _ _ c.self.invariant
    c.push_reserved.ensures.items t.flies t.flying
    (λ other. c.set.ensures other ∙ ap (λ new. cond (key_eq key other) new (cell_at c.self.inside.cells other)) after)
    c.push_reserved.ensures.capacity
