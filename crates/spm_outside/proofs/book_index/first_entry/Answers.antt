use Rattle.std.proofs.Common.{◌∙◌, ap, sym}
use Rattle.std.specs.Bool.{then_some}
use Rattle.std.specs.Option.{option_copied}
use Rattle.spm_outside.proofs.BookLemmas.{copied-then_some, finds_none_past, finds_none_there, finds_there, item_none, item_some}
use Rattle.spm_outside.proofs.book_index.first_entry.Goals as goal

pub returns-in_err-place : goal.returns-in_err-place
returns-in_err-place c =
    rw c.from_residual.ensures
    (sym
    (finds_none_past c.args.entries.now c.args.to.now c.args.request.now c.args.places.now c.requires c.count_below.result
    c.count_below.ensures (item_none c.args.places.now _ c.in_err-place.ensures.lookup)))

pub returns-in_err-entry : goal.returns-in_err-entry
returns-in_err-entry c =
    let place = c.in_ok-place.field-0 in
    rw c.from_residual-in_err-entry.ensures
    (sym
    (finds_none_there c.args.entries.now c.args.to.now c.args.request.now c.args.places.now c.requires c.count_below.result
    c.count_below.ensures place.now (item_some c.args.places.now _ place c.in_ok-place.ensures.lookup)
    (item_none c.args.entries.now _ c.in_err-entry.ensures.lookup)))

pub returns : goal.returns
returns c =
    let place = c.in_ok-place.field-0 in
    let entry = c.in_ok-entry.entry in
    ap option_copied (c.then_some.ensures ∙ ap (λ fits. then_some fits entry) c.is_for.ensures)
    ∙ copied-then_some _ entry
    ∙ sym
    (finds_there c.args.entries.now c.args.to.now c.args.request.now c.args.places.now c.requires c.count_below.result
    c.count_below.ensures place.now (item_some c.args.places.now _ place c.in_ok-place.ensures.lookup) entry.now
    (item_some c.args.entries.now _ entry c.in_ok-entry.ensures.lookup))
