use Rattle.std.proofs.Common.{◌≡◌, ◌∙◌, arith, sym, subst}
use Rattle.std.specs.List.{All}
use Rattle.spm_outside.specs.Book.{Pages}
use Rattle.spm_key.specs.Key.{IsKey}
use Rattle.spm_server.specs.Pages.{AnswersAskable, RefusesOthers, entries_for}
use Rattle.spm_server.proofs.PagesLemmas.{all_done, answers_askable, if_ok_then, one_more, refuses_others, same_pages}
use Rattle.spm_server.proofs.pages.book.Goals as goal

pub loop-key-preserved : goal.loop-key-preserved
loop-key-preserved c =
    one_more (entries_for c.args.shelf.now c.args.base.now) c.loop-key.entries.items c.add_entry.new.entries.items _ c.deref-key-items.result.now c.loop-key.key-index
    c.key-item.result (omega arith) c.key-item.is c.in_ok-add_entry.ensures c.loop-key.invariant

pub returns-clause-askable : goal.returns-clause-askable
returns-clause-askable c =
    let shelf = c.args.shelf.now in
    let base = c.args.base.now in
    let keys = c.deref-key-items.ensures.value ∙ c.in_ok-keys.ensures.keys in
    let all = subst (All IsKey) c.in_ok-keys.ensures.keys c.in_ok-keys.ensures.are in
    let entries = c.from_vec.ensures ∙ all_done (entries_for shelf base) c.loop-key.entries.items _ c.deref-key-items.result.now c.loop-key.key-index (omega arith) c.loop-key.invariant in
    if_ok_then (λ (book : Pages). book ≡ record { entries = c.from_vec.result; other = c.in_ok-other.other }) (λ (book : Pages). AnswersAskable shelf base book) c.new.result
    (λ book is. subst (AnswersAskable shelf base) (sym (same_pages shelf base c.deref-key-items.result.now book c.from_vec.result c.in_ok-other.other keys entries c.in_ok-other.ensures is))
    (answers_askable shelf base c.requires all)) c.new.ensures

pub returns-clause-others : goal.returns-clause-others
returns-clause-others c =
    let shelf = c.args.shelf.now in
    let base = c.args.base.now in
    let keys = c.deref-key-items.ensures.value ∙ c.in_ok-keys.ensures.keys in
    let all = subst (All IsKey) c.in_ok-keys.ensures.keys c.in_ok-keys.ensures.are in
    let entries = c.from_vec.ensures ∙ all_done (entries_for shelf base) c.loop-key.entries.items _ c.deref-key-items.result.now c.loop-key.key-index (omega arith) c.loop-key.invariant in
    if_ok_then (λ (book : Pages). book ≡ record { entries = c.from_vec.result; other = c.in_ok-other.other }) (λ (book : Pages). RefusesOthers base book) c.new.result
    (λ book is. subst (RefusesOthers base) (sym (same_pages shelf base c.deref-key-items.result.now book c.from_vec.result c.in_ok-other.other keys entries c.in_ok-other.ensures is))
    (refuses_others shelf base c.requires all)) c.new.ensures
