use Rattle.std.proofs.Common.{rules}
use Rattle.std.specs.Cmp.Lexicographic.{slice_cmp}
use Rattle.std.specs.Ordering.{is_lt, nat_cmp}
use Rattle.std.proofs.lemmas.Fn.{always_returns_same}
use Rattle.spm_shelf.specs.declared.file.ShelfUrl.{ShelfUrl}
use Rattle.spm_shelf.proofs.Ascending.{ascend_answer}
use Rattle.spm_shelf.proofs.order.are_urls.Goals as goal

pub returns : goal.returns
returns c =
    ascend_answer (λ (entry : ShelfUrl). entry.url) c.args.urls.now c.is_sorted_by.result
    (c.is_sorted_by.ensures.cases (λ (x y : ShelfUrl). is_lt (slice_cmp nat_cmp x.url y.url)) (always_returns_same _ _ _ (λ a r after called. search rules)))
