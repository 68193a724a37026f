use Rattle.std.proofs.Common.{rules}
use Rattle.std.proofs.lemmas.Fn.{always_returns_same}
use Rattle.spm_shelf.specs.declared.file.ShelfPackage.{ShelfPackage}
use Rattle.spm_shelf.proofs.Ascending.{ascend_answer, is_before}
use Rattle.spm_shelf.proofs.order.are_ascending.Goals as goal

pub returns : goal.returns
returns c =
    ascend_answer (λ (entry : ShelfPackage). entry.identity) c.args.packages.now c.is_sorted_by.result
    (c.is_sorted_by.ensures.cases is_before (always_returns_same _ _ _ (λ a r after called. search rules)))
