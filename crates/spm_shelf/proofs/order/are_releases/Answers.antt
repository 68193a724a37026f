use Rattle.std.proofs.Common.{ℕ, List, rules}
use Rattle.std.specs.Cmp.Lexicographic.{slice_cmp}
use Rattle.std.specs.Ordering.{is_lt, nat_cmp}
use Rattle.std.proofs.lemmas.Fn.{always_returns_same}
use Rattle.spm_shelf.proofs.Ascending.{ascend_answer}
use Rattle.spm_shelf.proofs.WholeMembers.{releases_answer}
use Rattle.spm_shelf.proofs.order.are_releases.Goals as goal

pub returns : goal.returns
returns c =
    let texts = c.loop-release.texts.items in
    let each = c.is_sorted_by.ensures.cases (λ (x y : List ℕ). is_lt (slice_cmp nat_cmp x y)) (always_returns_same _ _ _ (λ a r after called. search rules)) in
    releases_answer c.args.releases.now texts c.loop-release.release-index c.is_sorted_by.result c.loop-release-test.false c.loop-release.invariant.texts
    c.loop-release.invariant.complete (ascend_answer (λ (text : List ℕ). text) texts c.is_sorted_by.result (rw c.deref.ensures.value at each))
