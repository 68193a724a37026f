use Rattle.std.proofs.Common.{◌≡◌, ◌+◌, ◌&&◌, ◌∙◌, sym, ap, ap₂, subst}
use Rattle.pub_set.specs.Choices.{ChoiceSet, is_among}
use Rattle.pub_set.specs.Runs.{AreRuns, is_in, numbers_in}
use Rattle.pub_set.proofs.RunLemmas.{is_among-numbers_in, runs_are_where}
use Rattle.pub_set.proofs.choices.Choices.intersect.Goals as goal

pub returns : goal.returns
returns c =
    let size = c.self.inside.size in
    let xs = c.self.inside.runs.items in
    let ys = c.other.inside.runs.items in
    let xs' = c.deref.result.now in
    let ys' = c.deref-2.result.now in
    let sizes : size ≡ c.other.inside.size
    = ap (λ (set : ChoiceSet). set.size) c.self.view_is ∙ c.requires ∙ sym (ap (λ (set : ChoiceSet). set.size) c.other.view_is) in
    let up_x = subst (AreRuns 0 (size + 1)) (sym c.deref.ensures.value) c.self.invariant in
    let up_y = subst (AreRuns 0 (size + 1)) (sym c.deref-2.ensures.value) (subst (λ n. AreRuns 0 (n + 1) ys) (sym sizes) c.other.invariant) in
    rw (← c.self.view_is, ← c.other.view_is)
    (runs_are_where size (λ k. is_in xs' k && is_in ys' k) (λ k. is_among (numbers_in xs) k && is_among (numbers_in ys) k) c.in_ok-runs.runs.items
    (c.in_ok-runs.ensures (size + 1) up_x up_y)
    (λ k below.
    ap₂ (λ us vs. is_in us k && is_in vs k) c.deref.ensures.value c.deref-2.ensures.value
    ∙ sym (ap₂ ◌&&◌ (is_among-numbers_in xs k) (is_among-numbers_in ys k))))
