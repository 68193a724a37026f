use Rattle.std.proofs.Common.{◌≡◌, ◌+◌, ◌∙◌, sym, ap, ap₂, subst}
use Rattle.std.specs.List.{list_any}
use Rattle.pub_set.specs.Choices.{ChoiceSet, is_among}
use Rattle.pub_set.specs.Runs.{AreRuns, is_in, numbers_in}
use Rattle.pub_set.proofs.RunLemmas.{is_among-numbers_in}
use Rattle.pub_set.proofs.StepLemmas.{list_any-same}
use Rattle.pub_set.proofs.choices.Choices.meets.Goals as goal

pub returns : goal.returns
returns c =
    let size = c.self.inside.size in
    let xs = c.self.inside.runs.items in
    let ys = c.other.inside.runs.items in
    let sizes : size ≡ c.other.inside.size
    = ap (λ (set : ChoiceSet). set.size) c.self.view_is ∙ c.requires ∙ sym (ap (λ (set : ChoiceSet). set.size) c.other.view_is) in
    let up_x = subst (AreRuns 0 (size + 1)) (sym c.deref.ensures.value) c.self.invariant in
    let up_y = subst (AreRuns 0 (size + 1)) (sym c.deref-2.ensures.value) (subst (λ n. AreRuns 0 (n + 1) ys) (sym sizes) c.other.invariant) in
    rw (← c.self.view_is, ← c.other.view_is)
    (c.do_meet.ensures (size + 1) up_x up_y
    ∙ ap₂ (λ us vs. list_any (is_in vs) (numbers_in us)) c.deref.ensures.value c.deref-2.ensures.value
    ∙ list_any-same (is_in ys) (is_among (numbers_in ys)) (numbers_in xs) (λ k _. sym (is_among-numbers_in ys k)))
