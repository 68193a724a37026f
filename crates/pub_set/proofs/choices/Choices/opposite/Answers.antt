use Rattle.std.proofs.Common.{◌&&◌, not, nat_lt, ◌∙◌, sym, ap, ap₂, lt-ltb}
use Rattle.pub_set.specs.Choices.{is_among}
use Rattle.pub_set.specs.Runs.{is_in, numbers_in}
use Rattle.pub_set.proofs.RunLemmas.{is_among-numbers_in, runs_are_where}
use Rattle.pub_set.proofs.choices.Choices.opposite.Goals as goal

pub returns : goal.returns
returns c =
    let size = c.self.inside.size in
    let runs = c.self.inside.runs.items in
    let kept = c.deref.result.now in
    rw (← c.self.view_is)
    (runs_are_where size (λ k. nat_lt k size && not (is_in kept k)) (λ k. not (is_among (numbers_in runs) k)) c.in_ok-runs.runs.items c.in_ok-runs.ensures
    (λ k below.
    ap₂ (λ b rs. b && not (is_in rs k)) (lt-ltb k size below) c.deref.ensures.value ∙ ap not (sym (is_among-numbers_in runs k))))
