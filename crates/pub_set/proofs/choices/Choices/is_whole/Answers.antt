use Rattle.std.proofs.Common.{◌∙◌, sym, ap}
use Rattle.std.specs.List.{list_all}
use Rattle.pub_set.specs.Choices.{is_among, numbers_below}
use Rattle.pub_set.specs.Runs.{is_in, numbers_in}
use Rattle.pub_set.proofs.RunLemmas.{is_among-numbers_in}
use Rattle.pub_set.proofs.StepLemmas.{list_all-same}
use Rattle.pub_set.proofs.choices.Choices.is_whole.Goals as goal

pub returns : goal.returns
returns c =
    let size = c.self.inside.size in
    let runs = c.self.inside.runs.items in
    rw (← c.self.view_is)
    (c.are_whole.ensures ∙ ap (λ rs. list_all (is_in rs) (numbers_below size)) c.deref.ensures.value
    ∙ list_all-same (is_in runs) (is_among (numbers_in runs)) (numbers_below size) (λ k _. sym (is_among-numbers_in runs k)))
