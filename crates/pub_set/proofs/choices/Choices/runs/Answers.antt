use Rattle.std.proofs.Common.{◌+◌, sym, ◌∙◌}
use Rattle.pub_set.proofs.RunLemmas.{runs_in-numbers_in}
use Rattle.pub_set.proofs.choices.Choices.runs.Goals as goal

pub returns : goal.returns
returns c =
    rw (← c.self.view_is)
    (c.deref.ensures.value ∙ sym (runs_in-numbers_in 0 (c.self.inside.size + 1) c.self.inside.runs.items c.self.invariant))
