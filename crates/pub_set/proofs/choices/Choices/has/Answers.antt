use Rattle.std.proofs.Common.{◌+◌, sym, ap, subst, ◌∙◌}
use Rattle.pub_set.specs.Runs.{AreRuns, is_in}
use Rattle.pub_set.proofs.RunLemmas.{is_among-numbers_in}
use Rattle.pub_set.proofs.choices.Choices.has.Goals as goal

pub returns : goal.returns
returns c =
    let runs = c.self.inside.runs.items in
    let limit = c.self.inside.size + 1 in
    rw (← c.self.view_is)
    (c.lies_in.ensures limit (subst (AreRuns 0 limit) (sym c.deref.ensures.value) c.self.invariant)
    ∙ ap (λ rs. is_in rs c.args.choice) c.deref.ensures.value ∙ sym (is_among-numbers_in runs c.args.choice))
