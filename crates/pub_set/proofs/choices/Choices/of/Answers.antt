use Rattle.std.proofs.Common.{refl}
use Rattle.pub_set.specs.Choices.{is_among}
use Rattle.pub_set.proofs.RunLemmas.{runs_are_where}
use Rattle.pub_set.proofs.choices.Choices.of.Goals as goal

pub returns : goal.returns
returns c =
    let test = is_among c.args.choices.now in
    runs_are_where c.args.size test test c.in_ok-runs.runs.items (c.in_ok-runs.ensures c.args.size c.requires) (λ k below. refl)
