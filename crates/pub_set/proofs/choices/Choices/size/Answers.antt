use Rattle.std.proofs.Common.{◌+◌, arith}
use Rattle.pub_set.specs.Runs.{numbers_in}
use Rattle.pub_set.proofs.RunLemmas.{IsAscending-numbers_in, set_of}
use Rattle.pub_set.proofs.SetLemmas.{IsSet-from_ascending}
use Rattle.pub_set.proofs.choices.Choices.size.Goals as goal

pub returns-clause-set : goal.returns-clause-set
returns-clause-set c =
    let size = c.self.inside.size in
    let runs = c.self.inside.runs.items in
    rw (← c.self.view_is)
    (IsSet-from_ascending (set_of size (numbers_in runs)) (IsAscending-numbers_in 0 (size + 1) size runs (omega arith) c.self.invariant))
