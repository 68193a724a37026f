use Rattle.std.proofs.lemmas.List.Elements.{All-same}
use Rattle.pub_set.specs.Runs.{runs_of}
use Rattle.spm_explain.specs.Told.{IsRunBelow}
use Rattle.spm_explain.proofs.SaidLemmas.{runs_of-below}
use Rattle.spm_explain.proofs.terms.runs_below.Goals as goal

pub returns-clause-below : goal.returns-clause-below
returns-clause-below c =
    let set = c.args.choices.now in
    All-same (IsRunBelow set.size) c.runs.result.now (runs_of set) c.runs.ensures (runs_of-below set c.size.ensures.set)
