use Rattle.spm_judge.proofs.FirstLemmas.{on_are_one}
use Rattle.spm_judge.proofs.laws.nodes_on_are_one.Goals as goal

pub returns : goal.returns
returns c world first second a b = on_are_one world first second a b
