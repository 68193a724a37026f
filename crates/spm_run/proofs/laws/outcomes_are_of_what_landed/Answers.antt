use Rattle.spm_run.proofs.EndLemmas.{comes_to}
use Rattle.spm_run.proofs.laws.outcomes_are_of_what_landed.Goals as goal

pub returns : goal.returns
returns c = comes_to
