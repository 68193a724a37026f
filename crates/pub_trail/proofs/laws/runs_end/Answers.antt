use Rattle.pub_trail.proofs.EndLemmas.{run_ends}
use Rattle.pub_trail.proofs.laws.runs_end.Goals as goal

pub returns : goal.returns
returns c = run_ends
