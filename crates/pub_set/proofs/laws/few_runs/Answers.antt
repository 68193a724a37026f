use Rattle.pub_set.proofs.SetLemmas.{few_in_intersection, few_in_opposite, few_in_union}
use Rattle.pub_set.proofs.laws.few_runs.Goals as goal

pub returns-clause-intersection : goal.returns-clause-intersection
returns-clause-intersection c = few_in_intersection

pub returns-clause-union : goal.returns-clause-union
returns-clause-union c = few_in_union

pub returns-clause-opposite : goal.returns-clause-opposite
returns-clause-opposite c = few_in_opposite
