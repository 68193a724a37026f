use Rattle.pub_term.proofs.SizedLemmas.{sets_resolvent, sized_resolvent}
use Rattle.pub_term.proofs.laws.resolvents_keep_sizes.Goals as goal

pub returns-clause-sizes : goal.returns-clause-sizes
returns-clause-sizes c = sized_resolvent

pub returns-clause-sets : goal.returns-clause-sets
returns-clause-sets c = sets_resolvent
