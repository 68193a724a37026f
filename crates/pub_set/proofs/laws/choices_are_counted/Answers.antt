use Rattle.pub_set.proofs.SetLemmas.{fewer_in_intersection, opposite_is_counted, parts_are_counted}
use Rattle.pub_set.proofs.laws.choices_are_counted.Goals as goal

pub returns-clause-opposite : goal.returns-clause-opposite
returns-clause-opposite c = opposite_is_counted

pub returns-clause-parts : goal.returns-clause-parts
returns-clause-parts c = parts_are_counted

pub returns-clause-fewer : goal.returns-clause-fewer
returns-clause-fewer c = fewer_in_intersection
