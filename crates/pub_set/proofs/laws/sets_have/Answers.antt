use Rattle.pub_set.proofs.AscendingLemmas.{is_among-where}
use Rattle.pub_set.proofs.SetLemmas.{IsSet-where, has_below, same_sets}
use Rattle.pub_set.proofs.laws.sets_have.Goals as goal

pub returns-clause-below : goal.returns-clause-below
returns-clause-below c = has_below

pub returns-clause-made : goal.returns-clause-made
returns-clause-made c = λ size choice test. is_among-where size test choice

pub returns-clause-sets : goal.returns-clause-sets
returns-clause-sets c = IsSet-where

pub returns-clause-same : goal.returns-clause-same
returns-clause-same c = same_sets
