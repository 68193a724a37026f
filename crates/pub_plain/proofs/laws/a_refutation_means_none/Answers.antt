use Rattle.pub_plain.proofs.FactLineLemmas.{lines_are_facts}
use Rattle.pub_plain.proofs.NoneLemmas.{none_valid}
use Rattle.pub_plain.proofs.laws.a_refutation_means_none.Goals as goal

pub returns-clause-facts : goal.returns-clause-facts
returns-clause-facts c = lines_are_facts

pub returns-clause-none : goal.returns-clause-none
returns-clause-none c = none_valid
