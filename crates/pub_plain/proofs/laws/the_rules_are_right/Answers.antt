use Rattle.pub_plain.proofs.KeptLemmas.{solver_kept}
use Rattle.pub_plain.proofs.RulesLemmas.{rules_right}
use Rattle.pub_plain.proofs.laws.the_rules_are_right.Goals as goal

pub returns-clause-rules : goal.returns-clause-rules
returns-clause-rules c = rules_right

pub returns-clause-kept : goal.returns-clause-kept
returns-clause-kept c = solver_kept
