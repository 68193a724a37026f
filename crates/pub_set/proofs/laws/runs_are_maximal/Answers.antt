use Rattle.pub_set.proofs.SetLemmas.{AreRuns-runs_of, choice_is_covered, run_has_none_before, run_has_none_behind, run_is_filled}
use Rattle.pub_set.proofs.laws.runs_are_maximal.Goals as goal

pub returns-clause-filled : goal.returns-clause-filled
returns-clause-filled c = run_is_filled

pub returns-clause-before : goal.returns-clause-before
returns-clause-before c = run_has_none_before

pub returns-clause-behind : goal.returns-clause-behind
returns-clause-behind c = run_has_none_behind

pub returns-clause-covered : goal.returns-clause-covered
returns-clause-covered c = choice_is_covered

pub returns-clause-apart : goal.returns-clause-apart
returns-clause-apart c = AreRuns-runs_of
