use Rattle.spm_judge.proofs.VerdictLemmas.{valid_verdict, verdict_valid}
use Rattle.spm_judge.proofs.laws.a_verdict_is_right.Goals as goal

pub returns-clause-valid : goal.returns-clause-valid
returns-clause-valid c job answers pins on ascend are is = verdict_valid job answers pins on are is

pub returns-clause-holds : goal.returns-clause-holds
returns-clause-holds c job answers pins on ascend are valid = valid_verdict job answers pins on ascend are valid
