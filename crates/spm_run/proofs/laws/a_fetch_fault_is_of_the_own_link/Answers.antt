use Rattle.spm_run.proofs.EndLemmas.{link_failed}
use Rattle.spm_run.proofs.laws.a_fetch_fault_is_of_the_own_link.Goals as goal

pub returns : goal.returns
returns c = link_failed
