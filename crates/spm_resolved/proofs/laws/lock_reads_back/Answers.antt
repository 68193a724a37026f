use Rattle.spm_resolved.proofs.LockLaw.{resolved_of-resolved_text}
use Rattle.spm_resolved.proofs.laws.lock_reads_back.Goals as goal

pub returns : goal.returns
returns c = resolved_of-resolved_text
