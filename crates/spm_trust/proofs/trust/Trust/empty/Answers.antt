use Rattle.spm_trust.proofs.AddedLemmas.{IsTrust-nil}
use Rattle.spm_trust.proofs.trust.Trust.empty.Goals as goal

pub invariant_of-result : goal.invariant_of-result
invariant_of-result c = rw c.new.ensures.items IsTrust-nil
