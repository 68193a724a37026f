use Rattle.spm_trust.proofs.TrustLaw.{trust_of-trust_text}
use Rattle.spm_trust.proofs.laws.trust_reads_back.Goals as goal

pub returns : goal.returns
returns c = trust_of-trust_text
