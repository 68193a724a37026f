use Rattle.spm_trust.proofs.AddedLemmas.{IsTrust-added, kept_in-added, kept_in-added_other}
use Rattle.spm_trust.proofs.laws.what_is_added_is_kept.Goals as goal

pub returns-clause-kept : goal.returns-clause-kept
returns-clause-kept c = λ identity release sum packages trust same. kept_in-added identity release sum packages same

pub returns-clause-others : goal.returns-clause-others
returns-clause-others c = kept_in-added_other

pub returns-clause-trust : goal.returns-clause-trust
returns-clause-trust c = IsTrust-added
