use Rattle.pub_plain.proofs.DerivationLemmas.{refutation_checked}
use Rattle.pub_plain.proofs.laws.a_refutation_is_checked.Goals as goal

pub returns : goal.returns
returns c = refutation_checked
