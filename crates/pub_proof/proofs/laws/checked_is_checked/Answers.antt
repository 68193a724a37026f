use Rattle.pub_proof.proofs.CheckedLemmas.{lines_from_whole, whole_from_lines}
use Rattle.pub_proof.proofs.laws.checked_is_checked.Goals as goal

pub returns : goal.returns
returns c = λ facts derivation terms. (lines_from_whole facts derivation terms, whole_from_lines facts derivation terms)
