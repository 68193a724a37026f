use Rattle.spm_session.proofs.RightLemmas.{pins_right}
use Rattle.spm_session.proofs.laws.the_archives_of_a_resolved_root_are_right.Goals as goal

pub returns : goal.returns
returns c = λ job fingerprints pins catalogue found sums turns resolved. pins_right fingerprints catalogue found sums resolved.right
