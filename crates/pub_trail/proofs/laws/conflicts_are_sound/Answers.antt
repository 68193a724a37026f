use Rattle.pub_trail.proofs.ConflictLemmas.{conflict_outcome}
use Rattle.pub_trail.proofs.laws.conflicts_are_sound.Goals as goal

pub returns : goal.returns
returns c = conflict_outcome
