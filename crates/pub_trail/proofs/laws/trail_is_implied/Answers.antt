use Rattle.pub_trail.proofs.BackLemmas.{IsTrail-up_to}
use Rattle.pub_trail.proofs.LieLemmas.{lies_in_trail}
use Rattle.pub_trail.specs.Trail.{up_to}
use Rattle.pub_trail.proofs.laws.trail_is_implied.Goals as goal

pub returns : goal.returns
returns c = λ sizes incompats trail level assignment formed is assigns none agrees.
    lies_in_trail sizes incompats (up_to level trail) assignment formed (IsTrail-up_to sizes incompats level trail is) assigns none agrees
