use Rattle.pub_term.proofs.SoundLemmas.{one_violated}
use Rattle.pub_term.proofs.laws.resolution_is_sound.Goals as goal

pub returns : goal.returns
returns c = λ first second on assignment incompat_first incompat_second.
    one_violated first second on assignment incompat_first.ascending incompat_second.ascending
