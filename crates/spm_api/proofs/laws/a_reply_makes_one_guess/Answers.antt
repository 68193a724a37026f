use Rattle.spm_api.proofs.NewestLemmas.{guess_unique}
use Rattle.spm_api.proofs.laws.a_reply_makes_one_guess.Goals as goal

pub returns : goal.returns
returns c = guess_unique
