use Rattle.spm_version.proofs.ReleaseLemmas.{Spells-release_of, release_of-Spells}
use Rattle.spm_version.proofs.release.release_grammar.Goals as goal

pub returns : goal.returns
returns c = λ text parts. (Spells-release_of text parts, release_of-Spells text parts)
