use Rattle.std.proofs.Common.{◌∙◌}
use Rattle.spm_judge.proofs.PinnedLemmas.{release_turned}
use Rattle.spm_judge.proofs.pinned.has_release.Goals as goal

pub returns : goal.returns
returns c = c.contains.ensures.value ∙ release_turned c.args.release.now c.args.releases.now
