use Rattle.serde_json.specs.View.{view}
use Rattle.spm_shelf.proofs.WholeMembers.{AreReleases-members_of}
use Rattle.spm_shelf.proofs.file.new_package.Goals as goal

pub returns-clause-releases : goal.returns-clause-releases
returns-clause-releases c = AreReleases-members_of (view c.args.value.now) c.in_ok-releases.releases c.in_ok-releases.ensures.ascending c.in_ok-releases.ensures.gives
