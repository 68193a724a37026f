use Rattle.serde_json.specs.View.{view}
use Rattle.spm_trust.proofs.WholeMembers.{AreSums-members_of}
use Rattle.spm_trust.proofs.file.new_package.Goals as goal

pub returns-clause-sums : goal.returns-clause-sums
returns-clause-sums c = AreSums-members_of (view c.args.value.now) c.in_ok-sums.sums c.in_ok-sums.ensures.ascending c.in_ok-sums.ensures.gives
