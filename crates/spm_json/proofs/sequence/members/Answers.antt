use Rattle.std.proofs.Common.{refl}
use Rattle.serde_json.specs.View.{view}
use Rattle.spm_json.proofs.Views.{HasAscendingKeys-entries, member_list-members_view}
use Rattle.spm_json.proofs.sequence.members.Goals as goal

pub loop-key-init : goal.loop-key-init
loop-key-init g c =
    rw (c.new-read.ensures.items, c.into_iter-key-iterator.ensures.into_iter_gives.0, ← c.in-Some.ensures, member_list-members_view c.in-Some.object.now.entries) refl

pub returns-clause-ascending : goal.returns-clause-ascending
returns-clause-ascending g c =
    HasAscendingKeys-entries (view c.args.value.now) c.in-Some.object.now.entries c.in-Some.ensures c.into_iter-key-iterator.ensures.into_iter_gives.5
