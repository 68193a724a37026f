use Rattle.std.proofs.Common.{◌≡◌}
use Rattle.serde_json.specs.View.{view}
use Rattle.spm_json.proofs.Views.{entry_views}
use Rattle.spm_json.specs.Sequence.{members_after, members_of}
use Rattle.spm_json.proofs.sequence.members.Given as goal

abbrev pub invariant-loop-key : goal.invariant-loop-key
invariant-loop-key g l = members_after g.T.FromMember.reading l.read.items (entry_views l.key-iterator) ≡ members_of g.T.FromMember.reading (view l.value)
