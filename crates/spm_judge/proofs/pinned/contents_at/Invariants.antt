use Rattle.std.proofs.Common.{◌≡◌, drop}
use Rattle.spm_judge.specs.Heard.{contents_heard}
use Rattle.spm_judge.proofs.pinned.contents_at.Given as goal

abbrev pub invariant-loop-pin : goal.invariant-loop-pin
invariant-loop-pin l =
    contents_heard (drop l.pin-index l.pinned) l.identity ≡ contents_heard l.pinned l.identity
