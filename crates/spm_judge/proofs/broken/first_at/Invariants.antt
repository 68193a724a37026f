use Rattle.std.proofs.Common.{◌≡◌}
use Rattle.spm_judge.specs.Held.{says_of}
use Rattle.spm_judge.specs.Heard.{contents_in}
use Rattle.spm_judge.specs.Judged.{first_of}
use Rattle.spm_judge.specs.Steps.{broken_by}
use Rattle.spm_judge.proofs.broken.first_at.Given as goal

abbrev pub invariant-loop-node : goal.invariant-loop-node
invariant-loop-node g l =
    first_of (broken_by (says_of (g.R.Replies.held l.replies)) l.pins (contents_in l.root l.pinned)) l.node-iterator
    ≡ first_of (broken_by (says_of (g.R.Replies.held l.replies)) l.pins (contents_in l.root l.pinned)) l.on.keys
