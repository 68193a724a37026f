use Rattle.std.proofs.Common.{◌≡◌, drop}
use Rattle.spm_judge.specs.Held.{says_of}
use Rattle.spm_judge.specs.Judged.{first_lacking}
use Rattle.spm_judge.proofs.judging.first_lacking.Given as goal

abbrev pub invariant-loop-key : goal.invariant-loop-key
invariant-loop-key g l =
    first_lacking (says_of (g.R.Replies.held l.replies)) (drop l.key-index l.keys) ≡ first_lacking (says_of (g.R.Replies.held l.replies)) l.keys
