use Rattle.std.proofs.Common.{◌≡◌, ◌++◌, drop, not}
use Rattle.std.specs.List.{filter}
use Rattle.spm_judge.specs.Held.{is_held}
use Rattle.spm_judge.proofs.judging.unheld.Given as goal

abbrev pub invariant-loop-key : goal.invariant-loop-key
invariant-loop-key g l =
    l.lacking ++ filter (λ asked. not (is_held (g.R.Replies.held l.replies) asked)) (drop l.key-index l.keys)
    ≡ filter (λ asked. not (is_held (g.R.Replies.held l.replies) asked)) l.keys
