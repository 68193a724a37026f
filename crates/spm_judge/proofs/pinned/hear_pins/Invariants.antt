use Rattle.std.proofs.Common.{◌≡◌, ◌++◌, drop, map}
use Rattle.spm_judge.specs.Heard.{heard_of}
use Rattle.spm_judge.specs.Held.{says_of}
use Rattle.spm_judge.proofs.pinned.hear_pins.Given as goal

abbrev pub invariant-loop-identity : goal.invariant-loop-identity
invariant-loop-identity g l =
    l.pinned ++ map (heard_of l.tools (says_of (g.R.Replies.held l.replies))) (drop l.identity-index l.pins) ≡ map (heard_of l.tools (says_of (g.R.Replies.held l.replies))) l.pins
