use Rattle.std.proofs.Common.{◌≡◌, drop}
use Rattle.pub_facts.specs.Catalogue.{target_of}
use Rattle.pub_plain.specs.Answers.{lookups_by}
use Rattle.spm_judge.specs.Held.{says_of}
use Rattle.spm_judge.specs.Heard.{contents_in}
use Rattle.spm_judge.specs.Spread.{each_put, spread, spread_pin}
use Rattle.spm_judge.proofs.spread.spread.Given as goal

abbrev pub invariant-loop-pin : goal.invariant-loop-pin
invariant-loop-pin g l =
    each_put (spread_pin (target_of (lookups_by (says_of (g.R.Replies.held l.replies)))) (contents_in l.root l.pinned)) l.on.keys (drop l.pin-index l.pinned)
    ≡ spread (target_of (lookups_by (says_of (g.R.Replies.held l.replies)))) (contents_in l.root l.pinned) l.pinned l.fn.on.keys
