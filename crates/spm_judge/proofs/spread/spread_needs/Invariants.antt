use Rattle.std.proofs.Common.{◌≡◌, drop}
use Rattle.std.specs.Option.{option_copied}
use Rattle.pub_facts.specs.Catalogue.{target_of}
use Rattle.pub_plain.specs.Answers.{lookups_by}
use Rattle.spm_judge.specs.Held.{says_of}
use Rattle.spm_judge.specs.Spread.{each_put, spread_need}
use Rattle.spm_judge.proofs.spread.spread_needs.Given as goal

abbrev pub invariant-loop-need : goal.invariant-loop-need
invariant-loop-need g l =
    each_put (spread_need (target_of (lookups_by (says_of (g.R.Replies.held l.replies)))) (option_copied l.owner)) l.on.keys (drop l.need-index l.needs)
    ≡ each_put (spread_need (target_of (lookups_by (says_of (g.R.Replies.held l.replies)))) (option_copied l.owner)) l.fn.on.keys l.needs
