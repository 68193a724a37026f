use Rattle.std.proofs.Common.{◌≡◌, drop}
use Rattle.std.specs.List.{filter}
use Rattle.pub_term.specs.Node.{trait_of}
use Rattle.pub_facts.specs.Facts.{is_of}
use Rattle.spm_judge.specs.Held.{says_of}
use Rattle.spm_judge.specs.Judged.{first_of, subject_at, unmet}
use Rattle.spm_judge.proofs.broken.first_unmet.Given as goal

abbrev pub invariant-loop-need : goal.invariant-loop-need
invariant-loop-need g l =
    first_of (unmet (says_of (g.R.Replies.held l.replies)) l.pins (subject_at l.pins l.node)) (filter (is_of (trait_of l.node)) (drop l.need-index l.needs))
    ≡ first_of (unmet (says_of (g.R.Replies.held l.replies)) l.pins (subject_at l.pins l.node)) (filter (is_of (trait_of l.node)) l.needs)
