use Rattle.spm_judge.specs.Held.{says_of}
use Rattle.spm_judge.specs.Heard.{contents_in}
use Rattle.pub_facts.specs.Catalogue.{target_of}
use Rattle.pub_plain.specs.Answers.{lookups_by}
use Rattle.spm_judge.specs.Steps.{world_heard}
use Rattle.spm_judge.proofs.HeardLemmas.{IsSpreading}
use Rattle.spm_judge.proofs.MovesLemmas.{left}
use Rattle.spm_judge.proofs.PassLemmas.{all_nodes}
use Rattle.spm_judge.proofs.spread.nodes_on.Given as goal

abbrev pub invariant-loop-on : goal.invariant-loop-on
invariant-loop-on g l =
    IsSpreading (world_heard l.root l.asked (says_of (g.R.Replies.held l.replies)) l.pinned) l.on.keys

abbrev pub decreases-loop-on : goal.decreases-loop-on
decreases-loop-on g l = left (all_nodes (target_of (lookups_by (says_of (g.R.Replies.held l.replies)))) (contents_in l.root l.pinned) l.pinned) l.on.keys
