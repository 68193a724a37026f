use Rattle.std.proofs.Common.{◌∙◌}
use Rattle.std.proofs.lemmas.Result.{MatchResult-weaker}
use Rattle.spm_judge.specs.Held.{says_of}
use Rattle.spm_judge.proofs.JudgingLemmas.{judged_heard}
use Rattle.spm_judge.proofs.judging.judge_all.Goals as goal

pub returns : goal.returns
returns g c =
    MatchResult-weaker c.judge_heard.result c.judge_heard.ensures
    (λ it judged.
    judged_heard (record { root = c.args.root.now; asked = c.args.asked.now; tools = c.args.tools }) (says_of (g.R.Replies.held c.args.replies.now))
    c.args.pins.now c.as_slice.result.now it (c.as_slice.ensures ∙ c.in_ok-pinned.ensures) judged)
    (λ fault h. tt)
