use Rattle.std.proofs.Common.{◌∙◌}
use Rattle.std.proofs.lemmas.Result.{MatchResult-weaker}
use Rattle.spm_judge.proofs.JudgingLemmas.{wanted_as_heard}
use Rattle.spm_judge.proofs.judging.wanted.Goals as goal

pub returns : goal.returns
returns g c =
    MatchResult-weaker c.wanted_heard.result c.wanted_heard.ensures
    (λ keys wanted.
    wanted_as_heard (record { root = c.args.root.now; asked = c.args.asked.now; tools = c.args.tools }) (g.R.Replies.held c.args.replies.now)
    c.args.pins.now c.as_slice.result.now keys (c.as_slice.ensures ∙ c.in_ok-pinned.ensures) wanted)
    (λ fault h. tt)
