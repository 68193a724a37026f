use Rattle.std.proofs.Common.{◌≡◌, Err, subst}
use Rattle.pub_facts.specs.Catalogue.{Job}
use Rattle.spm_judge.specs.Held.{held_in, says_of}
use Rattle.spm_judge.specs.Judged.{Breaks, Broken, Holds, IsJudged, text_of}
use Rattle.spm_judge.specs.declared.judgement.Judgement.{Judgement}
use Rattle.spm_judge.specs.declared.judgement.Judgement.TheVariants.{Invalid, NoReply}
use Rattle.spm_judge.proofs.OverLemmas.{lacks_held, over_from, unanswered_end}
use Rattle.spm_judge.proofs.over.judge_held.Goals as goal

pub unanswered-requires-clause-held : goal.unanswered-requires-clause-held
unanswered-requires-clause-held c =
    let job : Job = record { root = c.args.root.now; asked = c.args.asked.now; tools = c.args.tools } in
    let same : c.in-Err-NoReply.field-0 ≡ NoReply c.in-Err-NoReply.key = cc in
    (lacks_held job c.args.pins.now (held_in c.args.held.now) c.in-Err-NoReply.key c.requires.settled
    (subst (λ (why : Judgement). IsJudged job (says_of (held_in c.args.held.now)) c.args.pins.now (Err why)) same c.in-Err-NoReply.ensures.judged)).0

pub unanswered-requires-clause-lacks : goal.unanswered-requires-clause-lacks
unanswered-requires-clause-lacks c =
    let job : Job = record { root = c.args.root.now; asked = c.args.asked.now; tools = c.args.tools } in
    let same : c.in-Err-NoReply.field-0 ≡ NoReply c.in-Err-NoReply.key = cc in
    (lacks_held job c.args.pins.now (held_in c.args.held.now) c.in-Err-NoReply.key c.requires.settled
    (subst (λ (why : Judgement). IsJudged job (says_of (held_in c.args.held.now)) c.args.pins.now (Err why)) same c.in-Err-NoReply.ensures.judged)).1

pub returns-in-Ok-clause-end : goal.returns-in-Ok-clause-end
returns-in-Ok-clause-end c = λ book base from.
    let judged = c.in-Ok.ensures.judged in
    over_from book base (record { root = c.args.root.now; asked = c.args.asked.now; tools = c.args.tools }) c.args.pins.now (held_in c.args.held.now)
    (λ held said. said ≡ Holds) judged.on from c.requires.settled judged.are judged.tells

pub returns-in-Err-Invalid-clause-end : goal.returns-in-Err-Invalid-clause-end
returns-in-Err-Invalid-clause-end c = λ book base from.
    let job : Job = record { root = c.args.root.now; asked = c.args.asked.now; tools = c.args.tools } in
    let same : c.in-Err-Invalid.field-0 ≡ Invalid c.in-Err-Invalid.text = cc in
    let judged : IsJudged job (says_of (held_in c.args.held.now)) c.args.pins.now (Err (Invalid c.in-Err-Invalid.text)) =
    subst (λ (why : Judgement). IsJudged job (says_of (held_in c.args.held.now)) c.args.pins.now (Err why)) same c.in-Err-Invalid.ensures.judged in
    over_from book base job c.args.pins.now (held_in c.args.held.now)
    (λ held said. (broken : Broken) × (said ≡ Breaks broken) × (c.in-Err-Invalid.text ≡ text_of broken)) judged.on from c.requires.settled judged.are
    judged.tells

pub returns-in-Err-NoReply-clause-end : goal.returns-in-Err-NoReply-clause-end
returns-in-Err-NoReply-clause-end c = λ book base from.
    let job : Job = record { root = c.args.root.now; asked = c.args.asked.now; tools = c.args.tools } in
    let same : c.in-Err-NoReply.field-0 ≡ NoReply c.in-Err-NoReply.key = cc in
    unanswered_end book base job c.args.pins.now (held_in c.args.held.now) c.in-Err-NoReply.key c.unanswered.result from c.requires.settled
    (subst (λ (why : Judgement). IsJudged job (says_of (held_in c.args.held.now)) c.args.pins.now (Err why)) same c.in-Err-NoReply.ensures.judged)
    c.unanswered.ensures
