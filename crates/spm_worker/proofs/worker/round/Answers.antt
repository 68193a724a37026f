use Rattle.std.proofs.Common.{Ok, subst}
use Rattle.spm_cache.specs.Work.{ClaimKnows, Steps, claim_events}
use Rattle.spm_worker.proofs.RoundLemmas.{round_last, round_more}
use Rattle.spm_worker.proofs.worker.round.Goals as goal

-- src/worker.rt
pub returns-in-Ok-Fetch-clause-more : goal.returns-in-Ok-Fetch-clause-more
returns-in-Ok-Fetch-clause-more g c =
    let old = c.args.pass.now in
    let middle = c.claim.new.pass in
    let claims = subst (λ found. Steps old middle (claim_events {X = Unit {0}} old.actor (Ok found))) c.in-Ok-Fetch.field-0-is c.in-Ok-Fetch.ensures.steps in
    let knows = subst (λ found. ClaimKnows {X = Unit {0}} old.sessions old.actor middle.seen (Ok found)) c.in-Ok-Fetch.field-0-is c.in-Ok-Fetch.ensures.knows in
    round_more c.args.run.now.base.now (g.L.Link.state c.args.link.now) (g.L.Link.state c.fly_once.new.link) old middle c.fly_once.new.pass
    c.in-Ok-Fetch.field-0-0 c.in-Ok-Fetch.ticket claims knows.1 knows.2 c.fly_once.result c.fly_once.ensures.more

pub returns-in-Ok-Fetch-clause-last : goal.returns-in-Ok-Fetch-clause-last
returns-in-Ok-Fetch-clause-last g c =
    let old = c.args.pass.now in
    let middle = c.claim.new.pass in
    let claims = subst (λ found. Steps old middle (claim_events {X = Unit {0}} old.actor (Ok found))) c.in-Ok-Fetch.field-0-is c.in-Ok-Fetch.ensures.steps in
    let knows = subst (λ found. ClaimKnows {X = Unit {0}} old.sessions old.actor middle.seen (Ok found)) c.in-Ok-Fetch.field-0-is c.in-Ok-Fetch.ensures.knows in
    round_last c.args.run.now.base.now (g.L.Link.state c.args.link.now) (g.L.Link.state c.fly_once.new.link) old middle c.fly_once.new.pass
    c.in-Ok-Fetch.field-0-0 c.in-Ok-Fetch.ticket claims knows.1 knows.2 c.fly_once.result c.fly_once.ensures.last
