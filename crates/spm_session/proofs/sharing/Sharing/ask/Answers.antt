use Rattle.std.proofs.Common.{◌∙◌, Ok, ap, subst, sym}
use Rattle.spm_cache.specs.Passing.{Passing}
use Rattle.spm_cache.specs.Work.{AskKnows, Steps, ask_events}
use Rattle.spm_session.proofs.SharingLemmas.{fetched_goes, fetched_misses}
use Rattle.spm_session.proofs.sharing.Sharing.ask.Goals as goal

-- src/sharing.rt
pub fetch-requires-clause-flight : goal.fetch-requires-clause-flight
fetch-requires-clause-flight g c =
    let old = c.args.self.now.pass.now in
    let knows = subst (λ found. AskKnows {X = Unit {0}} old.actor c.args.key.now c.ask.new.pass.seen (Ok found)) c.in-Ok-Fetch.field-0-is
    c.in-Ok-Fetch.ensures.knows in
    (knows.0, knows.2 ∙ sym (ap (λ (pass : Passing). pass.actor) c.ask.ensures.pass))

pub returns-in-Ok-Fetch-clause-got : goal.returns-in-Ok-Fetch-clause-got
returns-in-Ok-Fetch-clause-got g c =
    let old = c.args.self.now.pass.now in
    let middle = c.ask.new.pass in
    let asks = subst (λ found. Steps old middle (ask_events {X = Unit {0}} old.actor c.args.key.now (Ok found))) c.in-Ok-Fetch.field-0-is
    c.in-Ok-Fetch.ensures.steps in
    let knows = subst (λ found. AskKnows {X = Unit {0}} old.actor c.args.key.now middle.seen (Ok found)) c.in-Ok-Fetch.field-0-is
    c.in-Ok-Fetch.ensures.knows in
    fetched_goes g.L.Link.state c.args.self.now c.fetch.new.self middle c.args.key.now c.in-Ok-Fetch.ticket asks knows.1 c.fetch.result c.fetch.ensures.went

pub returns-in-Ok-Fetch-clause-misses : goal.returns-in-Ok-Fetch-clause-misses
returns-in-Ok-Fetch-clause-misses g c =
    let old = c.args.self.now.pass.now in
    let middle = c.ask.new.pass in
    let asks = subst (λ found. Steps old middle (ask_events {X = Unit {0}} old.actor c.args.key.now (Ok found))) c.in-Ok-Fetch.field-0-is
    c.in-Ok-Fetch.ensures.steps in
    let knows = subst (λ found. AskKnows {X = Unit {0}} old.actor c.args.key.now middle.seen (Ok found)) c.in-Ok-Fetch.field-0-is
    c.in-Ok-Fetch.ensures.knows in
    fetched_misses g.L.Link.state c.args.self.now c.fetch.new.self middle c.args.key.now c.in-Ok-Fetch.ticket asks knows.1 c.fetch.result c.fetch.ensures.went
