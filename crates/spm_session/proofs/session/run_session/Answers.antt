use Rattle.std.proofs.Common.{rules, ℕ, [], ◌∷◌, ap, subst, sym}
use Rattle.spm_api.specs.declared.base.Base.{Base}
use Rattle.spm_cache.specs.Passing.{Passing}
use Rattle.spm_cache_core.specs.History.{event}
use Rattle.spm_cache_core.specs.declared.event.Act.TheVariants.{End}
use Rattle.spm_flight.specs.Work.{Does}
use Rattle.spm_session.specs.Session.{GaveUp}
use Rattle.spm_session.specs.Sharing.{knows_by}
use Rattle.spm_session.specs.SharingLaws.{landed_in}
use Rattle.spm_session.proofs.session.run_session.Goals as goal
use Rattle.spm_session.proofs.SessionLemmas.{ends_wider, gave_up_on, works_to_end}

-- src/session.rt
pub returns-clause-end : goal.returns-clause-end
returns-clause-end g c =
    let before = c.resolve_ahead-outcome.new.source in
    let after = c.end.new.self in
    let e = ends_wider (knows_by before) (knows_by after)
    (landed_in before.pass.now.seen after.pass.now.seen c.end.ensures.does.steps.starts) _ c.args.trust.now c.args.job
    c.resolve_ahead-outcome.result c.resolve_ahead-outcome.ensures.end in
    search rules

pub returns-clause-does : goal.returns-clause-does
returns-clause-does g c =
    let went = c.resolve_ahead-outcome.ensures.went in
    let before = c.resolve_ahead-outcome.new.source in
    let after = c.end.new.self in
    let actor = ap (λ (p : Passing). p.actor) went.does.steps.same in
    let e = works_to_end c.args.hints c.args.pass.now.actor c.args.job.input c.resolve_ahead-outcome.result c.args.run.now.base.now
    (g.L.Link.state c.args.link.now) (g.L.Link.state before.link.now) (g.L.Link.state after.link.now) c.args.pass.now before.pass.now after.pass.now
    went.opening went.middle went.last went.does
    (subst (λ (a : ℕ). Does c.args.run.now.base.now (g.L.Link.state before.link.now) (g.L.Link.state after.link.now) before.pass.now after.pass.now
    (event a End ∷ [])) actor
    (subst (λ (base : Base). Does base (g.L.Link.state before.link.now) (g.L.Link.state after.link.now) before.pass.now after.pass.now
    (event before.pass.now.actor End ∷ [])) (ap (λ s. s.run.now.base.now) went.same) c.end.ensures.does))
    went.opens went.quiet went.closes in
    search rules

pub returns-clause-gave_up : goal.returns-clause-gave_up
returns-clause-gave_up g c =
    let went = c.resolve_ahead-outcome.ensures.went in
    let before = c.resolve_ahead-outcome.new.source in
    let after = c.end.new.self in
    let e = subst (λ (a : ℕ). GaveUp a after.pass.now.seen c.resolve_ahead-outcome.result)
    (sym (ap (λ (p : Passing). p.actor) c.end.ensures.does.steps.same))
    (gave_up_on before.pass.now.actor before.pass.now.seen after.pass.now.seen c.end.ensures.does.steps.starts c.resolve_ahead-outcome.result
    went.gave_up) in
    search rules
