use Rattle.std.proofs.Common.{◌+◌, [], ◌++◌, length, ap, arith, refl, sym, ◌∙◌}
use Rattle.pub_term.specs.contracts.cause.CausePartialEq.TheImpl.{eq-value}
use Rattle.spm_run.specs.Actors.{links_of, outcomes_of, seated}
use Rattle.spm_run.proofs.PartLemmas.{length_fresh}
use Rattle.spm_run.proofs.PlayLemmas.{all_numbers, links_many, news_many, none_left, ready, run_is, some_act, still_here}
use Rattle.spm_run.proofs.stage.Stage.play.Goals as goal

-- src/stage.rt
pub seat_all-requires-clause-room : goal.seat_all-requires-clause-room
seat_all-requires-clause-room g c =
    let stage = c.requires.stage.1 in
    let passes = ap length stage.passes ∙ length_fresh c.args.self.cache.id (length c.args.jobs) c.requires.stage.0 0 (length c.args.jobs + c.requires.stage.0) in
    let room = stage.of_actors in
    omega (arith, passes, room)

pub act_all-requires-clause-some : goal.act_all-requires-clause-some
act_all-requires-clause-some g c κs lives =
    some_act c.args.self.cache.id c.requires.stage.0 c.args.jobs c.args.used.items c.seat_all.new.actors.items c.requires.stage.2
    (c.seat_all.ensures ∙ ap (λ passes. seated passes c.args.used.items c.args.jobs) c.requires.stage.1.passes) c.requires.some

pub act_all-requires-clause-ready : goal.act_all-requires-clause-ready
act_all-requires-clause-ready g c κs lives =
    ready c.args.self.cache.id c.requires.stage.0 c.args.jobs c.args.used.items c.seat_all.new.actors.items c.requires.stage.2
    (c.seat_all.ensures ∙ ap (λ passes. seated passes c.args.used.items c.args.jobs) c.requires.stage.1.passes) c.requires.inputs

pub take_back-requires-clause-of : goal.take_back-requires-clause-of
take_back-requires-clause-of g c =
    still_here c.args.self.cache.id c.requires.stage.0 c.args.jobs c.args.used.items c.seat_all.new.actors.items c.requires.stage.2
    (c.seat_all.ensures ∙ ap (λ passes. seated passes c.args.used.items c.args.jobs) c.requires.stage.1.passes) c.requires.inputs
    g.L.Link.state
    (record { same = eq-value.it; base = c.args.base.now; fingerprints = c.args.trust.now; hints = c.args.hints; history = [] })
    c.act_all.new.actors.items c.act_all.ensures.acted

pub take_back-requires-clause-links : goal.take_back-requires-clause-links
take_back-requires-clause-links g c =
    let news = news_many c.args.self.cache.id c.requires.stage.0 c.args.jobs c.args.used.items c.seat_all.new.actors.items c.requires.stage.2
    (c.seat_all.ensures ∙ ap (λ passes. seated passes c.args.used.items c.args.jobs) c.requires.stage.1.passes) c.requires.inputs
    g.L.Link.state
    (record { same = eq-value.it; base = c.args.base.now; fingerprints = c.args.trust.now; hints = c.args.hints; history = [] })
    c.act_all.new.actors.items c.act_all.ensures.acted in
    let none = ap length c.requires.links.0 in
    let room = c.requires.links.1 in
    let many = c.requires.stage.2 in
    omega (arith, news, none, room, many)

pub take_back-requires-clause-outcomes : goal.take_back-requires-clause-outcomes
take_back-requires-clause-outcomes g c =
    let news = news_many c.args.self.cache.id c.requires.stage.0 c.args.jobs c.args.used.items c.seat_all.new.actors.items c.requires.stage.2
    (c.seat_all.ensures ∙ ap (λ passes. seated passes c.args.used.items c.args.jobs) c.requires.stage.1.passes) c.requires.inputs
    g.L.Link.state
    (record { same = eq-value.it; base = c.args.base.now; fingerprints = c.args.trust.now; hints = c.args.hints; history = [] })
    c.act_all.new.actors.items c.act_all.ensures.acted in
    let none = ap length c.requires.stage.1.outcomes in
    let room = c.requires.stage.1.of_outcomes in
    omega (arith, news, none, room)

pub close-requires-clause-all : goal.close-requires-clause-all
close-requires-clause-all g c =
    all_numbers c.args.self.cache.id c.requires.stage.0 c.args.jobs c.args.used.items c.seat_all.new.actors.items c.requires.stage.2
    (c.seat_all.ensures ∙ ap (λ passes. seated passes c.args.used.items c.args.jobs) c.requires.stage.1.passes) c.requires.inputs
    g.L.Link.state
    (record { same = eq-value.it; base = c.args.base.now; fingerprints = c.args.trust.now; hints = c.args.hints; history = [] })
    c.act_all.new.actors.items c.act_all.ensures.acted c.in-Some.whole c.in-Some.ensures.met c.args.self.cache.numbers c.requires.stage.1.numbers

pub unreachable-requires : goal.unreachable-requires
unreachable-requires g c =
    none_left c.args.self.cache.id c.requires.stage.0 c.args.jobs c.args.used.items c.seat_all.new.actors.items c.requires.stage.2
    (c.seat_all.ensures ∙ ap (λ passes. seated passes c.args.used.items c.args.jobs) c.requires.stage.1.passes) c.requires.inputs
    g.L.Link.state
    (record { same = eq-value.it; base = c.args.base.now; fingerprints = c.args.trust.now; hints = c.args.hints; history = [] })
    c.act_all.new.actors.items c.act_all.ensures.acted c.requires.some c.in-None.ensures.met

pub returns-clause-run : goal.returns-clause-run
returns-clause-run g c workers stage =
    run_is c.args.self.cache.id workers c.args.jobs c.args.used.items c.seat_all.new.actors.items
    (c.requires.stage.2 ∙ (sym c.requires.stage.1.numbers ∙ stage.numbers))
    (c.seat_all.ensures ∙ ap (λ passes. seated passes c.args.used.items c.args.jobs) stage.passes) c.requires.inputs g.L.Link.state
    (record {
      same = eq-value.it;
      base = c.args.base.now;
      fingerprints = c.args.trust.now;
      hints = c.args.hints;
      history = c.close.result.cache.history;
    })
    c.act_all.new.actors.items c.act_all.ensures.acted c.in-Some.whole c.in-Some.ensures.met c.close.result.outcomes c.take_back.new.links.items
    c.close.result.cache
    (c.close.ensures.outcomes ∙ c.in-Some.ensures.outcomes ∙ ap (λ its. its ++ outcomes_of c.act_all.new.actors.items) stage.outcomes)
    (c.in-Some.ensures.links ∙ ap (λ links. links ++ links_of c.act_all.new.actors.items) c.requires.links.0)
    c.close.ensures.history c.close.ensures.terms c.close.ensures.own c.close.ensures.legal refl

pub returns-clause-as_many : goal.returns-clause-as_many
returns-clause-as_many g c =
    ap length (c.in-Some.ensures.links ∙ ap (λ links. links ++ links_of c.act_all.new.actors.items) c.requires.links.0)
    ∙ links_many c.args.self.cache.id c.requires.stage.0 c.args.jobs c.args.used.items c.seat_all.new.actors.items c.requires.stage.2
    (c.seat_all.ensures ∙ ap (λ passes. seated passes c.args.used.items c.args.jobs) c.requires.stage.1.passes) c.requires.inputs
    g.L.Link.state
    (record { same = eq-value.it; base = c.args.base.now; fingerprints = c.args.trust.now; hints = c.args.hints; history = [] })
    c.act_all.new.actors.items c.act_all.ensures.acted
    ∙ sym c.requires.stage.2
