use Rattle.std.proofs.Common.{◌≡◌, Ok, Err, subst, sym}
use Rattle.pub_plain.specs.Solver.{turn_now}
use Rattle.pub_trail.specs.Turn.{Needs}
use Rattle.spm_session.proofs.run.demand.Goals as goal
use Rattle.spm_session.proofs.RunLemmas.{give_falls, needs_what, refused_on, run_given, run_wider, unfetched_ends, unfetched_told}

-- src/run.rt
pub returns-in-Err-clause-end : goal.returns-in-Err-clause-end
returns-in-Err-clause-end g c = λ fingerprints run.
    unfetched_ends _ (g.S.Source.knows c.fetched.new.source) fingerprints c.args.key c.args.plain.now c.in-Err.outcome c.requires.needs
    c.in-Err.ensures.err (run_wider _ _ c.fetched.ensures.wider c.args.plain.now run)

pub returns-in-Err-clause-told : goal.returns-in-Err-clause-told
returns-in-Err-clause-told g c = λ run. unfetched_told c.args.key c.in-Err.outcome c.in-Err.ensures.err

pub returns-in-Err-give-clause-end : goal.returns-in-Err-give-clause-end
returns-in-Err-give-clause-end g c = λ fingerprints run.
    let known = g.S.Source.knows c.fetched.new.source in
    let needs = subst (λ k. turn_now c.args.plain.now ≡ Needs k) (sym c.in-Ok.ensures.key) c.requires.needs in
    refused_on _ known c.in-Ok.found.0 c.reply-2.result.now c.args.plain.now (Err c.in-Err-give.outcome) needs
    (needs_what c.args.plain.now c.in-Ok.found.0 needs).0
    (subst (known c.in-Ok.found.0) (sym c.reply-2.ensures) (subst (λ k. known k c.in-Ok.found.1) (sym c.in-Ok.ensures.key) c.in-Ok.ensures.known))
    c.in-Err-give.ensures.err fingerprints (run_wider _ known c.fetched.ensures.wider c.args.plain.now run)

pub returns-in_err-look_ahead-clause-wider : goal.returns-in_err-look_ahead-clause-wider
returns-in_err-look_ahead-clause-wider g c = λ asked reply has.
    g.S.Source.keeps _ _ c.look_ahead.ensures.goes asked reply (c.fetched.ensures.wider asked reply has)

pub returns-clause-run : goal.returns-clause-run
returns-clause-run g c = λ run.
    let known = g.S.Source.knows c.fetched.new.source in
    let needs = subst (λ k. turn_now c.args.plain.now ≡ Needs k) (sym c.in-Ok.ensures.key) c.requires.needs in
    let what = needs_what c.args.plain.now c.in-Ok.found.0 needs in
    run_wider known _ (g.S.Source.keeps _ _ c.look_ahead.ensures.goes) c.give.new.plain
    (run_given known c.in-Ok.found.0 c.reply-2.result.now c.args.plain.now c.give.new.plain what.1 what.0
    (subst (known c.in-Ok.found.0) (sym c.reply-2.ensures) (subst (λ k. known k c.in-Ok.found.1) (sym c.in-Ok.ensures.key) c.in-Ok.ensures.known))
    c.in-Ok-give.ensures.ok (run_wider _ known c.fetched.ensures.wider c.args.plain.now run))

pub returns-clause-falls : goal.returns-clause-falls
returns-clause-falls g c = λ run.
    let known = g.S.Source.knows c.fetched.new.source in
    let needs = subst (λ k. turn_now c.args.plain.now ≡ Needs k) (sym c.in-Ok.ensures.key) c.requires.needs in
    give_falls known c.in-Ok.found.0 c.reply-2.result.now c.args.plain.now c.give.new.plain (Ok tt) needs c.in-Ok-give.ensures.ok
    (run_wider _ known c.fetched.ensures.wider c.args.plain.now run)

pub returns-clause-wider : goal.returns-clause-wider
returns-clause-wider g c = λ asked reply has.
    g.S.Source.keeps _ _ c.look_ahead.ensures.goes asked reply (c.fetched.ensures.wider asked reply has)
