use Rattle.std.proofs.Common.{subst, sym, ◌≡◌}
use Rattle.pub_plain.specs.Solver.{Turns, turn_now}
use Rattle.pub_trail.specs.Turn.{Needs, TooWide}
use Rattle.spm_session.specs.Run.{IsRun}
use Rattle.spm_session.proofs.RunLemmas.{ends_before, put_ends, put_told, run_turned, runs_to, turn_falls}
use Rattle.spm_session.proofs.run.step.Goals as goal

-- src/run.rt
pub demand-requires-clause-needs : goal.demand-requires-clause-needs
demand-requires-clause-needs g c =
    let need = subst (λ t. Turns t c.args.plain.now c.turn.new.self) c.in-Need.is c.in_ok-turn.ensures.ok in
    subst (λ s. turn_now s ≡ Needs c.in-Need.key) (sym need.1) need.0

pub returns-in-Went-clause-run : goal.returns-in-Went-clause-run
returns-in-Went-clause-run g c =
    run_turned (g.S.Source.knows c.args.source.now) c.args.plain.now c.turn.new.self
    (subst (λ t. Turns t c.args.plain.now c.turn.new.self) c.in-Went.is c.in_ok-turn.ensures.ok)

pub returns-in-Went-clause-falls : goal.returns-in-Went-clause-falls
returns-in-Went-clause-falls g c =
    turn_falls (g.S.Source.knows c.args.source.now) c.args.plain.now c.turn.new.self
    (subst (λ t. Turns t c.args.plain.now c.turn.new.self) c.in-Went.is c.in_ok-turn.ensures.ok)

pub returns-in_ok-refuted-in-Refuted-clause-end : goal.returns-in_ok-refuted-in-Refuted-clause-end
returns-in_ok-refuted-in-Refuted-clause-end g c =
    let known = g.S.Source.knows c.args.source.now in
    let refutes = subst (λ t. Turns t c.args.plain.now c.turn.new.self) c.in-Refuted.is c.in_ok-turn.ensures.ok in
    let it = c.in_ok-refuted-in-Refuted.field-0 in
    ends_before _ known c.args.trust.now c.args.plain.now c.turn.new.self it refutes.4
    (put_ends _ known c.args.trust.now c.turn.new.self it c.in_ok-refuted-in-Refuted.ensures.put)

pub returns-in_ok-refuted-in-Refuted-clause-told : goal.returns-in_ok-refuted-in-Refuted-clause-told
returns-in_ok-refuted-in-Refuted-clause-told g c = λ run.
    let known = g.S.Source.knows c.args.source.now in
    let refutes = subst (λ t. Turns t c.args.plain.now c.turn.new.self) c.in-Refuted.is c.in_ok-turn.ensures.ok in
    put_told _ known c.turn.new.self c.in_ok-refuted-in-Refuted.field-0 c.in_ok-refuted-in-Refuted.ensures.put (subst (IsRun known) (sym refutes.4) run)

pub returns-in-TooWide-clause-end : goal.returns-in-TooWide-clause-end
returns-in-TooWide-clause-end g c = λ run.
    let wide = subst (λ t. Turns t c.args.plain.now c.turn.new.self) c.in-TooWide.is c.in_ok-turn.ensures.ok in
    record { c = run.c; from = run.from; is = runs_to (g.S.Source.knows c.args.source.now) c.args.plain.now (TooWide c.in-TooWide.wide) run wide.0 }
