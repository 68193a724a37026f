use Rattle.std.proofs.Common.{◌+◌, Err, drop, subst, sym}
use Rattle.std.proofs.Math.ListN.{drop_of_length-le}
use Rattle.std.proofs.lemmas.Result.{err_from_is_err_and}
use Rattle.spm_key.specs.Catalogue.{Catalogue}
use Rattle.spm_session.specs.Archives.{pins_looked}
use Rattle.spm_session.specs.Outcome.{IsNoFault}
use Rattle.spm_session.specs.Run.{GoesBy, IsKeyOfAny, LooksFrom}
use Rattle.spm_session.proofs.ArchiveLemmas.{looks_memory}
use Rattle.spm_session.proofs.PinsLemmas.{IsLooking, drop_next, looking_ends, looking_first, looking_on, looking_stops, looking_wider}
use Rattle.spm_session.proofs.SourceLemmas.{quiet_ends, then_ends}
use Rattle.spm_session.proofs.archives.look_at_pins.Goals as goal

-- src/archives.rt
pub loop-pin-init : goal.loop-pin-init
loop-pin-init g c =
    let known = g.S.Source.knows c.args.source.now in
    record {
      ready = c.requires;
      looking = subst (IsLooking known c.args.trust.now c.args.pins.now c.args.pins.now) (sym c.new-sums.ensures)
          (looking_first known c.args.trust.now c.args.pins.now);
      goes = g.S.Source.stays _;
    }

pub returns-in_err-push-in-Ok-clause-looks : goal.returns-in_err-push-in-Ok-clause-looks
returns-in_err-push-in-Ok-clause-looks g c = λ up.
    let known = g.S.Source.knows c.look_at_pin.new.source in
    let look = λ (c' : Catalogue). pins_looked c.args.trust.now c' c.args.pins.now in
    let exit = err_from_is_err_and c.from_residual.result c.from_residual.ensures.1 in
    subst (LooksFrom known (IsKeyOfAny c.args.pins.now) look) (sym exit.1)
    (subst (λ it. LooksFrom known (IsKeyOfAny c.args.pins.now) look (Err it)) (sym exit.2)
    (looks_memory known (IsKeyOfAny c.args.pins.now) look))

pub returns-in_err-push-in-Ok-clause-went : goal.returns-in_err-push-in-Ok-clause-went
returns-in_err-push-in-Ok-clause-went g c =
    let exit = err_from_is_err_and c.from_residual.result c.from_residual.ensures.1 in
    subst (GoesBy g.S.Source.goes g.S.Source.misses _ _) (sym exit.1)
    (quiet_ends g.S.Source.goes g.S.Source.misses _ _ exit.0 (subst IsNoFault (sym exit.2) tt)
    (g.S.Source.onward _ _ _ c.loop-pin.invariant.goes c.in-Ok.ensures.went))

pub returns-in_err-push-in-Ok-clause-wider : goal.returns-in_err-push-in-Ok-clause-wider
returns-in_err-push-in-Ok-clause-wider g c = λ asked reply has.
    c.look_at_pin.ensures.wider asked reply (g.S.Source.keeps _ _ c.loop-pin.invariant.goes asked reply has)

pub returns-in-Err-clause-looks : goal.returns-in-Err-clause-looks
returns-in-Err-clause-looks g c = λ up.
    let known = g.S.Source.knows c.look_at_pin.new.source in
    let before = c.loop-pin.invariant in
    let pin = c.pin-item.result in
    let rest = drop (c.loop-pin.pin-index + 1) c.args.pins.now in
    looking_stops known c.args.trust.now c.args.pins.now pin rest c.loop-pin.sums c.in-Err.outcome
    (subst (λ left. IsLooking known c.args.trust.now c.args.pins.now left c.loop-pin.sums)
    (drop_next c.args.pins.now c.loop-pin.pin-index pin c.loop-pin-test.true c.pin-item.is)
    (looking_wider _ known c.look_at_pin.ensures.wider _ _ _ _ before.looking))
    c.in-Err.ensures.looks up

pub returns-in-Err-clause-went : goal.returns-in-Err-clause-went
returns-in-Err-clause-went g c =
    then_ends g.S.Source.goes g.S.Source.misses _ _ _ (g.S.Source.onward _ _ _) (λ asked why. g.S.Source.then_misses _ _ _ asked why)
    c.in-Err.outcome c.loop-pin.invariant.goes c.in-Err.ensures.went

pub returns-in-Err-clause-wider : goal.returns-in-Err-clause-wider
returns-in-Err-clause-wider g c = λ asked reply has.
    c.look_at_pin.ensures.wider asked reply (g.S.Source.keeps _ _ c.loop-pin.invariant.goes asked reply has)

pub loop-pin-preserved : goal.loop-pin-preserved
loop-pin-preserved g c =
    let known = g.S.Source.knows c.look_at_pin.new.source in
    let before = c.loop-pin.invariant in
    let pin = c.pin-item.result in
    let rest = drop (c.loop-pin.pin-index + 1) c.args.pins.now in
    record {
      ready = c.in-Ok.ensures.ready;
      looking = subst (IsLooking known c.args.trust.now c.args.pins.now rest) (sym c.in_ok-push-in-Ok.ensures.ok)
          (looking_on known c.args.trust.now c.args.pins.now pin rest c.loop-pin.sums c.in-Ok.sum
          (subst (λ left. IsLooking known c.args.trust.now c.args.pins.now left c.loop-pin.sums)
          (drop_next c.args.pins.now c.loop-pin.pin-index pin c.loop-pin-test.true c.pin-item.is)
          (looking_wider _ known c.look_at_pin.ensures.wider _ _ _ _ before.looking))
          c.in-Ok.ensures.looks);
      goes = g.S.Source.onward _ _ _ before.goes c.in-Ok.ensures.went;
    }

pub returns-clause-looks : goal.returns-clause-looks
returns-clause-looks g c = λ up.
    let known = g.S.Source.knows c.loop-pin.source in
    looking_ends known c.args.trust.now c.args.pins.now c.loop-pin.sums
    (subst (λ left. IsLooking known c.args.trust.now c.args.pins.now left c.loop-pin.sums)
    (drop_of_length-le c.args.pins.now c.loop-pin-test.false) c.loop-pin.invariant.looking)
    up

pub returns-clause-wider : goal.returns-clause-wider
returns-clause-wider g c = g.S.Source.keeps _ _ c.loop-pin.invariant.goes
