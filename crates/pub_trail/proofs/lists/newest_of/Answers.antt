use Rattle.std.proofs.Common.{◌∙◌, arith, sym}
use Rattle.pub_term.specs.Known as kept
use Rattle.pub_trail.specs.Turn.{newest_from}
use Rattle.pub_trail.specs.Walk.{terms_of}
use Rattle.pub_trail.proofs.ListLemmas.{newest_found, newest_step}
use Rattle.pub_trail.proofs.lists.newest_of.Goals as goal

pub returns-then-holds : goal.returns-then-holds
returns-then-holds c =
    let test = kept.holds c.args.left.now in
    let incompats = c.args.incompats.now in
    newest_found test incompats c.loop-place.place c.index-incompats-place.result (newest_from test 0 (terms_of incompats)) (omega arith) (omega arith)
    c.index-incompats-place.is (sym c.holds.ensures ∙ c.if-holds.true) c.loop-place.invariant.left

pub loop-place-preserved : goal.loop-place-preserved
loop-place-preserved c =
    let test = kept.holds c.args.left.now in
    let incompats = c.args.incompats.now in
    record {
      within = omega arith;
      left = newest_step test incompats c.loop-place.place c.index-incompats-place.result (newest_from test 0 (terms_of incompats)) (omega arith) (omega arith)
          c.index-incompats-place.is (sym c.holds.ensures ∙ c.if-holds.false) c.loop-place.invariant.left;
    }
