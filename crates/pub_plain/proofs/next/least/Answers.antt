use Rattle.std.proofs.Common.{◌∙◌, ℕ, Bool, List, arith, false, get_or, sym}
use Rattle.pub_term.specs.declared.node.NodeName.{NodeName}
use Rattle.pub_plain.proofs.NextSteps.{before_here, before_skips, before_stays}
use Rattle.pub_plain.proofs.next.least.Goals.{else-passes-place-via-then-passes-place+else-is_before, else-passes-place-via-else-passes-place}
use Rattle.pub_plain.proofs.next.least.Goals as goal

abbrev test : List Bool → ℕ → NodeName → Bool
test passes number name = get_or passes number false

pub loop-place-preserved-then-is_before : goal.loop-place-preserved-then-is_before
loop-place-preserved-then-is_before c = record {
  within = omega (arith, c.loop-place.invariant.within);
  least = before_here (test c.args.passes.now) c.args.names.now c.loop-place.place c.loop-place.least c.loop-place-test.true c.loop-place.invariant.within
      c.if-passes-place.true (sym c.is_before.ensures ∙ c.if-is_before.true) c.loop-place.invariant.least;
  below = omega (arith, c.loop-place.invariant.within, c.loop-place-test.true);
}

pub loop-place-preserved : goal.loop-place-preserved
loop-place-preserved c = record {
  within = omega (arith, c.loop-place.invariant.within);
  least = elim c.else-passes-place.branch [
    | else-passes-place-via-then-passes-place+else-is_before w ↦
        before_stays (test c.args.passes.now) c.args.names.now c.loop-place.place c.loop-place.least c.loop-place-test.true
        c.loop-place.invariant.within w.if-passes-place.true (sym w.is_before.ensures ∙ w.if-is_before.false) c.loop-place.invariant.least
    | else-passes-place-via-else-passes-place w ↦
        before_skips (test c.args.passes.now) c.args.names.now c.loop-place.place c.loop-place.least c.loop-place-test.true
        c.loop-place.invariant.within w.if-passes-place.false c.loop-place.invariant.least
  ];
  below = c.loop-place.invariant.below;
}
