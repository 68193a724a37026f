use Rattle.std.proofs.Common.{sym, ◌∙◌, arith}
use Rattle.pub_set.specs.Choices.{has}
use Rattle.pub_plain.specs.Choosing.{choices_down, first_that}
use Rattle.pub_plain.proofs.PreferenceLemmas.{greatest_step}
use Rattle.pub_plain.proofs.preference.greatest_choice.Goals as goal

pub loop-choice-preserved : goal.loop-choice-preserved
loop-choice-preserved c = record {
  within = omega arith;
  left =
      greatest_step (has c.args.left.now) c.loop-choice.choice (first_that (has c.args.left.now) (choices_down c.args.list.now)) (omega arith)
      (sym c.has.ensures ∙ c.if-has.false) c.loop-choice.invariant.left;
}
