use Rattle.std.proofs.Common.{◌≡◌, ◌≤◌, length}
use Rattle.pub_set.specs.Choices.{has}
use Rattle.pub_plain.specs.Choosing.{first_that}
use Rattle.pub_plain.proofs.PreferenceLemmas.{down}
use Rattle.pub_plain.proofs.preference.greatest_choice.Given as goal

abbrev pub invariant-loop-choice : goal.invariant-loop-choice
invariant-loop-choice l = record {
  within : l.choice ≤ length l.list;
  left : first_that (has l.left) (down l.choice) ≡ first_that (has l.left) (down (length l.list));
}

abbrev pub decreases-loop-choice : goal.decreases-loop-choice
decreases-loop-choice l = l.choice
