use Rattle.std.proofs.Common.{◌≡◌, ◌≤◌, Some, length}
use Rattle.std.specs.List.{filter}
use Rattle.pub_facts.specs.Catalogue.{release_at}
use Rattle.pub_set.specs.Choices.{has}
use Rattle.pub_plain.specs.Choosing.{first_that, is_pinned}
use Rattle.pub_plain.proofs.PreferenceLemmas.{down}
use Rattle.pub_plain.proofs.preference.pinned_choice.Given as goal

abbrev pub invariant-loop-choice : goal.invariant-loop-choice
invariant-loop-choice l = record {
  within : l.choice ≤ length l.list;
  left :
      first_that (has l.left) (filter (λ k. is_pinned (Some l.pin) (release_at l.list k)) (down l.choice))
      ≡ first_that (has l.left) (filter (λ k. is_pinned (Some l.pin) (release_at l.list k)) (down (length l.list)));
}

abbrev pub decreases-loop-choice : goal.decreases-loop-choice
decreases-loop-choice l = l.choice
