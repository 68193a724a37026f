use Rattle.std.proofs.Common.{◌≡◌, ◌&&◌, Some, ℕ, Bool, false, sym, ap, ◌∙◌, arith}
use Rattle.std.specs.List.{filter}
use Rattle.pub_facts.specs.Catalogue.{release_at}
use Rattle.pub_set.specs.Choices.{has}
use Rattle.pub_plain.specs.Choosing.{choices_down, first_that, is_pinned}
use Rattle.pub_plain.proofs.PreferenceLemmas.{pinned_at, pinned_found, pinned_step}
use Rattle.pub_plain.proofs.preference.pinned_choice.Goals as goal
use Rattle.pub_plain.proofs.preference.pinned_choice.Goals.{else-eq-via-then-eq+else-has, else-eq-via-else-eq}

pub returns-then-has : goal.returns-then-has
returns-then-has c =
    let pin = c.args.pin.now in
    let list = c.args.list.now in
    let left = c.args.left.now in
    let choice = c.loop-choice.choice in
    let pinned : ℕ → Bool = λ k. is_pinned (Some pin) (release_at list k) in
    let at = pinned_at pin list choice c.index-list-choice.result (omega arith) (omega arith) c.index-list-choice.is in
    pinned_found (has left) pinned choice (first_that (has left) (filter pinned (choices_down list))) (omega arith)
    (at ∙ sym c.eq.ensures ∙ c.if-eq.true) (sym c.has.ensures ∙ c.if-has.true) c.loop-choice.invariant.left

pub loop-choice-preserved : goal.loop-choice-preserved
loop-choice-preserved c =
    let pin = c.args.pin.now in
    let list = c.args.list.now in
    let left = c.args.left.now in
    let choice = c.loop-choice.choice in
    let pinned : ℕ → Bool = λ k. is_pinned (Some pin) (release_at list k) in
    let at = pinned_at pin list choice c.index-list-choice.result (omega arith) (omega arith) c.index-list-choice.is ∙ sym c.eq.ensures in
    let fails : (pinned choice && has left choice) ≡ false =
    elim c.else-eq.branch [
      | else-eq-via-then-eq+else-has w ↦ ap (λ b. pinned choice && b) (sym w.has.ensures ∙ w.if-has.false) ∙ ap (λ b. b && false) (at ∙ w.if-eq.true)
      | else-eq-via-else-eq w ↦ ap (λ b. b && has left choice) (at ∙ w.if-eq.false)
    ] in
    record {
      within = omega arith;
      left = pinned_step (has left) pinned choice (first_that (has left) (filter pinned (choices_down list))) (omega arith) fails c.loop-choice.invariant.left;
    }
