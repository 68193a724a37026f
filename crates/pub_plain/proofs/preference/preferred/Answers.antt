use Rattle.std.proofs.Common.{Some, sym, ap, ◌∙◌}
use Rattle.std.specs.Option.{option_copied}
use Rattle.pub_set.specs.Choices.{has}
use Rattle.pub_plain.specs.Choosing.{first_that, ranked_in}
use Rattle.pub_plain.proofs.PreferenceLemmas.{prefers_greatest, prefers_pinned, prefers_unpinned}
use Rattle.pub_plain.proofs.preference.preferred.Goals as goal
use Rattle.pub_plain.proofs.preference.preferred.Goals.{in-Some+in_default-pinned_choice, in_default}

pub returns-in-Some-pinned_choice : goal.returns-in-Some-pinned_choice
returns-in-Some-pinned_choice c =
    let list = c.args.list.now in
    let left = c.args.left.now in
    sym (ap (λ pin. first_that (has left) (ranked_in (option_copied pin) list)) c.in-Some.is
    ∙ prefers_pinned (has left) (Some c.in-Some.pin.now) list c.in-Some-pinned_choice.choice (sym c.pinned_choice.ensures ∙ c.in-Some-pinned_choice.is))

pub returns : goal.returns
returns c =
    let list = c.args.list.now in
    let left = c.args.left.now in
    c.greatest_choice.ensures ∙ sym (elim c.match-pin.branch [
      | in-Some+in_default-pinned_choice w ↦
          ap (λ pin. first_that (has left) (ranked_in (option_copied pin) list)) w.in-Some.is
          ∙ prefers_greatest (has left) (Some w.in-Some.pin.now) list (sym w.pinned_choice.ensures ∙ w.in_default-pinned_choice.is)
      | in_default w ↦
          ap (λ pin. first_that (has left) (ranked_in (option_copied pin) list)) w.in_default.is ∙ prefers_unpinned (has left) list
    ])
