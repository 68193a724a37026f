use Rattle.std.proofs.Common.{sym, subst}
use Rattle.pub_plain.proofs.AgainLemmas.{kept_pins, pinned_in}
use Rattle.pub_plain.proofs.PinLemmas.{solver_pins_ascend}
use Rattle.pub_plain.proofs.RunLemmas.{run_solver}
use Rattle.pub_plain.specs.Answers.{answers_of}
use Rattle.std.specs.Cmp.Lexicographic.{slice_cmp}
use Rattle.std.specs.List.Sorted.{IsStrictlySortedBy}
use Rattle.std.specs.Ordering.{nat_cmp}
use Rattle.spm_session.proofs.RunLemmas.{replies_short}
use Rattle.spm_session.proofs.laws.resolving_again_keeps_the_pins.Goals as goal

pub returns : goal.returns
returns c = λ job pins catalogue found again turns turns_again resolved resolved_again.
    let answers = answers_of catalogue in
    let short = replies_short catalogue in
    kept_pins job pins answers found again short
    (subst (λ pinned. IsStrictlySortedBy (slice_cmp nat_cmp) (pinned_in pinned)) (sym resolved.pins_are)
    (solver_pins_ascend answers resolved.run.state
    (run_solver job pins answers resolved.run.turns resolved.run.state short resolved.run.after)))
    (subst (λ pinned. IsStrictlySortedBy (slice_cmp nat_cmp) (pinned_in pinned)) (sym resolved_again.pins_are)
    (solver_pins_ascend answers resolved_again.run.state
    (run_solver job found answers resolved_again.run.turns resolved_again.run.state short resolved_again.run.after)))
    resolved.first resolved_again.first
