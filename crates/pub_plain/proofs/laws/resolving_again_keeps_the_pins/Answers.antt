use Rattle.pub_plain.specs.Answers.{lookups_by}
use Rattle.pub_plain.specs.Derivation.{pins_in}
use Rattle.pub_plain.proofs.AgainLemmas.{kept_pins}
use Rattle.pub_plain.proofs.FirstSelection.{selection_first}
use Rattle.pub_plain.proofs.PinLemmas.{solver_pins_ascend}
use Rattle.pub_plain.proofs.RunLemmas.{run_solver}
use Rattle.pub_plain.proofs.laws.resolving_again_keeps_the_pins.Goals as goal

pub returns : goal.returns
returns c job pins answers n m state again short ascending went selects went_again selects_again =
    let found = pins_in (lookups_by answers) state in
    kept_pins job pins answers found (pins_in (lookups_by answers) again) short
    (solver_pins_ascend answers state (run_solver job pins answers n state short went))
    (solver_pins_ascend answers again (run_solver job found answers m again short went_again))
    (selection_first job pins answers n state short ascending went selects)
    (selection_first job found answers m again short ascending went_again selects_again)
