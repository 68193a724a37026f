use Rattle.std.proofs.Common.{◌≡◌, drop}
use Rattle.std.specs.Option.{option_copied}
use Rattle.spm_judge.specs.Spread.{is_one_on}
use Rattle.spm_judge.proofs.spread.is_one_on.Given as goal

abbrev pub invariant-loop-name : goal.invariant-loop-name
invariant-loop-name l =
    is_one_on l.on.keys (option_copied l.owner) (drop l.name-index l.names) ≡ is_one_on l.on.keys (option_copied l.owner) l.names
