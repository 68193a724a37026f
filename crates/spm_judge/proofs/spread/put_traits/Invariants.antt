use Rattle.std.proofs.Common.{◌≡◌, drop}
use Rattle.std.specs.Option.{option_copied}
use Rattle.spm_judge.specs.Spread.{each_put, put_trait}
use Rattle.spm_judge.proofs.spread.put_traits.Given as goal

abbrev pub invariant-loop-name : goal.invariant-loop-name
invariant-loop-name l =
    each_put (put_trait (option_copied l.owner)) l.on.keys (drop l.name-index l.names) ≡ each_put (put_trait (option_copied l.owner)) l.fn.on.keys l.names
