use Rattle.std.proofs.Common.{◌≡◌, drop}
use Rattle.std.specs.Option.{option_copied}
use Rattle.spm_judge.specs.Spread.{each_put, spread_trait}
use Rattle.spm_judge.proofs.spread.spread_traits.Given as goal

abbrev pub invariant-loop-entry : goal.invariant-loop-entry
invariant-loop-entry l =
    each_put (spread_trait (option_copied l.owner) l.entries) l.on.keys (drop l.entry-index l.entries)
    ≡ each_put (spread_trait (option_copied l.owner) l.entries) l.fn.on.keys l.entries
