use Rattle.std.proofs.Common.{◌+◌, length}
use Rattle.spm_trait.specs.Reached.{enabled_in, names_in, names_of}
use Rattle.spm_trait.proofs.Search.{IsSearch, left}
use Rattle.spm_trait.proofs.closures.reached.Given as goal

abbrev pub invariant-loop-name : goal.invariant-loop-name
invariant-loop-name l = IsSearch (enabled_in l.index) l.asked (names_in l.names) (names_of l.waiting.items)

abbrev pub decreases-loop-name : goal.decreases-loop-name
decreases-loop-name l = left l.index.entries (names_in l.names) + length (names_of l.waiting.items)
