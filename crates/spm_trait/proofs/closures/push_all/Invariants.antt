use Rattle.std.proofs.Common.{◌≡◌, ◌++◌, take}
use Rattle.spm_trait.specs.Reached.{names_of}
use Rattle.spm_trait.proofs.closures.push_all.Given as goal

abbrev pub invariant-loop-name : goal.invariant-loop-name
invariant-loop-name l = names_of l.waiting.items ≡ names_of l.initial.waiting.items ++ take l.name-index l.more
