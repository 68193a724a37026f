use Rattle.std.proofs.Common.{◌≡◌, ◌++◌, drop}
use Rattle.pub_facts.specs.Known.{lookups_of}
use Rattle.pub_facts.specs.Numbered.{sizes_of}
use Rattle.pub_plain.proofs.turning.sizes_of.Given as goal

abbrev pub invariant-loop-name : goal.invariant-loop-name
invariant-loop-name l = l.sizes.items ++ sizes_of (lookups_of l.told.known) (drop l.name-index l.names) ≡ sizes_of (lookups_of l.told.known) l.names
