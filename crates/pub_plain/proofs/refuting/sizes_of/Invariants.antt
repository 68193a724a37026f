use Rattle.std.proofs.Common.{◌≡◌, ◌++◌, drop}
use Rattle.pub_facts.specs.Known.{lookups_of}
use Rattle.pub_facts.specs.Numbered.{sizes_of}
use Rattle.pub_plain.proofs.refuting.sizes_of.Given as goal

abbrev pub invariant-loop-node : goal.invariant-loop-node
invariant-loop-node l = l.sizes ++ sizes_of (lookups_of l.known) (drop l.node-index l.nodes) ≡ sizes_of (lookups_of l.known) l.nodes
