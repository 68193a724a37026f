use Rattle.std.proofs.Common.{◌≡◌, ◌++◌, drop, map}
use Rattle.pub_facts.specs.Known.{lookups_of}
use Rattle.pub_plain.specs.Derivation.{texts_of}
use Rattle.pub_plain.proofs.texts.choices_text.Given as goal

abbrev pub invariant-loop-node : goal.invariant-loop-node
invariant-loop-node l = l.texts ++ map (texts_of (lookups_of l.known)) (drop l.node-index l.nodes) ≡ map (texts_of (lookups_of l.known)) l.nodes
