use Rattle.std.proofs.Common.{◌≡◌, ◌++◌, drop}
use Rattle.pub_facts.specs.Numbered.{new_names, written_nodes}
use Rattle.pub_facts.proofs.numbering.new_names.Given as goal

abbrev pub invariant-loop-fact : goal.invariant-loop-fact
invariant-loop-fact l =
    l.names ++ new_names (l.known ++ l.names) (written_nodes (drop l.fact-index l.facts)) ≡ new_names l.known (written_nodes l.facts)
