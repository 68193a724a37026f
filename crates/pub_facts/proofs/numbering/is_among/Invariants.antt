use Rattle.std.proofs.Common.{◌≡◌, drop}
use Rattle.std.specs.List.{list_any}
use Rattle.pub_term.specs.NodeLaws.{node_eq}
use Rattle.pub_facts.proofs.numbering.is_among.Given as goal

abbrev pub invariant-loop-other : goal.invariant-loop-other
invariant-loop-other l = list_any (node_eq l.node) (drop l.other-index l.nodes) ≡ list_any (node_eq l.node) l.nodes
