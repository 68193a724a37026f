use Rattle.std.proofs.Common.{◌≡◌, drop}
use Rattle.pub_proof.specs.Checked.{has_node}
use Rattle.pub_proof.proofs.resolving.has_node.Given as goal

abbrev pub invariant-loop-term : goal.invariant-loop-term
invariant-loop-term l = has_node (drop l.term-index l.term-items) l.node ≡ has_node l.incompat.terms l.node
