use Rattle.std.proofs.Common.{◌≡◌, ◌||◌, ℕ, drop}
use Rattle.std.specs.BTreeSet.{contains}
use Rattle.std.specs.Ordering.{nat_cmp}
use Rattle.pub_proof.specs.Checked.{has_node}
use Rattle.pub_proof.proofs.file_text.add_nodes.Given as goal

abbrev pub invariant-loop-term : goal.invariant-loop-term
invariant-loop-term l =
    (node : ℕ) → (contains nat_cmp l.named node || has_node (drop l.term-index l.term-items) node)
    ≡ (has_node l.term-items node || contains nat_cmp l.initial.named node)
