use Rattle.std.proofs.Common.{◌≡◌, ◌||◌, ℕ, drop}
use Rattle.std.specs.BTreeSet.{contains}
use Rattle.std.specs.Ordering.{nat_cmp}
use Rattle.pub_proof.specs.ProofText.{is_named}
use Rattle.pub_proof.proofs.file_text.named_nodes.Given as goal

abbrev pub invariant-loop-line : goal.invariant-loop-line
invariant-loop-line l = (node : ℕ) → (contains nat_cmp l.named node || is_named (drop l.line-index l.lines) node) ≡ is_named l.lines node
