use Rattle.pub_proof.proofs.CheckedLemmas.{checked_follows, checked_refutes, lines_from_whole}
use Rattle.pub_proof.proofs.laws.checked_means_refuted.Goals as goal

pub returns-clause-follows : goal.returns-clause-follows
returns-clause-follows c = λ facts derivation terms checked.
    checked_follows derivation.nodes derivation.sizes facts derivation.lines terms (lines_from_whole facts derivation terms checked)

pub returns-clause-refutes : goal.returns-clause-refutes
returns-clause-refutes c = λ facts derivation terms checked.
    checked_refutes derivation.nodes derivation.sizes facts derivation.lines terms (lines_from_whole facts derivation terms checked)
