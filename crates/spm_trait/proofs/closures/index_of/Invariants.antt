use Rattle.spm_trait.specs.Reached.{IsIndex}
use Rattle.spm_trait.proofs.IndexLemmas.{passed}
use Rattle.spm_trait.proofs.closures.index_of.Given as goal

abbrev pub invariant-loop-entry : goal.invariant-loop-entry
invariant-loop-entry l = IsIndex (passed l.yielded) l.index
