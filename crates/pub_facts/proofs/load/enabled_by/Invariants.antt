use Rattle.std.proofs.Common.{◌≡◌, drop}
use Rattle.spm_trait.specs.Closure.{enabled_by}
use Rattle.pub_facts.proofs.load.enabled_by.Given as goal

abbrev pub invariant-loop-entry : goal.invariant-loop-entry
invariant-loop-entry l = enabled_by (drop l.entry-index l.entries) l.name ≡ enabled_by l.entries l.name
