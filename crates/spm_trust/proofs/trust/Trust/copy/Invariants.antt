use Rattle.std.proofs.Common.{◌≡◌, take}
use Rattle.spm_trust.proofs.trust.Trust.copy.Given as goal

abbrev pub invariant-loop-entry : goal.invariant-loop-entry
invariant-loop-entry l = l.packages.items ≡ take l.entry-index l.entry-items
