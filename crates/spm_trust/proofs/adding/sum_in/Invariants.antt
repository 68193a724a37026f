use Rattle.std.proofs.Common.{◌≡◌, drop}
use Rattle.spm_trust.specs.Trust.{sum_in}
use Rattle.spm_trust.proofs.adding.sum_in.Given as goal

-- the first sum of the version is among those that are left
abbrev pub invariant-loop-kept : goal.invariant-loop-kept
invariant-loop-kept l = sum_in l.release (drop l.kept-index l.sums) ≡ sum_in l.release l.sums
