use Rattle.std.proofs.Common.{◌≡◌, ℕ, List, ◌++◌, take, drop}
use Rattle.spm_trust.specs.Trust.{added_sum}
use Rattle.spm_trust.proofs.adding.sum_place.Given as goal

-- adding a sum of the version leaves the sums so far as they are
abbrev pub invariant-loop-place : goal.invariant-loop-place
invariant-loop-place l =
    (sum : List ℕ) → added_sum l.release sum l.sums ≡ take l.place l.sums ++ added_sum l.release sum (drop l.place l.sums)
