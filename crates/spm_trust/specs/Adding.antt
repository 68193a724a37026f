-- Where a package and a sum stand among those that ascend, or belong there, as steps of their own.
use Rattle.std.specs.Prelude.{◌≡◌, ◌≤◌, ℕ, List, length, insert, Option, Some, None}
use Rattle.std.specs.Cmp.Lexicographic.{slice_cmp}
use Rattle.std.specs.Ordering.{nat_cmp}
use Rattle.std.specs.declared.cmp.Ordering.{Ordering}
use Rattle.spm_version.specs.Release.{Parts}
use Rattle.spm_trust.specs.Trust.{added_sum}
use Rattle.spm_trust.specs.declared.file.KeptPackage.{KeptPackage}
use Rattle.spm_trust.specs.declared.file.KeptSum.{KeptSum}

-- how a package stands beside this identity
abbrev pub beside : List ℕ → KeptPackage → Ordering
beside identity entry = slice_cmp nat_cmp entry.identity identity

-- adding a sum of this version puts it at this place, or leaves the sums as they are
abbrev pub AddsAt : Option ℕ → Parts → List KeptSum → Type 0
AddsAt (Some place) release sums =
    (place ≤ length sums) × ((sum : List ℕ) → added_sum release sum sums ≡ insert sums place (record { release = release; sum = sum }))
AddsAt None release sums = (sum : List ℕ) → added_sum release sum sums ≡ sums
