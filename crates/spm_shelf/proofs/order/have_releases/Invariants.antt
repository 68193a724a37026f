use Rattle.std.proofs.Common.{ℕ, ◌<◌, get_or}
use Rattle.spm_shelf.specs.Shelf.{AreReleases}
use Rattle.spm_shelf.specs.declared.file.ShelfPackage.{ShelfPackage}
use Rattle.spm_shelf.proofs.order.have_releases.Given as goal

-- the packages so far have their releases as a shelf has them
abbrev pub invariant-loop-entry : goal.invariant-loop-entry
invariant-loop-entry l = (k : ℕ) (d : ShelfPackage) → k < l.entry-index → AreReleases (get_or l.packages k d).releases
