use Rattle.std.proofs.Common.{◌≡◌, ℕ, ◌<◌, get_or, map, take}
use Rattle.spm_version.specs.Release.{parts_text}
use Rattle.spm_shelf.specs.Shelf.{IsComplete}
use Rattle.spm_shelf.specs.declared.file.ShelfRelease.{ShelfRelease}
use Rattle.spm_shelf.proofs.order.are_releases.Given as goal

-- the texts are those of the releases so far, which are complete
abbrev pub invariant-loop-release : goal.invariant-loop-release
invariant-loop-release l = record {
  texts : l.texts.items ≡ map (λ release. parts_text release.release) (take l.release-index l.releases);
  complete : (k : ℕ) (d : ShelfRelease) → k < l.release-index → IsComplete (get_or l.releases k d);
}
