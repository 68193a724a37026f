use Rattle.std.proofs.Common.{◌≡◌, drop, map}
use Rattle.serde_json.specs.Data.{no_members}
use Rattle.spm_shelf.specs.ShelfText.{release_pair}
use Rattle.spm_json.specs.Written.{put_all}
use Rattle.spm_shelf.proofs.file_text.releases_value.Given as goal

abbrev pub invariant-loop-release : goal.invariant-loop-release
invariant-loop-release l = put_all l.object (map release_pair (drop l.release-index l.releases)) ≡ put_all no_members (map release_pair l.releases)
