use Rattle.std.proofs.Common.{◌≡◌, drop, map}
use Rattle.serde_json.specs.Data.{no_members}
use Rattle.spm_shelf.specs.ShelfText.{package_pair}
use Rattle.spm_json.specs.Written.{put_all}
use Rattle.spm_shelf.proofs.file_text.packages_value.Given as goal

abbrev pub invariant-loop-package : goal.invariant-loop-package
invariant-loop-package l = put_all l.object (map package_pair (drop l.package-index l.packages)) ≡ put_all no_members (map package_pair l.packages)
