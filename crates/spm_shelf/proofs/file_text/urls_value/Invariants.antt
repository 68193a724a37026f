use Rattle.std.proofs.Common.{◌≡◌, drop, map}
use Rattle.serde_json.specs.Data.{no_members}
use Rattle.spm_shelf.specs.ShelfText.{url_pair}
use Rattle.spm_json.specs.Written.{put_all}
use Rattle.spm_shelf.proofs.file_text.urls_value.Given as goal

abbrev pub invariant-loop-url : goal.invariant-loop-url
invariant-loop-url l = put_all l.object (map url_pair (drop l.url-index l.urls)) ≡ put_all no_members (map url_pair l.urls)
