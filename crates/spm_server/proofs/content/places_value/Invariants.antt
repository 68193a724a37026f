use Rattle.std.proofs.Common.{◌≡◌, drop, map}
use Rattle.serde_json.specs.Data.{no_members}
use Rattle.spm_json.specs.Written.{put_all}
use Rattle.spm_server.specs.Content.{listed_pair}
use Rattle.spm_server.proofs.content.places_value.Given as goal

abbrev pub invariant-loop-entry : goal.invariant-loop-entry
invariant-loop-entry l = put_all l.places (map (listed_pair l.identity) (drop l.entry-index l.entries)) ≡ put_all no_members (map (listed_pair l.identity) l.entries)
