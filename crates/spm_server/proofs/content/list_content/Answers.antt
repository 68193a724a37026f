use Rattle.std.proofs.Common.{◌∙◌, ap}
use Rattle.serde_json.specs.Written.{has_float}
use Rattle.spm_server.proofs.ContentLemmas.{no_float_in_list}
use Rattle.spm_server.proofs.content.list_content.Goals as goal

pub json_content-requires : goal.json_content-requires
json_content-requires c =
    ap has_float (rw (c.in_ok-places.ensures, c.as_slice.ensures) at c.in_ok-value.ensures) ∙ no_float_in_list c.args.entry.now
