use Rattle.serde_json.specs.View.{view}
use Rattle.spm_shelf.proofs.WholeMembers.{AreUrls-members_of}
use Rattle.spm_shelf.proofs.file.UrlsFromJson.from_json.Goals as goal

pub invariant_of-result : goal.invariant_of-result
invariant_of-result c = AreUrls-members_of (view c.args.value.now) c.in_ok-urls.urls c.in_ok-urls.ensures.ascending c.in_ok-urls.ensures.gives
