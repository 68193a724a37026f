use Rattle.serde_json.specs.View.{view}
use Rattle.spm_api.proofs.DistinctLemmas.{listed_distinct}
use Rattle.spm_api.proofs.bodies.ListingFromJson.from_json.Goals as goal

pub invariant_of-result : goal.invariant_of-result
invariant_of-result c = listed_distinct (view c.args.value.now) c.in_ok-listed.listed c.in_ok-listed.ensures.gives c.in_ok-listed.ensures.ascending
