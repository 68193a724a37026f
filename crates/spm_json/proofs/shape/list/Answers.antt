use Rattle.spm_json.proofs.Views.{list_of-items_of}
use Rattle.spm_json.proofs.shape.list.Goals as goal

pub returns-in-Some : goal.returns-in-Some
returns-in-Some c = list_of-items_of _ _ c.in-Some.ensures
