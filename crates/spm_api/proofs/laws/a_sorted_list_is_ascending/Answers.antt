use Rattle.spm_api.proofs.AscendingLemmas.{ascending_is}
use Rattle.spm_api.proofs.laws.a_sorted_list_is_ascending.Goals as goal

pub returns : goal.returns
returns c = ascending_is
