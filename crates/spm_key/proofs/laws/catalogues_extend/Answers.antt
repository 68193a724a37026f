use Rattle.spm_key.proofs.ExtendsLaws.{itself, onward, stays}
use Rattle.spm_key.proofs.laws.catalogues_extend.Goals as goal

pub returns : goal.returns
returns c = record { itself = itself; onward = onward; stays = stays }
