use Rattle.spm_api.specs.Bodies.{releases_of}
use Rattle.spm_api.proofs.SaidLemmas.{list_read}
use Rattle.spm_api.proofs.saying.list_said.Goals as goal

pub returns-in-Ok : goal.returns-in-Ok
returns-in-Ok c = list_read (releases_of c.args.bytes.now) c.in-Ok.releases c.in-Ok.ensures
