use Rattle.spm_api.specs.Bodies.{identifiers_of}
use Rattle.spm_api.proofs.SaidLemmas.{package_read}
use Rattle.spm_api.proofs.saying.package_said.Goals as goal

pub returns-in-Ok : goal.returns-in-Ok
returns-in-Ok c = package_read (identifiers_of c.args.bytes.now) c.in-Ok.least c.in-Ok.ensures
