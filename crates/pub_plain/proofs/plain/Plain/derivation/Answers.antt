use Rattle.pub_plain.proofs.PlainLemmas.{behind_view}
use Rattle.pub_plain.proofs.plain.Plain.derivation.Goals as goal

pub returns : goal.returns
returns c = behind_view _ c.derivation.result _ c.args.self.now c.self.view_is c.derivation.ensures
