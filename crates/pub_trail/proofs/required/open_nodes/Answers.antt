use Rattle.std.proofs.Common.{length}
use Rattle.pub_trail.proofs.RequiredLemmas.{opens}
use Rattle.pub_trail.proofs.required.open_nodes.Goals as goal

pub returns : goal.returns
returns c = λ trail are.
    opens (length c.args.decisions.now) trail c.args.decisions.now c.args.incompats.now c.args.origins.now c.in_ok-opens.opens.items are c.requires.among c.in_ok-opens.ensures
