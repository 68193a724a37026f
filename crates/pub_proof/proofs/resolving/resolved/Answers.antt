use Rattle.std.proofs.Common.{arith}
use Rattle.pub_proof.proofs.FormedLemmas.{can_resolve_from, formed_resolvent, sizes_agree}
use Rattle.pub_proof.proofs.resolving.resolved.Goals as goal

pub can_resolve-requires : goal.can_resolve-requires
can_resolve-requires c = sizes_agree c.args.sizes.now c.args.first.now.terms c.args.second.now.terms c.requires.first c.requires.second

pub resolve-requires-clause-can : goal.resolve-requires-clause-can
resolve-requires-clause-can c =
    can_resolve_from c.args.sizes.now c.args.first.now.terms c.args.second.now.terms c.args.on c.requires.first.sized c.requires.second.sized (grind arith)

pub returns-clause-formed : goal.returns-clause-formed
returns-clause-formed c =
    formed_resolvent c.args.sizes.now c.args.first.now.terms c.args.second.now.terms c.in_ok-incompat.incompat.terms c.args.on
    c.requires.first c.requires.second c.in_ok-incompat.ensures.resolvent c.in_ok-incompat.ensures.incompat
