use Rattle.pub_proof.specs.Checks.{terms_of}
use Rattle.pub_proof.proofs.FormedLemmas.{formed_earlier}
use Rattle.pub_proof.proofs.resolving.resolved_line.Goals as goal

pub resolved-requires-clause-first : goal.resolved-requires-clause-first
resolved-requires-clause-first c =
    formed_earlier c.args.sizes.now (terms_of c.args.earlier.now) c.args.cited.0 c.in-Some.first.now.terms c.requires c.in-Some.ensures

pub resolved-requires-clause-second : goal.resolved-requires-clause-second
resolved-requires-clause-second c =
    formed_earlier c.args.sizes.now (terms_of c.args.earlier.now) c.args.cited.1 c.in-Some-earlier_line.second.now.terms c.requires
    c.in-Some-earlier_line.ensures
