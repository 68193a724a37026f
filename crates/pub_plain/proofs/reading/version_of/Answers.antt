use Rattle.std.proofs.Common.{rules}
use Rattle.std.specs.Option.{option_copied}
use Rattle.pub_term.specs.Node.{package_of}
use Rattle.pub_plain.proofs.ToldLemmas.{version_is}
use Rattle.pub_plain.proofs.reading.version_of.Goals as goal

pub returns : goal.returns
returns c =
    version_is c.args.told.now (package_of c.args.load.now.node) c.in_ok-identity.identity.now c.args.load.now.choice (option_copied c.release_at.result)
    (search rules) (search rules)
