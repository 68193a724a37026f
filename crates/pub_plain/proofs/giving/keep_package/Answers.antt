use Rattle.pub_plain.proofs.GivingLemmas.{kept_package}
use Rattle.pub_plain.proofs.giving.keep_package.Goals as goal

pub returns-in-Package-clause-ok : goal.returns-in-Package-clause-ok
returns-in-Package-clause-ok c =
    kept_package c.args.told.now c.args.url.now c.in_ok-url-in-Package.url c.in-Package.package c.args.said c.push.new.self c.push.result c.in-Package.is
    c.in_ok-url-in-Package.ensures c.requires.fresh c.push.ensures.ok
