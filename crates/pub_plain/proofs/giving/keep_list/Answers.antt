use Rattle.pub_plain.proofs.GivingLemmas.{kept_list, kept_long}
use Rattle.pub_plain.proofs.giving.keep_list.Goals as goal

pub returns-in-Releases-clause-ok : goal.returns-in-Releases-clause-ok
returns-in-Releases-clause-ok c =
    kept_list c.args.told.now c.args.identity.now c.in_ok-package.package c.in-Releases.list c.args.said c.push.new.self c.push.result c.in-Releases.is
    c.in_ok-package.ensures c.requires.said c.requires.fresh c.push.ensures.ok

pub returns-in-TooMany-clause-ok : goal.returns-in-TooMany-clause-ok
returns-in-TooMany-clause-ok c =
    kept_long c.args.told.now c.args.identity.now c.in_ok-package.package c.args.said c.push-in-TooMany.new.self c.push-in-TooMany.result c.in-TooMany.is
    c.in_ok-package.ensures c.requires.fresh c.push-in-TooMany.ensures.ok
