use Rattle.pub_plain.proofs.GivingLemmas.{kept_manifest}
use Rattle.pub_plain.proofs.giving.keep_manifest.Goals as goal

pub returns-clause-ok : goal.returns-clause-ok
returns-clause-ok c =
    kept_manifest c.args.told.now c.args.identity.now c.in_ok-identity.identity c.args.release.now c.in_ok-release.release c.args.said c.push.new.self
    c.push.result c.in_ok-identity.ensures c.in_ok-release.ensures c.requires.fresh c.push.ensures.ok
