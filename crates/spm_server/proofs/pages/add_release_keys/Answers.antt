use Rattle.spm_key.specs.Key.{IsKey}
use Rattle.spm_server.proofs.PagesLemmas.{pushed}
use Rattle.spm_server.proofs.pages.add_release_keys.Goals as goal

pub returns-clause-are : goal.returns-clause-are
returns-clause-are c = λ all.
    let first = pushed IsKey c.args.keys.now.items c.push.new.self.items c.in_ok-manifest_key.field-0 c.in_ok-push.ensures.items c.in_ok-manifest_key.ensures.is all in
    let second = pushed IsKey c.push.new.self.items c.push-2.new.self.items c.in_ok-release_key.field-0 c.in_ok-push-2.ensures.items c.in_ok-release_key.ensures.is first in
    pushed IsKey c.push-2.new.self.items c.push-3.new.self.items c.in_ok-archive_key.field-0 c.in_ok-push-3.ensures.items c.in_ok-archive_key.ensures.is second
