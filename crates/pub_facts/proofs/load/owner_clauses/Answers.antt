use Rattle.pub_facts.specs.Facts.{load_of}
use Rattle.pub_facts.specs.Known.{lookups_of}
use Rattle.pub_facts.proofs.LoadLemmas.{owner_put}
use Rattle.pub_facts.proofs.load.owner_clauses.Goals as goal

pub returns : goal.returns
returns c =
    owner_put c.args.known.now.asked (lookups_of c.args.known.now) (load_of c.args.place.now.node c.args.place.now.choice) c.args.manifest.now
    c.needs.result.now c.in_ok-clauses.clauses c.push_needs.new.clauses c.requires.owner c.needs.ensures c.in_ok-clauses.ensures c.in_ok-push_needs.ensures
