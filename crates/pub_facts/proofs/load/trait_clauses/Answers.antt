use Rattle.std.proofs.Common.{rules}
use Rattle.pub_facts.specs.Facts.{load_of}
use Rattle.pub_facts.specs.Known.{lookups_of}
use Rattle.pub_facts.proofs.LoadLemmas.{trait_put}
use Rattle.pub_facts.proofs.load.trait_clauses.Goals as goal

pub returns : goal.returns
returns c =
    trait_put c.args.known.now.asked (lookups_of c.args.known.now) (load_of c.args.place.now.node c.args.place.now.choice) c.args.manifest.now c.args.name.now
    c.needs.result.now c.in_ok-clauses.clauses c.push_needs.new.clauses c.requires.name c.requires.declared c.needs.ensures (search rules)
    c.in_ok-push_needs.ensures
