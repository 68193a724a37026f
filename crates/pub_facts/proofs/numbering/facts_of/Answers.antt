use Rattle.std.proofs.Common.{◌≡◌, ap, ◌∙◌}
use Rattle.pub_facts.specs.Facts.{facts_in, load_of}
use Rattle.pub_facts.specs.Known.{lookups_of}
use Rattle.pub_facts.specs.Numbered.{number_in, numbered, sizes_of}
use Rattle.pub_facts.proofs.LoopLemmas.{formed_at}
use Rattle.pub_facts.proofs.UnusableLemmas.{facts_formed, load_sized}
use Rattle.pub_facts.proofs.numbering.facts_of.Goals as goal

pub numbered-requires-clause-sized : goal.numbered-requires-clause-sized
numbered-requires-clause-sized c =
    load_sized c.args.known.now.asked (lookups_of c.args.known.now) (load_of c.args.place.now.node c.args.place.now.choice) c.args.manifest.now
    c.args.known.now.nodes c.in_ok-written.written c.in_ok-written.ensures c.requires.named

pub returns-clause-facts : goal.returns-clause-facts
returns-clause-facts c = c.in_ok-facts.ensures ∙ ap (numbered (number_in c.args.known.now.nodes)) c.in_ok-written.ensures

pub returns-clause-formed : goal.returns-clause-formed
returns-clause-formed c =
    let load = load_of c.args.place.now.node c.args.place.now.choice in
    formed_at (sizes_of (lookups_of c.args.known.now) c.args.known.now.nodes) c.in_ok-facts.facts
    (numbered (number_in c.args.known.now.nodes) (facts_in c.args.known.now.asked (lookups_of c.args.known.now) load c.args.manifest.now))
    (c.in_ok-facts.ensures ∙ ap (numbered (number_in c.args.known.now.nodes)) c.in_ok-written.ensures)
    (facts_formed c.args.known.now.asked (lookups_of c.args.known.now) load c.args.manifest.now c.args.known.now.nodes c.requires.named)
