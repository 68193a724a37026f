use Rattle.std.proofs.Common.{◌≡◌, ◌∙◌, IfOk, ap, subst, sym}
use Rattle.std.specs.Option.{option_copied}
use Rattle.pub_facts.specs.Facts.{load_of}
use Rattle.pub_facts.specs.Numbered.{AreNamed, number_in, numbered}
use Rattle.pub_plain.proofs.LoadingLemmas.{usable_facts}
use Rattle.pub_plain.proofs.loading.facts_by.Goals as goal

pub facts_of-requires-clause-named : goal.facts_of-requires-clause-named
facts_of-requires-clause-named c =
    let load = load_of c.args.load.now.node c.args.load.now.choice in
    subst (AreNamed c.args.told.now.known.nodes)
    (usable_facts c.args.told.now load c.in-Some.manifest.now c.requires.there (sym c.usable.ensures ∙ ap option_copied c.in-Some.is))
    c.requires.named

pub returns-in-Some : goal.returns-in-Some
returns-in-Some c =
    let load = load_of c.args.load.now.node c.args.load.now.choice in
    subst (λ facts. IfOk c.facts_of.result (λ found. found ≡ facts))
    (sym (ap (numbered (number_in c.args.told.now.known.nodes))
    (usable_facts c.args.told.now load c.in-Some.manifest.now c.requires.there (sym c.usable.ensures ∙ ap option_copied c.in-Some.is))))
    c.facts_of.ensures.facts
