use Rattle.std.proofs.Common.{◌≡◌, ◌∙◌, IfOk, ap, subst, sym}
use Rattle.std.specs.Option.{option_copied}
use Rattle.pub_facts.specs.Facts.{load_of}
use Rattle.pub_facts.specs.Numbered.{new_names, written_nodes}
use Rattle.pub_plain.proofs.LoadingLemmas.{names_nothing, usable_facts}
use Rattle.pub_plain.proofs.loading.new_names.Goals as goal

pub returns-in-Some : goal.returns-in-Some
returns-in-Some c =
    let load = load_of c.args.load.now.node c.args.load.now.choice in
    subst (λ names. IfOk c.named_by.result (λ found. found ≡ names))
    (sym (ap (λ facts. new_names c.args.told.now.known.nodes (written_nodes facts))
    (usable_facts c.args.told.now load c.in-Some.manifest.now c.requires.there (sym c.usable.ensures ∙ ap option_copied c.in-Some.is))))
    c.named_by.ensures.names

pub returns-in-None : goal.returns-in-None
returns-in-None c =
    c.new.ensures
    ∙ sym (names_nothing c.args.told.now c.args.load.now.node c.args.load.now.choice c.requires.there (sym c.usable.ensures ∙ ap option_copied c.in-None.is)
    c.requires.named)
