use Rattle.std.proofs.Common.{◌≡◌, ◌++◌, ap, ◌∙◌, subst, sym}
use Rattle.pub_facts.specs.Facts.{facts_in, load_of}
use Rattle.pub_facts.specs.Known.{lookups_of}
use Rattle.pub_facts.specs.Numbered.{AreNamed, new_names, written_nodes}
use Rattle.pub_facts.proofs.NamedLemmas.{facts_are_named, names_are}
use Rattle.pub_facts.proofs.numbering.named_by.Goals as goal

pub returns-clause-names : goal.returns-clause-names
returns-clause-names c =
    names_are c.args.known.now.nodes c.as_slice.result.now c.in_ok-names.names c.in_ok-written.written c.as_slice-2.result.now _ c.as_slice.ensures
    c.as_slice-2.ensures c.in_ok-written.ensures c.in_ok-names.ensures

pub returns-clause-known : goal.returns-clause-known
returns-clause-known c =
    let all = facts_in c.args.known.now.asked (lookups_of c.args.known.now) (load_of c.args.place.now.node c.args.place.now.choice) c.args.manifest.now in
    let is : c.in_ok-names.names ≡ new_names c.args.known.now.nodes (written_nodes all)
    = names_are c.args.known.now.nodes c.as_slice.result.now c.in_ok-names.names c.in_ok-written.written c.as_slice-2.result.now all c.as_slice.ensures
    c.as_slice-2.ensures c.in_ok-written.ensures c.in_ok-names.ensures in
    subst (λ names. AreNamed (c.args.known.now.nodes ++ names) all) (sym is) (facts_are_named c.args.known.now.nodes all)
