use Rattle.std.proofs.Common.{◌∙◌, ap, subst, sym}
use Rattle.pub_facts.specs.Known.{lookups_of}
use Rattle.pub_facts.specs.Numbered.{AreNamed, sizes_of}
use Rattle.pub_plain.specs.Loading.{facts_at, load_at}
use Rattle.pub_plain.specs.Told.{catalogue_of, job_of}
use Rattle.pub_plain.proofs.GivingLemmas.{on_ok}
use Rattle.pub_plain.proofs.TurningLemmas.{grown_facts, grown_named, load_is, loaded_is}
use Rattle.pub_plain.proofs.turning.grow.Goals as goal

pub facts_by-requires-clause-named : goal.facts_by-requires-clause-named
facts_by-requires-clause-named c =
    let told = c.args.told.now in
    subst (λ load. AreNamed c.push_names.new.nodes (facts_at (job_of told) (catalogue_of told) load))
    (sym (load_is told c.args.place c.args.load.now.node c.args.load.now.choice c.requires.load.0 c.requires.load.1))
    (grown_named told c.push_names.new.nodes c.args.names (load_at told.known.nodes c.args.place) c.in_ok-push_names.ensures.ok c.requires.names)

pub returns-clause-lists : goal.returns-clause-lists
returns-clause-lists c =
    let told = c.args.told.now in
    on_ok c.put_load.result (λ put. put
    ∙ loaded_is c.args.lists.now c.args.place c.in_ok-sizes.sizes.items _ c.in_ok-facts.facts _
    (c.in_ok-sizes.ensures ∙ ap (sizes_of (lookups_of told.known)) c.as_slice.ensures)
    (c.in_ok-facts.ensures
    ∙ grown_facts told c.push_names.new.nodes c.args.names c.args.place c.args.load.now.node c.args.load.now.choice c.in_ok-push_names.ensures.ok
    c.requires.load.0 c.requires.load.1)) c.put_load.ensures.ok
