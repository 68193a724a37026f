use Rattle.std.proofs.Common.{◌∙◌, ap}
use Rattle.pub_facts.specs.Catalogue.{contents_at}
use Rattle.pub_facts.specs.Facts.{load_of}
use Rattle.pub_plain.specs.Loading.{read_contents}
use Rattle.pub_plain.specs.Told.{answers_to, catalogue_of, job_of, load_version, stopped}
use Rattle.pub_plain.proofs.ToldLemmas.{stopped_any}
use Rattle.pub_plain.proofs.reading.stop_of.Goals as goal

pub returns-in-Some : goal.returns-in-Some
returns-in-Some c = λ more.
    let load = load_of c.args.load.now.node c.args.load.now.choice in
    let told = c.args.told.now in
    let rest = read_contents (answers_to told) load.under (contents_at (job_of told) (catalogue_of told) load.owner (load_version told load)) more in
    c.in_ok-stop.ensures rest ∙ ap (λ s. stopped s rest) c.in-Some.is ∙ stopped_any c.in-Some.stop rest more
