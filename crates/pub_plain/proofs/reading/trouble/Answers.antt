use Rattle.std.proofs.Common.{◌∙◌, ap, ap₂, sym}
use Rattle.pub_facts.specs.Facts.{load_of, subject_of, trouble, under_names}
use Rattle.pub_plain.specs.Answers.{found_in}
use Rattle.pub_plain.specs.Told.{answers_to, load_version}
use Rattle.pub_plain.proofs.ToldLemmas.{found_is, lookups_told}
use Rattle.pub_plain.proofs.reading.trouble.Goals as goal

pub returns : goal.returns
returns c =
    let load = load_of c.args.load.now.node c.args.load.now.choice in
    let told = c.args.told.now in
    c.in_ok-cause.ensures
    ∙ ap₂ trouble (c.in_ok-subject.ensures ∙ ap (λ l. subject_of l load (under_names load.under)) (sym (lookups_told told)))
    (ap found_in c.said_of_owner.ensures ∙ found_is (answers_to told) load.owner (load_version told load))
