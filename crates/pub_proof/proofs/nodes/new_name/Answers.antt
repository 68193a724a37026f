use Rattle.std.proofs.Common.{◌∙◌, Some, ap, if◌then◌else◌, sym}
use Rattle.pub_term.specs.NodeLaws.{node_ties}
use Rattle.pub_proof.specs.Places.{place_in, with_place}
use Rattle.pub_proof.proofs.nodes.new_name.Goals as goal

pub returns-in-None-clause-met : goal.returns-in-None-clause-met
returns-in-None-clause-met c other =
    c.in_ok-insert.ensures.updates.0 other
    ∙ ap (λ same. if same then Some c.args.place else place_in c.args.places.now other) (sym (node_ties c.in_ok-copy.field-0 other))
    ∙ ap (λ name. with_place c.args.places.now name c.args.place other) c.in_ok-copy.ensures
