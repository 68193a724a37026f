use Rattle.std.proofs.Common.{rules, ap, subst, sym}
use Rattle.pub_plain.specs.Kept.{state_with}
use Rattle.pub_plain.specs.Loading.{brings, load_at, loading}
use Rattle.pub_plain.specs.Told.{answers_to, catalogue_of, job_of}
use Rattle.pub_plain.specs.Turning.{TurnsTo}
use Rattle.pub_trail.specs.Turn.{after_load}
use Rattle.pub_plain.proofs.TurningLemmas.{goes_on, named_place, same_turn, stopping, stops_turn}
use Rattle.pub_plain.proofs.turning.load.Goals as goal

pub returns-in-Some-clause-ok : goal.returns-in-Some-clause-ok
returns-in-Some-clause-ok c =
    let told = c.args.told.now in
    let came = loading (job_of told) (answers_to told) told.known.nodes (load_at told.known.nodes c.args.place) in
    subst (λ turned. TurnsTo turned (after_load (state_with told.known.nodes c.args.lists.now) c.args.place came) told c.args.lists.now told c.args.lists.now)
    (sym c.stopped.ensures)
    (stops_turn told c.args.lists.now c.args.place c.in-Some.stop came
    (stopping told c.args.place c.in_ok-node.node c.in_ok-stop.field-0 c.in-Some.stop
    (named_place told c.args.place c.in_ok-node.node c.index-as_slice-place.result c.requires.due.named (search rules) c.in_ok-node.ensures)
    c.in_ok-stop.ensures c.in-Some.is))

pub returns-clause-ok : goal.returns-clause-ok
returns-clause-ok c =
    let told = c.args.told.now in
    same_turn _ _ _ _ c.bring.result
    (after_load (state_with told.known.nodes c.args.lists.now) c.args.place
    (brings (job_of told) (catalogue_of told) told.known.nodes (load_at told.known.nodes c.args.place)))
    (after_load (state_with told.known.nodes c.args.lists.now) c.args.place
    (loading (job_of told) (answers_to told) told.known.nodes (load_at told.known.nodes c.args.place)))
    (ap (after_load (state_with told.known.nodes c.args.lists.now) c.args.place)
    (sym (goes_on told c.args.place c.in_ok-node.node c.in_ok-stop.field-0
    (named_place told c.args.place c.in_ok-node.node c.index-as_slice-place.result c.requires.due.named (search rules) c.in_ok-node.ensures)
    c.in_ok-stop.ensures c.in-None.is))) c.bring.ensures.ok
