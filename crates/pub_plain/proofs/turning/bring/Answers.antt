use Rattle.std.proofs.Common.{◌∙◌, Some, None, ap, refl}
use Rattle.pub_plain.specs.Loading.{named_first}
use Rattle.pub_plain.specs.Told.{catalogue_of, job_of}
use Rattle.pub_plain.proofs.TurningLemmas.{brings_state, load_is, names_few, wide_is, wide_state}
use Rattle.pub_plain.proofs.turning.bring.Goals as goal

pub returns-in-Some-clause-ok : goal.returns-in-Some-clause-ok
returns-in-Some-clause-ok c =
    let told = c.args.told.now in (
      wide_state told c.args.lists.now c.args.place c.in_ok-names.names c.in-Some.wide
          (c.in_ok-names.ensures
          ∙ ap (named_first (job_of told) (catalogue_of told) told.known.nodes)
          (load_is told c.args.place c.args.load.now.node c.args.load.now.choice c.requires.load.0 c.requires.load.1))
          (wide_is told.known.nodes c.in_ok-names.names c.as_slice.result.now c.as_slice-2.result.now c.wide_in.result (Some c.in-Some.wide) c.as_slice.ensures
          c.as_slice-2.ensures c.wide_in.ensures c.in-Some.is),
      record { told_same = refl; kept_same = refl },
    )

pub grow-requires-clause-few : goal.grow-requires-clause-few
grow-requires-clause-few c =
    let told = c.args.told.now in
    names_few told.known.nodes c.in_ok-names.names c.requires.turning.solver.nodes
    (wide_is told.known.nodes c.in_ok-names.names c.as_slice.result.now c.as_slice-2.result.now c.wide_in.result None c.as_slice.ensures
    c.as_slice-2.ensures c.wide_in.ensures c.in_default.is)

pub grow-requires-clause-names : goal.grow-requires-clause-names
grow-requires-clause-names c =
    let told = c.args.told.now in
    c.in_ok-names.ensures
    ∙ ap (named_first (job_of told) (catalogue_of told) told.known.nodes)
    (load_is told c.args.place c.args.load.now.node c.args.load.now.choice c.requires.load.0 c.requires.load.1)

pub returns-in-Ok-clause-ok : goal.returns-in-Ok-clause-ok
returns-in-Ok-clause-ok c =
    let told = c.args.told.now in (
      brings_state told c.args.lists.now c.grow.new.lists c.args.place c.in_ok-names.names c.grow.new.told.known.nodes
          (c.in_ok-names.ensures
          ∙ ap (named_first (job_of told) (catalogue_of told) told.known.nodes)
          (load_is told c.args.place c.args.load.now.node c.args.load.now.choice c.requires.load.0 c.requires.load.1))
          (wide_is told.known.nodes c.in_ok-names.names c.as_slice.result.now c.as_slice-2.result.now c.wide_in.result None c.as_slice.ensures
          c.as_slice-2.ensures c.wide_in.ensures c.in_default.is) c.in-Ok.ensures.ok c.in-Ok.ensures.lists,
      c.in-Ok.ensures.told,
    )
