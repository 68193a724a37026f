use Rattle.std.proofs.Common.{ap, ap₂, ◌∙◌}
use Rattle.pub_plain.specs.Kept.{Kept}
use Rattle.pub_term.specs.Known.{holds}
use Rattle.pub_trail.specs.Turn.{newest_from}
use Rattle.pub_trail.specs.Walk.{terms_of}
use Rattle.pub_trail.proofs.KnownLemmas.{newest-left}
use Rattle.pub_plain.proofs.TurningLemmas.{all_can_hold}
use Rattle.pub_plain.proofs.turning.newest_conflict.Goals as goal

pub newest_of-requires : goal.newest_of-requires
newest_of-requires c =
    all_can_hold c.args.told.now c.args.lists.now c.args.left.now.now.items c.deref.result.now c.deref-2.result.now c.requires.turning c.requires.left
    c.deref.ensures.value (c.deref-2.ensures.value ∙ ap (λ (k : Kept). k.incompats) c.lists.view_is)

pub returns : goal.returns
returns c =
    c.newest_of.ensures
    ∙ ap₂ (λ known is. newest_from (holds known) 0 (terms_of is)) c.deref.ensures.value
    (c.deref-2.ensures.value ∙ ap (λ (k : Kept). k.incompats) c.lists.view_is)
    ∙ newest-left c.args.lists.now.sizes _ c.args.left.now.now.items 0 (terms_of c.args.lists.now.incompats) c.requires.left c.requires.turning.solver.is.formed
