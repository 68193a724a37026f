use Rattle.std.proofs.Common.{IfOk, ap, ap₂, option_map, reverse, subst, ◌∙◌, ◌≡◌}
use Rattle.pub_plain.specs.Kept.{Kept}
use Rattle.pub_trail.specs.Forced.{kept_forced}
use Rattle.pub_trail.specs.Turn.{forced_entry}
use Rattle.pub_trail.specs.Walk.{terms_of}
use Rattle.pub_trail.proofs.ForcedLemmas.{forced_same}
use Rattle.pub_plain.proofs.TurningLemmas.{all_can_hold}
use Rattle.pub_plain.proofs.turning.newest_forced.Goals as goal

pub forced-requires : goal.forced-requires
forced-requires c =
    all_can_hold c.args.told.now c.args.lists.now c.args.left.now.now.items c.deref.result.now c.deref-2.result.now c.requires.turning c.requires.left
    c.deref.ensures.value (c.deref-2.ensures.value ∙ ap (λ (k : Kept). k.incompats) c.lists.view_is)

pub returns : goal.returns
returns c =
    let kept = c.args.lists.now in
    subst (λ found. IfOk c.forced.result (λ entry. entry ≡ found))
    (ap₂ (λ level forced. option_map (forced_entry level) forced) c.level-level.ensures
    (ap₂ (λ known is. kept_forced known 0 (terms_of is)) c.deref.ensures.value (c.deref-2.ensures.value ∙ ap (λ (k : Kept). k.incompats) c.lists.view_is)
    ∙ forced_same kept.sizes (reverse kept.trail) c.args.left.now.now.items 0 (terms_of kept.incompats) c.requires.left c.requires.turning.solver.is.formed))
    c.forced.ensures
