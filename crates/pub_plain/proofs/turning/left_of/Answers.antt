use Rattle.std.proofs.Common.{All, ap, subst, sym, ◌∙◌}
use Rattle.pub_plain.specs.Kept.{Kept}
use Rattle.pub_trail.specs.KnownOf.{IsEntry}
use Rattle.pub_plain.proofs.NextKept.{trail_entries}
use Rattle.pub_plain.proofs.turning.left_of.Goals as goal

pub of-requires : goal.of-requires
of-requires c =
    subst (λ sizes. All (IsEntry sizes) c.deref-2.result.now) (sym (c.deref.ensures.value ∙ ap (λ (k : Kept). k.sizes) c.lists.view_is))
    (subst (All (IsEntry c.args.lists.now.sizes)) (sym (c.deref-2.ensures.value ∙ ap (λ (k : Kept). k.trail) c.lists.view_is))
    (trail_entries c.args.told.now c.args.lists.now c.requires))
