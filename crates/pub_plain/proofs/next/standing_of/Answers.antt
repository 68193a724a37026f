use Rattle.std.proofs.Common.{◌≡◌, ◌∙◌, All, ap, length, subst, sym}
use Rattle.pub_plain.specs.Kept.{Kept}
use Rattle.pub_term.specs.declared.term.Incompat.{Incompat}
use Rattle.pub_trail.specs.Required.{AreAmong}
use Rattle.pub_plain.proofs.NextKept.{IsBelow, incompats_among, open_by, trail_below}
use Rattle.pub_plain.proofs.next.standing_of.Goals as goal

pub decisions-requires : goal.decisions-requires
decisions-requires c =
    subst (λ names. All (IsBelow (length names)) c.deref.result.now) (sym c.as_slice-count.ensures)
    (subst (All (IsBelow (length c.args.told.now.known.nodes))) (sym (c.deref.ensures.value ∙ ap (λ (k : Kept). k.trail) c.lists.view_is))
    (trail_below c.args.told.now c.args.lists.now c.requires))

pub open_nodes-requires-clause-among : goal.open_nodes-requires-clause-among
open_nodes-requires-clause-among c =
    let count : length c.deref-4.result.now ≡ length c.args.told.now.known.nodes
    = ap length c.deref-4.ensures.value ∙ c.in_ok-decided.ensures.nodes ∙ ap length c.as_slice-count.ensures in
    subst (All (λ (incompat : Incompat). AreAmong (length c.deref-4.result.now) incompat.terms))
    (sym (c.deref-2.ensures.value ∙ ap (λ (k : Kept). k.incompats) c.lists.view_is))
    (subst (λ n. All (λ (incompat : Incompat). AreAmong n incompat.terms) c.args.lists.now.incompats) (sym count)
    (incompats_among c.args.told.now c.args.lists.now c.requires))

pub returns-clause-opens : goal.returns-clause-opens
returns-clause-opens c =
    open_by (length c.as_slice-count.result.now) c.args.told.now.known.nodes c.deref.result.now c.args.lists.now.trail c.in_ok-decided.decided.items
    c.deref-4.result.now c.deref-2.result.now c.args.lists.now.incompats c.deref-3.result.now c.args.lists.now.origins c.in_ok-opens.opens.items
    (c.deref.ensures.value ∙ ap (λ (k : Kept). k.trail) c.lists.view_is) c.deref-4.ensures.value
    (c.deref-2.ensures.value ∙ ap (λ (k : Kept). k.incompats) c.lists.view_is)
    (c.deref-3.ensures.value ∙ ap (λ (k : Kept). k.origins) c.lists.view_is) (ap length c.as_slice-count.ensures) c.in_ok-decided.ensures
    c.in_ok-opens.ensures
