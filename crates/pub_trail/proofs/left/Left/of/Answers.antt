use Rattle.std.proofs.Common.{◌∙◌, ◌+◌, ap, arith, length, refl, reverse, set, subst, sym, take}
use Rattle.std.proofs.lemmas.List.{get_or_read, length_push}
use Rattle.pub_set.specs.Choices.{intersection, no_choices}
use Rattle.pub_trail.specs.KnownOf.{AreBefore, AreLeft, IsEntry}
use Rattle.pub_trail.proofs.BeforeLemmas.{AreBefore-more}
use Rattle.pub_trail.proofs.KnownLemmas.{AreLeft-narrowed, reverse-take_more}
use Rattle.pub_trail.proofs.left.Left.of.Goals as goal

pub loop-entry-preserved : goal.loop-entry-preserved
loop-entry-preserved c =
    let sizes = c.args.sizes.now in
    let trail = c.args.trail.now in
    let i = c.loop-entry.entry-index in
    let entry = c.entry-item.result in
    let now = c.loop-entry.now.items in
    let was = c.in_ok-was.was' in
    let narrow = c.in_ok-narrow.narrow in
    let is : IsEntry sizes entry = subst (IsEntry sizes) (sym c.entry-item.is) (c.requires i entry (omega arith)) in
    let left = c.loop-entry.invariant.now in
    record {
      now =
          subst (λ t. AreLeft sizes t (set now entry.node narrow)) (sym (reverse-take_more trail i entry (omega arith) c.entry-item.is))
          (AreLeft-narrowed sizes (reverse (take i trail)) now (set now entry.node narrow) entry c.index.result.now narrow left is
          c.index.ensures (c.in_ok-narrow.ensures ∙ ap (λ s. intersection s entry.choices) c.in_ok-was.ensures) refl);
      long = ap (λ xs. length xs) c.in_ok-push.ensures.items ∙ omega (arith, length_push c.loop-entry.before.items was, c.loop-entry.invariant.long);
      before =
          subst (AreBefore sizes (take (i + 1) trail)) (sym c.in_ok-push.ensures.items)
          (AreBefore-more sizes trail i entry c.loop-entry.before.items was (omega arith) c.entry-item.is c.loop-entry.invariant.long c.loop-entry.invariant.before
          (c.in_ok-was.ensures ∙ get_or_read now entry.node c.index.result.now (omega (arith, left.nodes, is.0)) c.index.ensures (no_choices 0)
          ∙ left.sets entry.node is.0));
    }
