use Rattle.std.proofs.Common.{◌≡◌, ◌∙◌, ◌-◌, ◌∷◌, ap, arith, false, length, reverse, set, subst, sym, take}
use Rattle.std.proofs.lemmas.List.{take_all}
use Rattle.pub_term.specs.Known.{AreKnown}
use Rattle.pub_trail.specs.KnownOf.{AreLeft, IsEntry}
use Rattle.pub_trail.specs.Trail.{holds, previous_level}
use Rattle.pub_trail.proofs.BeforeLemmas.{holds_by, previous_left}
use Rattle.pub_trail.proofs.KnownLemmas.{AreKnown-left, AreLeft-more}
use Rattle.pub_trail.proofs.WalkLemmas.{previous_found, previous_step}
use Rattle.pub_trail.proofs.walk.previous_level.Goals as goal

pub loop-place-init : goal.loop-place-init
loop-place-init c =
    let sizes = c.args.sizes.now in
    let trail = c.args.trail.now in
    let satisfier = c.args.satisfier.now in
    let whole : trail ≡ take (length trail) trail = sym (take_all (length trail) trail (omega arith)) in
    record {
      place = omega arith;
      with_it =
          subst (λ t. AreLeft sizes (satisfier ∷ reverse t) c.in_ok-with_it.with_it.items) whole
          (subst (AreLeft sizes (satisfier ∷ reverse trail)) (sym c.in_ok-with_it.ensures)
          (AreLeft-more sizes (reverse trail) c.deref.result.now satisfier
          (subst (AreLeft sizes (reverse trail)) (sym c.deref.ensures.value) c.requires.left) c.requires.satisfier));
      left = ap (λ t. previous_level sizes satisfier (reverse t) c.args.incompat.now.terms) (sym whole);
    }

pub holds-requires : goal.holds-requires
holds-requires c =
    let sizes = c.args.sizes.now in
    let trail = c.args.trail.now in
    let place = c.loop-place.place in
    let entry = c.index-trail-place.result in
    let is : IsEntry sizes entry = subst (IsEntry sizes) (sym c.index-trail-place.is) (c.requires.entries (place - 1) entry (omega arith)) in
    let left = previous_left sizes trail c.args.left.now.before.items c.loop-place.with_it.items place c.args.satisfier.now entry c.index.result.now
    c.in_ok-choices.choices (omega arith) c.loop-place.invariant.place c.loop-place.invariant.with_it c.requires.before is c.index-trail-place.is c.index.ensures
    c.in_ok-choices.ensures in
    subst (λ known. AreKnown known c.args.incompat.now.terms) (sym c.deref-in-loop-place.ensures.value)
    (AreKnown-left sizes (c.args.satisfier.now ∷ reverse (take (place - 1) trail)) (set c.loop-place.with_it.items entry.node c.in_ok-choices.choices)
    c.args.incompat.now.terms left c.requires.formed.sized)

pub returns-then-not-holds : goal.returns-then-not-holds
returns-then-not-holds c =
    let sizes = c.args.sizes.now in
    let trail = c.args.trail.now in
    let place = c.loop-place.place in
    let entry = c.index-trail-place.result in
    let terms = c.args.incompat.now.terms in
    let satisfier = c.args.satisfier.now in
    let is : IsEntry sizes entry = subst (IsEntry sizes) (sym c.index-trail-place.is) (c.requires.entries (place - 1) entry (omega arith)) in
    let left = previous_left sizes trail c.args.left.now.before.items c.loop-place.with_it.items place satisfier entry c.index.result.now
    c.in_ok-choices.choices (omega arith) c.loop-place.invariant.place c.loop-place.invariant.with_it c.requires.before is c.index-trail-place.is c.index.ensures
    c.in_ok-choices.ensures in
    let known = subst (AreLeft sizes (satisfier ∷ reverse (take (place - 1) trail))) (sym c.deref-in-loop-place.ensures.value) left in
    let fails : holds sizes (satisfier ∷ reverse (take (place - 1) trail)) terms ≡ false
    = holds_by sizes (satisfier ∷ reverse (take (place - 1) trail)) c.deref-in-loop-place.result.now terms c.holds.result known c.requires.formed.sized c.holds.ensures
    ∙ c.if-not-holds.true in
    previous_found sizes satisfier trail place terms (previous_level sizes satisfier (reverse trail) terms) entry (omega arith) c.loop-place.invariant.place
    c.index-trail-place.is fails c.loop-place.invariant.left

pub loop-place-preserved : goal.loop-place-preserved
loop-place-preserved c =
    let sizes = c.args.sizes.now in
    let trail = c.args.trail.now in
    let place = c.loop-place.place in
    let entry = c.index-trail-place.result in
    let terms = c.args.incompat.now.terms in
    let satisfier = c.args.satisfier.now in
    let is : IsEntry sizes entry = subst (IsEntry sizes) (sym c.index-trail-place.is) (c.requires.entries (place - 1) entry (omega arith)) in
    let left = previous_left sizes trail c.args.left.now.before.items c.loop-place.with_it.items place satisfier entry c.index.result.now
    c.in_ok-choices.choices (omega arith) c.loop-place.invariant.place c.loop-place.invariant.with_it c.requires.before is c.index-trail-place.is c.index.ensures
    c.in_ok-choices.ensures in
    let known = subst (AreLeft sizes (satisfier ∷ reverse (take (place - 1) trail))) (sym c.deref-in-loop-place.ensures.value) left in
    record {
      place = omega arith;
      with_it = left;
      left = previous_step sizes satisfier trail place terms (previous_level sizes satisfier (reverse trail) terms) (omega arith) c.loop-place.invariant.place
          (holds_by sizes (satisfier ∷ reverse (take (place - 1) trail)) c.deref-in-loop-place.result.now terms c.holds.result known c.requires.formed.sized
          c.holds.ensures ∙ c.if-not-holds.false) c.loop-place.invariant.left;
    }
