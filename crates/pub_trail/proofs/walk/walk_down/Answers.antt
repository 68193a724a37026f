use Rattle.std.proofs.Common.{◌≡◌, ◌∙◌, ◌++◌, ◌∷◌, ◌-◌, [], ap, arith, false, length, reverse, set, slice_index_or, subst, sym, take}
use Rattle.std.proofs.lemmas.List.{get_or-take, length-take-le, take_all}
use Rattle.pub_term.specs.Known.{AreKnown}
use Rattle.pub_term.specs.Resolvent.{CanResolve, resolvent}
use Rattle.pub_term.specs.Term.{IsIncompat}
use Rattle.pub_trail.specs.KnownOf.{AreLeft, IsEntry}
use Rattle.pub_trail.specs.Outcome.{IsAsked}
use Rattle.pub_trail.specs.Trail.{holds}
use Rattle.pub_trail.specs.Turn.{Learns, conflict, is_refutation}
use Rattle.pub_trail.specs.Walk.{terms_of}
use Rattle.pub_trail.proofs.BeforeLemmas.{AreBefore-take, holds_by, walk_left}
use Rattle.pub_trail.proofs.KnownLemmas.{AreKnown-left}
use Rattle.pub_trail.proofs.WalkLemmas.{IsWalk, IsWalk-earlier, IsWalk-resolved, is_decision, never_empty, terms_at, walk_decided, walk_ends, walk_lower, walk_resolved}
use Rattle.pub_trail.proofs.walk.walk_down.Goals as goal
use Rattle.pub_trail.proofs.walk.walk_down.Goals.{then-loop-place-test+else-not-is_refutation, else-loop-place-test, in_default-via-in-Derived+else-satisfier-level, in_default-via-in_default}

pub loop-place-init : goal.loop-place-init
loop-place-init c =
    let sizes = c.args.sizes.now in
    let trail = c.args.trail.now in
    let incompats = terms_of c.args.incompats.now in
    let whole : trail ≡ take (length trail) trail = sym (take_all (length trail) trail (omega arith)) in
    record {
      now = subst (λ t. AreLeft sizes (reverse t) c.args.left.now.items) whole c.requires.left;
      before = c.requires.before;
      walk = record {
        within = omega arith;
        asked = subst (IsAsked sizes incompats (reverse (take (length trail) trail))) (sym (ap (λ i. i.terms) c.in_ok-incompat.ensures))
            (subst (λ t. IsAsked sizes incompats (reverse t) c.args.first.now.terms) whole c.requires.asked);
        left = ap (λ ss. conflict sizes incompats (reverse (take (length trail) trail)) c.in_ok-incompat.incompat.terms ss) c.new-steps.ensures
            ∙ ap (λ i. conflict sizes incompats (reverse (take (length trail) trail)) i.terms []) c.in_ok-incompat.ensures
            ∙ ap (λ t. conflict sizes incompats (reverse t) c.args.first.now.terms []) (sym whole);
      };
    }

pub holds-requires : goal.holds-requires
holds-requires c =
    let sizes = c.args.sizes.now in
    let trail = c.args.trail.now in
    let place = c.loop-place.place in
    let entry = c.index-trail-place.result in
    let is : IsEntry sizes entry = subst (IsEntry sizes) (sym c.index-trail-place.is) (c.requires.entries (place - 1) entry (omega arith)) in
    let left = walk_left sizes trail c.loop-place.left.before.items c.loop-place.left.now.items place entry c.index.result.now c.in_ok-choices.choices (omega arith)
    c.loop-place.invariant.walk.within c.loop-place.invariant.now c.loop-place.invariant.before is c.index-trail-place.is c.index.ensures c.in_ok-choices.ensures in
    subst (λ known. AreKnown known c.loop-place.incompat.terms) (sym c.deref.ensures.value)
    (AreKnown-left sizes (reverse (take (place - 1) trail)) (set c.loop-place.left.now.items entry.node c.in_ok-choices.choices) c.loop-place.incompat.terms left
    c.loop-place.invariant.walk.asked.formed.sized)

pub loop-place-preserved-then-holds : goal.loop-place-preserved-then-holds
loop-place-preserved-then-holds c =
    let sizes = c.args.sizes.now in
    let trail = c.args.trail.now in
    let place = c.loop-place.place in
    let entry = c.index-trail-place.result in
    let terms = c.loop-place.incompat.terms in
    let walk = c.loop-place.invariant.walk in
    let is : IsEntry sizes entry = subst (IsEntry sizes) (sym c.index-trail-place.is) (c.requires.entries (place - 1) entry (omega arith)) in
    let left = walk_left sizes trail c.loop-place.left.before.items c.loop-place.left.now.items place entry c.index.result.now c.in_ok-choices.choices (omega arith)
    walk.within c.loop-place.invariant.now c.loop-place.invariant.before is c.index-trail-place.is c.index.ensures c.in_ok-choices.ensures in
    let known = subst (AreLeft sizes (reverse (take (place - 1) trail))) (sym c.deref.ensures.value) left in
    record {
      now = left;
      before = c.loop-place.invariant.before;
      walk = IsWalk-earlier sizes (terms_of c.args.incompats.now) trail place terms c.loop-place.steps
          (conflict sizes (terms_of c.args.incompats.now) (reverse trail) c.args.first.now.terms []) walk (omega arith)
          (sym c.is_refutation.ensures ∙ c.if-not-is_refutation.true)
          (holds_by sizes (reverse (take (place - 1) trail)) c.deref.result.now terms c.holds.result known walk.asked.formed.sized c.holds.ensures ∙ c.if-holds.true);
    }

pub previous_level-requires-clause-entries : goal.previous_level-requires-clause-entries
previous_level-requires-clause-entries c = λ k d inside.
    let trail = c.args.trail.now in
    let place = c.loop-place.place in
    let short = length-take-le (place - 1) trail (omega (arith, c.loop-place.invariant.walk.within)) in
    subst (IsEntry c.args.sizes.now) (sym (get_or-take (place - 1) trail k d (omega (arith, short, inside))))
    (c.requires.entries k d (omega (arith, short, inside, c.loop-place.invariant.walk.within)))

pub previous_level-requires-clause-left : goal.previous_level-requires-clause-left
previous_level-requires-clause-left c =
    let sizes = c.args.sizes.now in
    let trail = c.args.trail.now in
    let place = c.loop-place.place in
    let entry = c.index-trail-place.result in
    let is : IsEntry sizes entry = subst (IsEntry sizes) (sym c.index-trail-place.is) (c.requires.entries (place - 1) entry (omega arith)) in
    walk_left sizes trail c.loop-place.left.before.items c.loop-place.left.now.items place entry c.index.result.now c.in_ok-choices.choices (omega arith)
    c.loop-place.invariant.walk.within c.loop-place.invariant.now c.loop-place.invariant.before is c.index-trail-place.is c.index.ensures c.in_ok-choices.ensures

pub previous_level-requires-clause-before : goal.previous_level-requires-clause-before
previous_level-requires-clause-before c =
    AreBefore-take c.args.sizes.now c.args.trail.now c.loop-place.left.before.items (c.loop-place.place - 1) (omega (arith, c.loop-place.invariant.walk.within))
    c.loop-place.invariant.before

pub resolve-requires-clause-second : goal.resolve-requires-clause-second
resolve-requires-clause-second c =
    let sizes = c.args.sizes.now in
    let trail = c.args.trail.now in
    let place = c.loop-place.place in
    let entry = c.index-trail-place.result in
    let terms = c.loop-place.incompat.terms in
    let walk = c.loop-place.invariant.walk in
    let is : IsEntry sizes entry = subst (IsEntry sizes) (sym c.index-trail-place.is) (c.requires.entries (place - 1) entry (omega arith)) in
    let left = walk_left sizes trail c.loop-place.left.before.items c.loop-place.left.now.items place entry c.index.result.now c.in_ok-choices.choices (omega arith)
    walk.within c.loop-place.invariant.now c.loop-place.invariant.before is c.index-trail-place.is c.index.ensures c.in_ok-choices.ensures in
    let known = subst (AreLeft sizes (reverse (take (place - 1) trail))) (sym c.deref.ensures.value) left in
    let step = walk_resolved sizes (terms_of c.args.incompats.now) trail place terms c.loop-place.steps
    (conflict sizes (terms_of c.args.incompats.now) (reverse trail) c.args.first.now.terms []) entry c.in-Derived.number walk (omega arith)
    (sym c.is_refutation.ensures ∙ c.if-not-is_refutation.true)
    (holds_by sizes (reverse (take (place - 1) trail)) c.deref.result.now terms c.holds.result known walk.asked.formed.sized c.holds.ensures ∙ c.if-holds.false)
    c.index-trail-place.is c.in-Derived.is in
    subst IsIncompat (terms_at c.args.incompats.now c.in-Derived.number c.index-incompats-number.result step.0 c.index-incompats-number.is) step.1.formed.incompat

pub resolve-requires-clause-can : goal.resolve-requires-clause-can
resolve-requires-clause-can c =
    let sizes = c.args.sizes.now in
    let trail = c.args.trail.now in
    let place = c.loop-place.place in
    let entry = c.index-trail-place.result in
    let terms = c.loop-place.incompat.terms in
    let walk = c.loop-place.invariant.walk in
    let is : IsEntry sizes entry = subst (IsEntry sizes) (sym c.index-trail-place.is) (c.requires.entries (place - 1) entry (omega arith)) in
    let left = walk_left sizes trail c.loop-place.left.before.items c.loop-place.left.now.items place entry c.index.result.now c.in_ok-choices.choices (omega arith)
    walk.within c.loop-place.invariant.now c.loop-place.invariant.before is c.index-trail-place.is c.index.ensures c.in_ok-choices.ensures in
    let known = subst (AreLeft sizes (reverse (take (place - 1) trail))) (sym c.deref.ensures.value) left in
    let step = walk_resolved sizes (terms_of c.args.incompats.now) trail place terms c.loop-place.steps
    (conflict sizes (terms_of c.args.incompats.now) (reverse trail) c.args.first.now.terms []) entry c.in-Derived.number walk (omega arith)
    (sym c.is_refutation.ensures ∙ c.if-not-is_refutation.true)
    (holds_by sizes (reverse (take (place - 1) trail)) c.deref.result.now terms c.holds.result known walk.asked.formed.sized c.holds.ensures ∙ c.if-holds.false)
    c.index-trail-place.is c.in-Derived.is in
    subst (λ second. CanResolve terms second entry.node)
    (terms_at c.args.incompats.now c.in-Derived.number c.index-incompats-number.result step.0 c.index-incompats-number.is) step.1.can

pub loop-place-preserved : goal.loop-place-preserved
loop-place-preserved c =
    let sizes = c.args.sizes.now in
    let incompats = terms_of c.args.incompats.now in
    let trail = c.args.trail.now in
    let place = c.loop-place.place in
    let terms = c.loop-place.incompat.terms in
    let steps = c.loop-place.steps in
    let whole = conflict sizes incompats (reverse trail) c.args.first.now.terms [] in
    let satisfier = c.index-trail-place.result in
    let number = c.in-Derived.number in
    let walk = c.loop-place.invariant.walk in
    let is : IsEntry sizes satisfier = subst (IsEntry sizes) (sym c.index-trail-place.is) (c.requires.entries (place - 1) satisfier (omega arith)) in
    let left = walk_left sizes trail c.loop-place.left.before.items c.loop-place.left.now.items place satisfier c.index.result.now c.in_ok-choices.choices (omega arith)
    walk.within c.loop-place.invariant.now c.loop-place.invariant.before is c.index-trail-place.is c.index.ensures c.in_ok-choices.ensures in
    let known = subst (AreLeft sizes (reverse (take (place - 1) trail))) (sym c.deref.ensures.value) left in
    let other : is_refutation terms ≡ false = sym c.is_refutation.ensures ∙ c.if-not-is_refutation.true in
    let open_before : holds sizes (reverse (take (place - 1) trail)) terms ≡ false
    = holds_by sizes (reverse (take (place - 1) trail)) c.deref.result.now terms c.holds.result known walk.asked.formed.sized c.holds.ensures ∙ c.if-holds.false in
    let step = walk_resolved sizes incompats trail place terms steps whole satisfier number walk (omega arith) other open_before c.index-trail-place.is c.in-Derived.is in
    let next = IsWalk-resolved sizes incompats trail place terms steps whole satisfier number walk (omega arith) other open_before
    c.index-trail-place.is c.in-Derived.is (c.if-satisfier-level.true ∙ c.in_ok-level.ensures) in
    let second : slice_index_or incompats number [] ≡ c.index-incompats-number.result.terms
    = terms_at c.args.incompats.now number c.index-incompats-number.result step.0 c.index-incompats-number.is in
    let made : resolvent terms (slice_index_or incompats number []) satisfier.node ≡ c.in_ok-incompat-in-Derived.incompat.terms
    = ap (λ ts. resolvent terms ts satisfier.node) second ∙ sym c.in_ok-incompat-in-Derived.ensures.resolvent in
    let cited : c.push.new.self ≡ steps ++ record { number = number; node = satisfier.node } ∷ [] = c.in_ok-push-in-Derived.ensures.ok in
    record {
      now = left;
      before = c.loop-place.invariant.before;
      walk = subst (λ ts. IsWalk sizes incompats trail (place - 1) ts c.push.new.self whole) made
          (subst (λ ss. IsWalk sizes incompats trail (place - 1) (resolvent terms (slice_index_or incompats number []) satisfier.node) ss whole) (sym cited) next);
    }

pub returns-in_default : goal.returns-in_default
returns-in_default c =
    let sizes = c.args.sizes.now in
    let incompats = terms_of c.args.incompats.now in
    let trail = c.args.trail.now in
    let place = c.loop-place.place in
    let terms = c.loop-place.incompat.terms in
    let steps = c.loop-place.steps in
    let whole = conflict sizes incompats (reverse trail) c.args.first.now.terms [] in
    let satisfier = c.index-trail-place.result in
    let walk = c.loop-place.invariant.walk in
    let is : IsEntry sizes satisfier = subst (IsEntry sizes) (sym c.index-trail-place.is) (c.requires.entries (place - 1) satisfier (omega arith)) in
    let left = walk_left sizes trail c.loop-place.left.before.items c.loop-place.left.now.items place satisfier c.index.result.now c.in_ok-choices.choices (omega arith)
    walk.within c.loop-place.invariant.now c.loop-place.invariant.before is c.index-trail-place.is c.index.ensures c.in_ok-choices.ensures in
    let known = subst (AreLeft sizes (reverse (take (place - 1) trail))) (sym c.deref.ensures.value) left in
    let other : is_refutation terms ≡ false = sym c.is_refutation.ensures ∙ c.if-not-is_refutation.true in
    let open_before : holds sizes (reverse (take (place - 1) trail)) terms ≡ false
    = holds_by sizes (reverse (take (place - 1) trail)) c.deref.result.now terms c.holds.result known walk.asked.formed.sized c.holds.ensures ∙ c.if-holds.false in
    subst (λ level. Learns terms steps level ≡ whole) (sym c.in_ok-level.ensures)
    (elim c.in_default.branch [
      | in_default-via-in-Derived+else-satisfier-level w ↦
          walk_lower sizes incompats trail place terms steps whole satisfier walk (omega arith) other open_before c.index-trail-place.is
          (λ same. w.if-satisfier-level.false (same ∙ sym c.in_ok-level.ensures))
      | in_default-via-in_default w ↦
          walk_decided sizes incompats trail place terms steps whole satisfier walk (omega arith) other open_before c.index-trail-place.is
          (is_decision satisfier.reason w.in_default.not-Derived)
    ])

pub returns : goal.returns
returns c =
    let sizes = c.args.sizes.now in
    let incompats = terms_of c.args.incompats.now in
    let trail = c.args.trail.now in
    let terms = c.loop-place.incompat.terms in
    let steps = c.loop-place.steps in
    let whole = conflict sizes incompats (reverse trail) c.args.first.now.terms [] in
    elim c.loop-place-test.branch [
      | then-loop-place-test+else-not-is_refutation w ↦
          walk_ends sizes incompats trail c.loop-place.place terms steps whole c.loop-place.invariant.walk
          (sym w.is_refutation.ensures ∙ w.if-not-is_refutation.false)
      | else-loop-place-test w ↦
          absurd (never_empty sizes incompats trail c.loop-place.place terms steps whole c.loop-place.invariant.walk (omega arith))
    ]
