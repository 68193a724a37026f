use Rattle.std.proofs.Common.{◌≡◌, ◌∙◌, ◌-◌, ℕ, Some, None, ap, arith, option_map, subst, sym}
use Rattle.std.specs.Option.{option_copied}
use Rattle.pub_set.specs.Choices.{ChoiceSet}
use Rattle.pub_trail.specs.Forced.{kept_forced}
use Rattle.pub_trail.specs.KnownOf.{CanHold}
use Rattle.pub_trail.specs.Turn.{Forced, forced_entry}
use Rattle.pub_trail.specs.Walk.{terms_of}
use Rattle.pub_trail.specs.declared.trail.Assigned.{Assigned}
use Rattle.pub_trail.proofs.ForcedLemmas.{forced_found, forced_step, is_forced}
use Rattle.pub_trail.proofs.forcing.forced.Goals as goal

pub returns-in-Some-set_on : goal.returns-in-Some-set_on
returns-in-Some-set_on c =
    let left = c.args.left.now in
    let incompats = c.args.incompats.now in
    let place = c.loop-place.place in
    let here = c.index-incompats-place.result in
    let node = c.in-Some.node in
    let can : CanHold left here = subst (CanHold left) (sym c.index-incompats-place.is) (c.requires (place - 1) here (omega arith)) in
    let is = is_forced left here.terms node can.0.ascending (sym c.almost.ensures ∙ c.in-Some.is) in
    let read : Some c.in-Some-set_on.choices.now ≡ Some is.set = ap option_copied (sym c.in-Some-set_on.is) ∙ c.set_on.ensures ∙ is.at in
    let same : c.in-Some-set_on.choices.now ≡ is.set = cc in
    let found : kept_forced left 0 (terms_of incompats) ≡ Some (by (place - 1) node is.set)
    = forced_found left incompats place here node is.set (kept_forced left 0 (terms_of incompats)) (omega arith) (omega arith) c.index-incompats-place.is is.found
    c.loop-place.invariant.left in
    ap (λ (entry : Assigned). Some entry) (c.in_ok-derived.ensures ∙ ap (λ set. forced_entry c.args.level (by (place - 1) node set)) same)
    ∙ sym (ap (option_map (forced_entry c.args.level)) found)
  where
    by : ℕ → ℕ → ChoiceSet → Forced
    by number node set = record { number = number; term = record { node = node; choices = set } }

pub loop-place-preserved-in_default-set_on : goal.loop-place-preserved-in_default-set_on
loop-place-preserved-in_default-set_on c =
    let left = c.args.left.now in
    let place = c.loop-place.place in
    let here = c.index-incompats-place.result in
    let can : CanHold left here = subst (CanHold left) (sym c.index-incompats-place.is) (c.requires (place - 1) here (omega arith)) in
    let is = is_forced left here.terms c.in-Some.node can.0.ascending (sym c.almost.ensures ∙ c.in-Some.is) in
    let none : None ≡ Some is.set = ap option_copied (sym c.in_default-set_on.is) ∙ c.set_on.ensures ∙ is.at in
    cc

pub loop-place-preserved : goal.loop-place-preserved
loop-place-preserved c =
    let place = c.loop-place.place in
    record {
      within = omega arith;
      left = forced_step c.args.left.now c.args.incompats.now place c.index-incompats-place.result
          (kept_forced c.args.left.now 0 (terms_of c.args.incompats.now)) (omega arith) (omega arith) c.index-incompats-place.is
          (sym c.almost.ensures ∙ c.in_default.is) c.loop-place.invariant.left;
    }
