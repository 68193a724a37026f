use Rattle.std.proofs.Common.{◌≡◌, ◌∙◌, ◌-◌, ap, arith, get_or, subst, sym}
use Rattle.std.proofs.lemmas.List.{get_or_default}
use Rattle.pub_trail.specs.declared.walk.Cited.{Cited}
use Rattle.pub_plain.specs.Kept.{Kept}
use Rattle.pub_plain.specs.Writing.{AreSteps, put_of, written_steps}
use Rattle.pub_plain.proofs.RefutingLemmas.{steps_of_origin, writing_more, written_fact}
use Rattle.pub_plain.proofs.WritingLemmas.{same_cause}
use Rattle.pub_plain.proofs.refuting.+writing.Goals as goal

pub write-write_steps-requires : goal.write-write_steps-requires
write-write_steps-requires t c =
    let kept = c.args.lists.now in
    let origin = c.index.result.now in
    let is : origin ≡ get_or kept.origins c.args.number origin
    = c.index.ensures ∙ ap (λ (k : Kept). get_or k.origins c.args.number origin) c.lists.view_is in
    let are : AreSteps kept (c.args.depth - 1) c.in-OfConflict.first c.in-OfConflict.steps
    = steps_of_origin kept c.args.depth c.args.number c.in-OfConflict.first c.in-OfConflict.steps origin c.requires.writable c.requires.below
    c.requires.deep is c.in-OfConflict.is in
    (omega arith, (c.requires.writable, subst (AreSteps kept (c.args.depth - 1) c.in-OfConflict.first) (sym c.as_slice.ensures) are))

pub write-returns-in_ok-line-in-OfLoad : goal.write-returns-in_ok-line-in-OfLoad
write-returns-in_ok-line-in-OfLoad t c =
    let kept = c.args.lists.now in
    let origin = c.index.result.now in
    let is : origin ≡ get_or kept.origins c.args.number origin
    = c.index.ensures ∙ ap (λ (k : Kept). get_or k.origins c.args.number origin) c.lists.view_is in
    let incompat = c.index-in-OfLoad.result.now in
    let is_incompat : incompat ≡ get_or kept.incompats c.args.number incompat
    = c.index-in-OfLoad.ensures ∙ ap (λ (k : Kept). get_or k.incompats c.args.number incompat) c.lists.view_is in
    written_fact same_cause kept c.args.depth c.args.number c.args.lines.now.items origin c.in-OfLoad.cause c.in_ok-copy-in-OfLoad.field-0 incompat
    c.in_ok-incompat-in-OfLoad.incompat (put_of c.put.new.lines.items c.in_ok-line-in-OfLoad.line)
    c.requires.writable c.requires.below c.requires.deep is c.in-OfLoad.is is_incompat c.in_ok-incompat-in-OfLoad.ensures c.in_ok-copy-in-OfLoad.ensures
    c.in_ok-line-in-OfLoad.ensures

pub write_steps-loop-step-preserved : goal.write_steps-loop-step-preserved
write_steps-loop-step-preserved t c =
    let kept = c.args.lists.now in
    let step : Cited = get_or c.args.steps.now c.loop-step.step-index (record { number = 0; node = 0 }) in
    let other = c.index-other.result.now in
    let is_other : other ≡ get_or kept.incompats step.number other
    = c.index-other.ensures ∙ ap (λ (k : Kept). get_or k.incompats step.number other) c.lists.view_is in
    writing_more same_cause kept c.args.depth c.loop-step.incompat other c.in_ok-incompat-2.incompat c.in_ok-incompat-3.incompat c.args.steps.now
    c.loop-step.step-index step (put_of c.loop-step.lines.items c.loop-step.line) (put_of c.write-in-loop-step.new.lines.items c.in_ok-second.second)
    (put_of c.put.new.lines.items c.in_ok-line-2.line) (written_steps same_cause kept c.args.depth c.args.first c.args.steps.now c.args.lines.now.items)
    c.requires.steps.bounded c.loop-step-test.true
    (get_or_default c.args.steps.now c.loop-step.step-index (record { number = 0; node = 0 }) step c.loop-step-test.true)
    c.loop-step.invariant c.in_ok-second.ensures is_other c.in_ok-incompat-2.ensures.resolvent
    c.in_ok-incompat-2.ensures.incompat c.in_ok-incompat-3.ensures c.in_ok-line-2.ensures
