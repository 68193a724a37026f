use Rattle.std.proofs.Common.{◌≡◌, ◌∙◌, ◌+◌, Bool, Global, Vec, [], arith, get_or, length, subst, sym}
use Rattle.pub_trail.specs.Required.{decision_in, loaded_facts}
use Rattle.pub_trail.specs.Walk.{terms_of}
use Rattle.pub_trail.proofs.RequiredLemmas.{AreMarking-none_yet, Marks, get_or_same, learned_step, marks_end, none_step, some_step}
use Rattle.pub_trail.proofs.required.marked.Goals as goal
use Rattle.pub_trail.proofs.required.marked.Goals.{in-OfLoad+in-Some, in-OfLoad+in_default-required_in, in_default}

pub loop-place-init : goal.loop-place-init
loop-place-init c =
    let long : length c.loop-marks.marks.items ≡ length c.args.decisions.now = omega (arith, c.loop-marks.invariant.within, c.loop-marks-test.false, c.len.ensures) in
    record {
      within = omega arith;
      marks = AreMarking-none_yet (decision_in c.args.decisions.now) (length c.args.decisions.now) (loaded_facts (terms_of c.args.incompats.now) c.args.origins.now)
          c.loop-marks.marks.items long c.loop-marks.invariant.none;
    }

pub index_mut-requires : goal.index_mut-requires
index_mut-requires c = omega (arith, c.in-Some.ensures.within, c.loop-place.invariant.marks.nodes)

pub loop-place-preserved : goal.loop-place-preserved
loop-place-preserved c =
    let decision = decision_in c.args.decisions.now in
    let count = length c.args.decisions.now in
    let incompats = c.args.incompats.now in
    let origins = c.args.origins.now in
    let place = c.loop-place.place in
    let marks = c.loop-place.marks.items in
    let origin = c.index-origins-place.result in
    record {
      within = omega arith;
      marks =
          elim c.match-origins-place.branch [
            | in-OfLoad+in-Some w ↦
                subst (λ (v : Vec Bool Global). Marks decision count incompats origins (place + 1) v.items) (sym w.marks-is)
                (some_step decision count incompats origins place w.index-incompats-place.result origin w.in-OfLoad.field-0 marks w.in-Some.node (omega arith)
                c.requires.long w.index-incompats-place.is c.index-origins-place.is w.in-OfLoad.is (sym w.required_in.ensures.node ∙ w.in-Some.is) w.in-Some.ensures.within
                c.loop-place.invariant.marks)
            | in-OfLoad+in_default-required_in w ↦
                subst (λ (v : Vec Bool Global). Marks decision count incompats origins (place + 1) v.items) (sym w.marks-is)
                (none_step decision count incompats origins place w.index-incompats-place.result origin w.in-OfLoad.field-0 marks (omega arith)
                c.requires.long w.index-incompats-place.is c.index-origins-place.is w.in-OfLoad.is (sym w.required_in.ensures.node ∙ w.in_default-required_in.is)
                c.loop-place.invariant.marks)
            | in_default w ↦
                subst (λ (v : Vec Bool Global). Marks decision count incompats origins (place + 1) v.items) (sym w.marks-is)
                (learned_step decision count incompats origins place (get_or incompats place (record { terms = [] })) origin marks (omega arith)
                c.requires.long (get_or_same incompats place (record { terms = [] }) (get_or incompats place (record { terms = [] })) (omega arith)) c.index-origins-place.is w.in_default.not-OfLoad c.loop-place.invariant.marks)
          ];
    }

pub returns : goal.returns
returns c =
    marks_end (decision_in c.args.decisions.now) (length c.args.decisions.now) c.args.incompats.now c.args.origins.now c.loop-place.place c.loop-place.marks.items
    (omega arith) c.loop-place.invariant.marks
