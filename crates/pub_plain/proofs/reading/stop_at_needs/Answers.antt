use Rattle.std.proofs.Common.{◌∙◌, ◌+◌, Bool, ap, arith, drop, sym}
use Rattle.std.specs.List.{filter}
use Rattle.std.specs.Option.{option_copied}
use Rattle.pub_facts.specs.Facts.{is_of}
use Rattle.pub_plain.specs.Loading.{read_needs}
use Rattle.pub_plain.specs.Told.{answers_to, stopped}
use Rattle.spm_manifest.specs.declared.need.Need.{Need}
use Rattle.pub_plain.proofs.ToldLemmas.{needs_end, needs_first, needs_other, stopped_any}
use Rattle.pub_plain.proofs.reading.stop_at_needs.Goals.{then-is_of+in_ok-stop+in_default, else-is_of}
use Rattle.pub_plain.proofs.reading.stop_at_needs.Goals as goal

pub returns-in-Some : goal.returns-in-Some
returns-in-Some c = λ more.
    let answers = answers_to c.args.told.now in
    let test : Need → Bool = is_of (option_copied c.args.under) in
    let rest = read_needs answers (filter test (drop (c.loop-need.need-index + 1) c.args.needs.now)) more in
    sym (c.loop-need.invariant more)
    ∙ needs_first answers test c.args.needs.now c.loop-need.need-index c.need-item.result more (omega arith) c.need-item.is
    (sym c.is_of.ensures ∙ c.if-is_of.true)
    ∙ c.in_ok-stop.ensures rest ∙ ap (λ s. stopped s rest) c.in-Some.is ∙ stopped_any c.in-Some.stop rest more

pub loop-need-preserved : goal.loop-need-preserved
loop-need-preserved c = λ more.
    let answers = answers_to c.args.told.now in
    let test : Need → Bool = is_of (option_copied c.args.under) in
    let rest = read_needs answers (filter test (drop (c.loop-need.need-index + 1) c.args.needs.now)) more in
    elim c.if-is_of.branch [
      | then-is_of+in_ok-stop+in_default w ↦
          sym (needs_first answers test c.args.needs.now c.loop-need.need-index c.need-item.result more (omega arith) c.need-item.is
          (sym c.is_of.ensures ∙ w.if-is_of.true)
          ∙ w.in_ok-stop.ensures rest ∙ ap (λ s. stopped s rest) w.in_default.is)
          ∙ c.loop-need.invariant more
      | else-is_of w ↦
          sym (needs_other answers test c.args.needs.now c.loop-need.need-index c.need-item.result more (omega arith) c.need-item.is
          (sym c.is_of.ensures ∙ w.if-is_of.false))
          ∙ c.loop-need.invariant more
    ]

pub returns : goal.returns
returns c = λ more.
    sym (c.loop-need.invariant more)
    ∙ needs_end (answers_to c.args.told.now) (is_of (option_copied c.args.under)) c.args.needs.now c.loop-need.need-index more (omega arith)
