use Rattle.std.specs.Str.{bytes_eq}
use Rattle.std.proofs.Common.{◌||◌, ◌++◌, ◌∷◌, [], ◌∙◌, ap, sym}
use Rattle.spm_json.specs.Names.{has_name}
use Rattle.spm_manifest.proofs.Counting.{distinct_met, distinct_new}
use Rattle.spm_manifest.proofs.guard.push_distinct.Goals as goal
use Rattle.spm_manifest.proofs.guard.push_distinct.Goals.{then-not-has+in_ok-_new+in_ok-copy+in_ok-push, else-not-has}

pub loop-name-preserved : goal.loop-name-preserved
loop-name-preserved c = λ rest.
    let tested = ap (has_name c.loop-name.met) (sym c.text.ensures.text) ∙ sym c.has.ensures in
    elim c.if-not-has.branch [
      | then-not-has+in_ok-_new+in_ok-copy+in_ok-push w ↦
          rw (w.list-is, w.met-is) (distinct_new (has_name c.loop-name.met) (has_name w.insert.new.self) c.loop-name.list.items w.push.new.self.items
          c.args.names.now rest c.loop-name.name-index c.name-item.result c.loop-name-test.true c.name-item.is (tested ∙ w.if-not-has.true)
          (λ other. w.in_ok-_new.ensures.met other ∙ ap (λ text. bytes_eq text other || has_name c.loop-name.met other) w.text-then-not-has.ensures.text)
          (w.in_ok-push.ensures.items ∙ ap (λ name. c.loop-name.list.items ++ name ∷ []) w.in_ok-copy.ensures)
          ∙ c.loop-name.invariant rest)
      | else-not-has w ↦
          rw (w.list-is, w.met-is) (distinct_met (has_name c.loop-name.met) c.loop-name.list.items c.args.names.now rest c.loop-name.name-index
          c.name-item.result c.loop-name-test.true c.name-item.is (tested ∙ w.if-not-has.false)
          ∙ c.loop-name.invariant rest)
    ]
