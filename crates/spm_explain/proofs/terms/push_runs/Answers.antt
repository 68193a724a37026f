use Rattle.std.proofs.Common.{◌∙◌, ◌++◌, ap, codes, string_bytes}
use Rattle.spm_explain.specs.DerivationText.{run_text}
use Rattle.spm_explain.proofs.TextLemmas.{item_behind, join_by-more}
use Rattle.spm_explain.proofs.terms.push_runs.Goals as goal

pub loop-place-preserved : goal.loop-place-preserved
loop-place-preserved c =
    item_behind _ _ _ _ _ _ _ _ c.in_ok-push_run.ensures
    (c.in_ok-push_str.ensures.bytes ∙ ap (λ mark. string_bytes c.loop-place.text ++ mark) c.before_item.ensures)
    c.loop-place.invariant
    (join_by-more (run_text c.args.texts.now) (codes "|") c.args.runs.now c.loop-place.place _ c.loop-place-test.true)
