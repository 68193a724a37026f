use Rattle.std.proofs.Common.{◌∙◌, ◌++◌, ap, codes, string_bytes}
use Rattle.spm_explain.specs.DerivationText.{term_text}
use Rattle.spm_explain.proofs.TextLemmas.{item_behind, join_by-more}
use Rattle.spm_explain.proofs.terms.push_terms.Goals as goal

pub loop-place-preserved : goal.loop-place-preserved
loop-place-preserved c =
    let text = term_text c.args.nodes.now c.args.choices.now in
    let term = c.index-terms-place.result in
    item_behind _ _ _ _ _ _ _ _
    (c.in_ok-push_term.ensures ∙ ap (λ t. string_bytes c.push_str.new.self ++ text t) c.index-terms-place.is)
    (c.in_ok-push_str.ensures.bytes ∙ ap (λ mark. string_bytes c.loop-place.text ++ mark) c.before_item.ensures)
    c.loop-place.invariant
    (join_by-more text (codes ", ") c.args.terms.now c.loop-place.place term c.loop-place-test.true)
