use Rattle.std.proofs.Common.{ap, ◌∙◌, ◌++◌}
use Rattle.std.specs.Prelude.{string_bytes}
use Rattle.spm_trust.specs.TrustText.{sum_text}
use Rattle.spm_trust.proofs.WritingLemmas.{all_pieces, one_more}
use Rattle.spm_trust.proofs.writing.push_sums.Goals as goal

pub loop-kept-preserved : goal.loop-kept-preserved
loop-kept-preserved c =
    one_more sum_text (string_bytes c.loop-kept.text) (string_bytes c.push_sum-in-loop-kept.new.text) c.in-Some.others.now
    c.loop-kept.kept-index c.kept-item.result c.loop-kept-test.true c.kept-item.is
    (c.in_ok-push_sum-2.ensures ∙ ap (λ text. text ++ sum_text c.kept-item.result) c.in_ok-push_str.ensures.bytes)
    ∙ c.loop-kept.invariant

pub returns : goal.returns
returns c =
    all_pieces sum_text (string_bytes c.args.text.now) (string_bytes c.push_sum.new.text) (string_bytes c.loop-kept.text)
    c.args.sums.now c.in-Some.others.now c.loop-kept.kept-index c.in-Some.first.now c.in-Some.ensures.cases.0
    c.in_ok-push_sum.ensures c.loop-kept-test.false c.loop-kept.invariant
