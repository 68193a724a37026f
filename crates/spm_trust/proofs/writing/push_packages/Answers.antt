use Rattle.std.proofs.Common.{ap, ◌∙◌, ◌++◌}
use Rattle.std.specs.Prelude.{string_bytes}
use Rattle.spm_trust.specs.TrustText.{package_text}
use Rattle.spm_trust.proofs.WritingLemmas.{all_pieces, one_more}
use Rattle.spm_trust.proofs.writing.push_packages.Goals as goal

pub loop-entry-preserved : goal.loop-entry-preserved
loop-entry-preserved c =
    one_more package_text (string_bytes c.loop-entry.text) (string_bytes c.push_package-in-loop-entry.new.text) c.in-Some.others.now
    c.loop-entry.entry-index c.entry-item.result c.loop-entry-test.true c.entry-item.is
    (c.in_ok-push_package-2.ensures ∙ ap (λ text. text ++ package_text c.entry-item.result) c.in_ok-push_str.ensures.bytes)
    ∙ c.loop-entry.invariant

pub returns : goal.returns
returns c =
    all_pieces package_text (string_bytes c.args.text.now) (string_bytes c.push_package.new.text) (string_bytes c.loop-entry.text)
    c.args.packages.now c.in-Some.others.now c.loop-entry.entry-index c.in-Some.first.now c.in-Some.ensures.cases.0
    c.in_ok-push_package.ensures c.loop-entry-test.false c.loop-entry.invariant
