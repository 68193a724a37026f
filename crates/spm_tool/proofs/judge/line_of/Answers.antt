use Rattle.std.proofs.Common.{◌≡◌, ◌∙◌, IfOk, string_bytes, subst, sym}
use Rattle.spm_tool.specs.Judge.{judge_line, judge_report}
use Rattle.spm_tool.specs.WordsView.{judgement_view}
use Rattle.spm_tool.proofs.judge.line_of.Goals as goal

-- src/judge.rt
pub returns-in-LockMissing : goal.returns-in-LockMissing
returns-in-LockMissing c =
    subst (λ ending. IfOk c.judge_line.result (λ line. string_bytes line ≡ judge_report (judgement_view c.args.order.now) ending))
    (sym c.in-LockMissing.is) c.judge_line.ensures

pub returns-in_ok-text-in-Invalid : goal.returns-in_ok-text-in-Invalid
returns-in_ok-text-in-Invalid c =
    subst (λ ending. IfOk c.judge_line-in-Invalid.result (λ line. string_bytes line ≡ judge_report (judgement_view c.args.order.now) ending))
    (sym c.in-Invalid.is)
    (subst (λ text. IfOk c.judge_line-in-Invalid.result (λ line. string_bytes line ≡ judge_line c.args.order.now.root.now text))
    (c.as_str.ensures.value ∙ c.in_ok-text-in-Invalid.ensures.ok) c.judge_line-in-Invalid.ensures)
