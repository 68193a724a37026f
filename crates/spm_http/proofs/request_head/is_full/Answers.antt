use Rattle.std.proofs.Common.{codes, ◌++◌, IsTrue}
use Rattle.std.proofs.lemmas.Result.{IfOk-weaker}
use Rattle.httparse.specs.Spans.{RequestExceeds}
use Rattle.spm_http.specs.Request.{IsProperPrefix}
use Rattle.spm_http.proofs.Full.{full_in_value, full_in_name}
use Rattle.spm_http.proofs.request_head.is_full.Goals as goal

pub returns-then-branch-clause-full : goal.returns-then-branch-clause-full
returns-then-branch-clause-full c _ = full_in_value c.args.bytes.now (c.in_ok-exceeds.ensures.over c.if-branch.true)

pub returns-clause-full : goal.returns-clause-full
returns-clause-full c =
    IfOk-weaker c.exceeds-2.result (λ over. IsTrue over → RequestExceeds 64 (c.args.bytes.now ++ codes ":\n\n"))
    (λ over. IsTrue over → ¬ (IsProperPrefix c.args.bytes.now))
    (λ over exceeds is. full_in_name c.args.bytes.now (exceeds is)) c.exceeds-2.ensures.over
