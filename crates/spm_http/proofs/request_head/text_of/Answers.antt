use Rattle.spm_http.proofs.Found.{IsUtf8-token}
use Rattle.spm_http.proofs.request_head.text_of.Goals as goal

pub unreachable-requires : goal.unreachable-requires
unreachable-requires c = c.in-Err.ensures.cases.0 (IsUtf8-token c.args.token.now c.requires)
