use Rattle.std.proofs.Common.{◌∙◌, sym}
use Rattle.spm_server.proofs.TargetLemmas.{query_is}
use Rattle.spm_server.proofs.target.text_key.Goals as goal

pub returns-then-starts_with : goal.returns-then-starts_with
returns-then-starts_with c =
    rw (← query_is c.args.target.now (rw (c.as_bytes-bytes.ensures.value) at (sym c.starts_with.ensures.value ∙ c.if-starts_with.true)))
    (rw (c.split_at.ensures.back, c.as_bytes-bytes.ensures.value) at c.url_key.ensures)
