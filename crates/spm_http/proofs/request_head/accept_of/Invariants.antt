use Rattle.std.proofs.Common.{◌≡◌, drop}
use Rattle.spm_http.specs.Parts.{accept_at}
use Rattle.spm_http.proofs.request_head.accept_of.Given as goal

abbrev pub invariant-loop-field : goal.invariant-loop-field
invariant-loop-field l = accept_at l.front (drop l.field-index l.fields) ≡ accept_at l.front l.fields
