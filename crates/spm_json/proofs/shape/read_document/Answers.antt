use Rattle.std.proofs.Common.{refl, rules}
use Rattle.std.proofs.lemmas.Str.{IsUtf8-from_is_utf8, is_utf8-from_IsUtf8}
use Rattle.spm_json.proofs.Faults.{Fails-document_of}
use Rattle.spm_json.proofs.shape.read_document.Goals as goal

pub returns-in-Ok : goal.returns-in-Ok
returns-in-Ok c = rw (is_utf8-from_IsUtf8 _ c.in-Ok.ensures.ok.0, c.in-Ok.ensures.ok.1) refl

pub returns-in-Err-2 : goal.returns-in-Err-2
returns-in-Err-2 c = Fails-document_of _ _ c.here.ensures (λ text. c.in-Err.ensures.err (λ memory. let no = c.if-is_memory.ensures.1 memory in search rules) (IsUtf8-from_is_utf8 _ text))
