use Rattle.std.proofs.Common.{◌≤◌, length}
use Rattle.spm_http.specs.Chunked.{chunked_body}
use Rattle.spm_http.proofs.Chunks.{Goes}
use Rattle.spm_http.proofs.chunked.read_chunks.Given as goal

-- What is left, behind the body so far, is heard as all the bytes are.
abbrev pub invariant-loop-size : goal.invariant-loop-size
invariant-loop-size l = record {
  within : length l.body.items ≤ l.limit;
  goes : Goes l.status l.limit l.body.items l.left (chunked_body l.status l.limit l.bytes);
}

abbrev pub decreases-loop-size : goal.decreases-loop-size
decreases-loop-size l = length l.left
