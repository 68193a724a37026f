use Rattle.std.proofs.Common.{◌≡◌, ◌+◌, ◌≤◌, ◌-◌, length, option_map, vec_len}
use Rattle.spm_outside.proofs.ExchangeLemmas.{IsReadSoFar}
use Rattle.spm_outside.proofs.link.read_all.Given as goal

abbrev pub invariant-loop-piece : goal.invariant-loop-piece
invariant-loop-piece g l = record {
  within : length l.bytes.items ≤ l.limit;
  piece : length l.piece ≡ 4096;
  book : (g.L.Link.state l.link).book ≡ (g.L.Link.state l.initial.link).book;
  calls : (g.L.Link.state l.link).calls ≡ (g.L.Link.state l.initial.link).calls;
  faults : (g.L.Link.state l.link).faults ≡ (g.L.Link.state l.initial.link).faults;
  taken : (g.L.Link.state l.link).taken ≡ option_map (λ sum. sum + length l.bytes.items) (g.L.Link.state l.initial.link).taken;
  rest : IsReadSoFar l.bytes.items (g.L.Link.state l.initial.link).rest (g.L.Link.state l.link).rest;
}

abbrev pub decreases-loop-piece : goal.decreases-loop-piece
decreases-loop-piece g l = l.limit - vec_len l.bytes
