use Rattle.std.proofs.Common.{◌≡◌, ◌≤◌, ◌-◌, length, IfSome, vec_len}
use Rattle.spm_server.proofs.ServingLemmas.{IsUnfinished}
use Rattle.spm_server.proofs.serving.take_request.Given as goal

abbrev pub invariant-loop-alloc : goal.invariant-loop-alloc
invariant-loop-alloc g l = record {
  within : length l.request.items ≤ 65536;
  piece : length l.piece ≡ 4096;
  unfinished : IsUnfinished l.request.items;
  taken : IfSome (g.P.Peer.state l.peer).taken (λ taken. taken ≡ l.request.items);
  written : (g.P.Peer.state l.peer).written ≡ (g.P.Peer.state l.initial.peer).written;
  faults : (g.P.Peer.state l.peer).faults ≡ (g.P.Peer.state l.initial.peer).faults;
}

abbrev pub decreases-loop-alloc : goal.decreases-loop-alloc
decreases-loop-alloc g l = 65536 - vec_len l.request
