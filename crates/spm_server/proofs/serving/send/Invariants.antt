use Rattle.std.proofs.Common.{◌≡◌, ◌≤◌, ◌-◌, ◌++◌, length, take, option_map}
use Rattle.spm_server.proofs.serving.send.Given as goal

abbrev pub invariant-loop-done : goal.invariant-loop-done
invariant-loop-done g l = record {
  within : l.done ≤ length l.text;
  written : (g.P.Peer.state l.peer).written ≡ option_map (λ written. written ++ take l.done l.text) (g.P.Peer.state l.initial.peer).written;
  taken : (g.P.Peer.state l.peer).taken ≡ (g.P.Peer.state l.initial.peer).taken;
  rest : (g.P.Peer.state l.peer).rest ≡ (g.P.Peer.state l.initial.peer).rest;
  faults : (g.P.Peer.state l.peer).faults ≡ (g.P.Peer.state l.initial.peer).faults;
}

abbrev pub decreases-loop-done : goal.decreases-loop-done
decreases-loop-done g l = length l.initial.text - l.done
