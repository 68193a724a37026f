use Rattle.std.proofs.Common.{◌≤◌, ◌∙◌, Some, ap, arith, drop, length, take}
use Rattle.spm_outside.proofs.PeerLemmas.{taken_more}
use Rattle.spm_outside.proofs.memory_peer.MemoryPeerPeer.read.Goals as goal

pub returns-clause-taken : goal.returns-clause-taken
returns-clause-taken c =
    let peer = c.args.self.now in
    let count = c.min-count.result in
    let within : count ≤ length (drop peer.taken peer.bytes.items) = grind (arith, c.min-count.ensures, ap length c.rest-rest.ensures) in
    ap Some
    (taken_more peer.bytes.items c.copy_from_slice.new.self (drop count c.args.piece.now) peer.taken count within
    (c.copy_from_slice.ensures.after ∙ ap (take count) c.rest-rest.ensures))
