use Rattle.spm_session.specs.Sharing.{GoesSharing, IsReady}
use Rattle.spm_session.proofs.sharing.SharingSource.reply.Given as goal

-- the session went on, and waits
abbrev pub invariant-loop : goal.invariant-loop
invariant-loop g l = record {
  next : (goal.iterator-loop g).can_next l.iterator' × (goal.iterator-loop g).is_finite l.iterator';
  ready : IsReady l.self;
  goes : GoesSharing g.L.Link.state l.initial.self l.self;
}
