use Rattle.spm_worker.proofs.RoundLemmas.{AreRounds, Done}
use Rattle.spm_worker.proofs.worker.work.Given as goal

-- flights alone were done, and the pass is that of the same worker
abbrev pub invariant-loop : goal.invariant-loop
invariant-loop g l = record {
  next : (goal.iterator-loop g).can_next l.iterator' × (goal.iterator-loop g).is_finite l.iterator';
  done : Done (AreRounds l.initial.pass.actor) l.run.base.now (g.L.Link.state l.initial.link) (g.L.Link.state l.link) l.initial.pass l.pass;
}
