use Rattle.std.proofs.Common.{sym}
use Rattle.spm_cache_core.proofs.AnswerLemmas.{asked_idle}
use Rattle.spm_cache_core.proofs.state.CacheState.ask.Goals as goal

pub begin-requires-clause-allowed : goal.begin-requires-clause-allowed
begin-requires-clause-allowed c = (
  c.requires,
  asked_idle _ c.args.self.now _ c.args.actor c.args.key.now c.in_ok-noted-in-Idle.noted c.in-Idle.fails c.self.invariant c.self.view_is
      c.in_ok-noted-in-Idle.ensures (sym c.in-Idle.ensures) c.in_default.ensures.none,
)
