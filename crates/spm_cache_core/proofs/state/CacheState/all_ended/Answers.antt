use Rattle.spm_cache_core.proofs.AnswerLemmas.{ended_running}
use Rattle.spm_cache_core.proofs.state.CacheState.all_ended.Goals as goal

pub returns : goal.returns
returns c = ended_running _ c.args.self.now _ c.self.invariant c.self.view_is
