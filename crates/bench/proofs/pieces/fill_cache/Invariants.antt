use Rattle.spm_cache_core.specs.Legal.{IsSession}
use Rattle.bench.proofs.pieces.fill_cache.Given as goal

abbrev pub invariant-loop-round : goal.invariant-loop-round
invariant-loop-round l = IsSession l.state.sessions l.state.history 0

abbrev pub invariant-loop-key : goal.invariant-loop-key
invariant-loop-key l = IsSession l.state.sessions l.state.history 0
