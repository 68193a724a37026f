use Rattle.bench.specs.Ready.{IsReady}
use Rattle.bench.proofs.asks.ask_by_pass.Given as goal

abbrev pub invariant-loop-ask : goal.invariant-loop-ask
invariant-loop-ask g l = IsReady l.cache.id l.pass
