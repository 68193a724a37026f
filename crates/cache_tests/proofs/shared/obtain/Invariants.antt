use Rattle.std.proofs.Common.{◌≡◌}
use Rattle.cache_tests.specs.Ready.{IsReady}
use Rattle.cache_tests.proofs.shared.obtain.Given as goal

abbrev pub invariant-loop : goal.invariant-loop
invariant-loop g l = IsReady l.cache.id l.pass × (l.pass.actor ≡ l.initial.pass.actor)
