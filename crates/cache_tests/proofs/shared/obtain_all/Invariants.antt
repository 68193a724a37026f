use Rattle.std.proofs.Common.{◌≡◌}
use Rattle.cache_tests.specs.Ready.{IsReady}
use Rattle.cache_tests.proofs.shared.obtain_all.Given as goal

abbrev pub invariant-loop-number : goal.invariant-loop-number
invariant-loop-number g l = IsReady l.cache.id l.pass × (l.pass.actor ≡ l.initial.pass.actor)
