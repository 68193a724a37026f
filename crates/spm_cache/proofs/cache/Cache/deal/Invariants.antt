use Rattle.std.proofs.Common.{◌≡◌, ◌+◌, ◌-◌, ◌≤◌, ◌++◌, length, vec_capacity}
use Rattle.std.specs.Prelude.{map}
use Rattle.spm_turn.specs.Log.{numbers_from}
use Rattle.spm_cache.specs.Passing.{newcomer, newcomers}
use Rattle.spm_cache.specs.Seated.{row}
use Rattle.spm_cache.proofs.cache.Cache.deal.Given as goal

abbrev pub invariant-loop-actor : goal.invariant-loop-actor
invariant-loop-actor l =
    (l.seat ≡ row l.self.id l.sessions l.workers l.actor (l.sessions + l.workers - l.actor))
    × (l.passes.items ++ map (newcomer l.self.id l.sessions l.workers) (numbers_from l.actor (l.sessions + l.workers - l.actor))
    ≡ newcomers l.self.id l.sessions l.workers)
    × (length l.passes.items ≡ l.actor) × (l.sessions + l.workers ≤ vec_capacity l.passes)
