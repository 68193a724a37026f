use Rattle.std.proofs.Common.{◌≡◌, [], ◌∷◌, None}
use Rattle.cache_tests.proofs.turn.add_all.Given as goal

abbrev pub invariant-loop-value : goal.invariant-loop-value
invariant-loop-value g l = (l.seat.of ≡ l.lock.id) × (l.seat.base ≡ None) × (l.seat.numbers ≡ l.by ∷ [])
