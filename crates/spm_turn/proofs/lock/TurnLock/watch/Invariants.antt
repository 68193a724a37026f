use Rattle.std.proofs.Common.{◌≡◌, ◌≤◌, ℕ}
use Rattle.spm_turn.specs.Views.{with_told}
use Rattle.spm_turn.proofs.lock.TurnLock.watch.Given as goal

abbrev pub invariant-loop : goal.invariant-loop
invariant-loop g l =
    (l.place.table_id ≡ l.initial.place.table_id) × (l.place.id ≡ l.initial.place.id)
    × ((n : ℕ) × (l.place.me ≡ (with_told l.initial.place.me.0 n, l.initial.place.me.1)) × (l.initial.place.me.0.told ≤ n))
