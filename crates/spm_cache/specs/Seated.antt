-- A pass as its seat and its actor, and what holds of it between two calls.
use Rattle.std.specs.Prelude.{◌≡◌, ℕ, true, [], None}
use Rattle.spm_turn.specs.Log.{has, numbers_from}
use Rattle.spm_turn.specs.Sitting.{Sitting, TableId}
use Rattle.spm_cache_core.specs.Legal.{IsLegal}
use Rattle.spm_cache_core.specs.declared.event.Event.{Event}
use Rattle.spm_cache.specs.declared.kept.Terms.{Terms}
use Rattle.spm_cache.specs.Passing.{Passing}

-- what contracts see of a seat and an actor
abbrev pub passing : Sitting Event Terms → ℕ → Passing
passing seat actor = record {
  of = seat.of;
  actor = actor;
  sessions = seat.terms.sessions;
  workers = seat.terms.workers;
  seen = seat.seen;
  numbers = seat.numbers;
  told = seat.told;
}

-- the seat has no turn, the actor is one of its numbers, and what it has seen is legal
pub record IsPass (seat : Sitting Event Terms) (actor : ℕ) : Type 0 where
  pub between : seat.base ≡ None
  pub own : has seat.numbers actor ≡ true
  pub legal : IsLegal seat.terms.sessions seat.terms.workers seat.seen

-- the seat of a row of numbers, `left` of them from `actor` on, that has seen nothing
abbrev pub row : TableId → ℕ → ℕ → ℕ → ℕ → Sitting Event Terms
row of sessions workers actor left =
    record { of = of; terms = record { sessions = sessions; workers = workers }; seen = []; numbers = numbers_from actor left; told = 0; base = None }
