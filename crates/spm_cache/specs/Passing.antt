-- What contracts see of a pass and of a cache.
use Rattle.std.specs.Prelude.{ℕ, ◌+◌, List, [], ◌∷◌, map}
use Rattle.spm_turn.specs.Log.{below}
use Rattle.spm_turn.specs.Sitting.{TableId}
use Rattle.spm_cache_core.specs.declared.event.Event.{Event}

-- a pass to the cache `of`: who calls by it, how many sessions and workers there are, a beginning of the history that it has seen, the numbers
-- of the actors whose events it alone makes, and a length that the history has at least
pub record Passing : Type 0 where
  pub of : TableId
  pub actor : ℕ
  pub sessions : ℕ
  pub workers : ℕ
  pub seen : List Event
  pub numbers : List ℕ
  pub told : ℕ

-- the pass of an actor, as the cache is opened
abbrev pub newcomer : TableId → ℕ → ℕ → ℕ → Passing
newcomer of sessions workers actor =
    record { of = of; actor = actor; sessions = sessions; workers = workers; seen = []; numbers = actor ∷ []; told = 0 }

-- the passes of all actors, as the cache is opened, in the order of actors
abbrev pub newcomers : TableId → ℕ → ℕ → List Passing
newcomers of sessions workers = map (newcomer of sessions workers) (below (sessions + workers))
