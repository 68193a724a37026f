-- What contracts see of the state of a cache.
use Rattle.std.specs.Prelude.{ℕ, List}
use Rattle.spm_cache_core.specs.declared.event.Event.{Event}

-- what happened, oldest first; how many sessions and workers there are: the sessions are the actors below `sessions`, and the
-- workers those from there on; and how many events may come that take no memory
pub record Cache : Type 0 where
  pub history : List Event
  pub sessions : ℕ
  pub workers : ℕ
  pub spare : ℕ
