-- What contracts see of the fields of a cache's state, and what they are made of.
use Rattle.std.specs.Prelude.{vec_capacity}
use Rattle.spm_cache_core.specs.Cache.{Cache}
use Rattle.spm_cache_core.specs.Cells.{cell_at}
use Rattle.spm_cache_core.specs.State.{Parts}
use Rattle.spm_cache_core.specs.declared.state.CacheState.TheInside.{Inside}

-- what contracts see
abbrev pub cache_of : Inside → Cache
cache_of s = record { history = s.history.items; sessions = s.sessions; workers = s.workers; spare = s.spare }

-- what the fields are to the history
abbrev pub parts_of : Inside → Parts
parts_of s = record {
  cells = cell_at s.cells;
  queue = s.queue.items;
  next = s.next;
  stopper = s.canceller;
  running = s.running;
  capacity = vec_capacity s.history;
}
