-- What some of the actors did: those that pass a test.
use Rattle.std.specs.Prelude.{ℕ, ◌&&◌, ◌==◌, Bool, List, count_by}
use Rattle.std.specs.List.{list_any}
use Rattle.spm_key.specs.declared.key.Key.{Key}
use Rattle.spm_cache_core.specs.History.{begins, breaks, fails, lacks}
use Rattle.spm_cache_core.specs.declared.event.Event.{Event}

-- how many flights of the key they began
abbrev pub begun_by : (ℕ → Bool) → Key → List Event → ℕ
begun_by test key history = count_by (λ e. test e.actor && begins key e.act) history

-- how many flights of the key they failed, and how many of them by the link and for want of memory
abbrev pub failed_by : (ℕ → Bool) → Key → List Event → ℕ
failed_by test key history = count_by (λ e. test e.actor && fails key e.act) history

-- how many flights of the key failed for them by the link
abbrev pub broken_by : (ℕ → Bool) → Key → List Event → ℕ
broken_by test key history = count_by (λ e. test e.actor && breaks key e.act) history

-- how many flights of the key failed for them for want of memory
abbrev pub lacked_by : (ℕ → Bool) → Key → List Event → ℕ
lacked_by test key history = count_by (λ e. test e.actor && lacks key e.act) history

-- the actor did something
abbrev pub has_acted : ℕ → List Event → Bool
has_acted actor history = list_any (λ e. e.actor == actor) history
