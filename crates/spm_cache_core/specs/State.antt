-- What the fields of a cache's state are to its history.
use Rattle.std.specs.FinMap as map
use Rattle.std.specs.List.{list_all, list_any}
use Rattle.std.specs.Prelude.{◌≡◌, ℕ, zero, suc, ◌+◌, ◌==◌, ◌&&◌, ◌≤◌, not, Bool, true, false, List, [], ◌∷◌, ◌++◌, length, take, filter, Option, Some, None, slice_get, if◌then◌else◌}
use Rattle.spm_cell.specs.declared.cell.Cell.{Cell}
use Rattle.spm_cell.specs.declared.cell.Cell.TheVariants.{Flying, Idle, Ready}
use Rattle.spm_key.specs.KeyLaws.{key_eq}
use Rattle.spm_key.specs.declared.key.Key.{Key}
use Rattle.spm_key.specs.declared.reply.Reply.{Reply}
use Rattle.spm_cache_core.specs.Cache.{Cache}
use Rattle.spm_cache_core.specs.Hints.{hints, is_among_keys, is_begun}
use Rattle.spm_cache_core.specs.History.{begun, canceller, event, failed, is_cancel, is_end, landed, landings, last_begin}
use Rattle.spm_cache_core.specs.Legal.{IsLegal}
use Rattle.spm_cache_core.specs.declared.event.Act.{Act}
use Rattle.spm_cache_core.specs.declared.event.Act.TheVariants.{Ask, Claim, Land, Fail}
use Rattle.spm_cache_core.specs.declared.event.AskNote.TheVariants as ask
use Rattle.spm_cache_core.specs.declared.event.ClaimNote.TheVariants as claim
use Rattle.spm_cache_core.specs.declared.event.Event.{Event}

-- the act begins and ends no flight, hints nothing, cancels nothing and ends nothing
abbrev pub IsQuiet : Act → Type 0
IsQuiet (Ask key (ask.Cancelled by)) = Unit {0}
IsQuiet (Ask key (ask.Have reply)) = Unit {0}
IsQuiet (Claim claim.Closed) = Unit {0}
IsQuiet act = ⊥

-- the act begins a flight of the key
abbrev pub IsBeginning : Key → Act → Type 0
IsBeginning key (Ask other ask.Fetch) = other ≡ key
IsBeginning key (Claim (claim.Fetch other)) = other ≡ key
IsBeginning key act = ⊥

-- the keys without this one
abbrev pub without : Key → List Key → List Key
without key keys = filter (λ other. not (key_eq other key)) keys

-- the keys that fly after the act, of those that flew before it
abbrev pub flights_after : List Key → Act → List Key
flights_after keys (Ask key ask.Fetch) = key ∷ keys
flights_after keys (Claim (claim.Fetch key)) = key ∷ keys
flights_after keys (Land key reply) = without key keys
flights_after keys (Fail key why) = without key keys
flights_after keys act = keys

-- the keys that fly after the events, of those that flew before them
abbrev pub flights_from : List Key → List Event → List Key
flights_from keys [] = keys
flights_from keys (e ∷ es) = flights_from (flights_after keys e.act) es

-- the keys that fly
abbrev pub flights : List Event → List Key
flights history = flights_from [] history

-- the reply that the act lands
abbrev pub reply_of : Act → Option Reply
reply_of (Land key reply) = Some reply
reply_of act = None

-- the reply that the event landed
abbrev pub reply_in : Option Event → Option Reply
reply_in None = None
reply_in (Some e) = reply_of e.act

-- how many of the sessions have no event that passes the test
abbrev pub missing : (Act → Bool) → ℕ → List Event → ℕ
missing test zero history = 0
missing test (suc session) history =
    (if list_any (λ e. test e.act && e.actor == session) history then 0 else 1) + missing test session history

-- how many events may come that take no memory: an end of each open flight, and a cancel and an end of each session
abbrev pub owed : ℕ → List Event → ℕ
owed sessions history = length (flights history) + (missing is_end sessions history + missing is_cancel sessions history)

-- the keys that were never begun
abbrev pub unbegun : List Event → List Key → List Key
unbegun before keys = filter (λ key. not (is_begun key before)) keys

-- the keys, and behind them what the events hint, where `before` came before them
abbrev pub queued_after : List Event → List Key → List Event → List Key
queued_after before keys [] = keys
queued_after before keys (e ∷ es) = queued_after (before ++ e ∷ []) (keys ++ unbegun before (hints e.act)) es

-- all hinted keys, as often as they were hinted, without those that were begun before that hint
abbrev pub queued : List Event → List Key
queued history = queued_after [] [] history

-- nobody fetches the key, it hasn't landed, and so many flights failed
pub record IsIdle (key : Key) (history : List Event) (fails : ℕ) : Type 0 where
  pub were_begun : begun key history ≡ fails
  pub have_failed : failed key history ≡ fails
  pub no_landings : landings key history ≡ 0
  pub not_landed : map.get (landed history) key ≡ None
  pub not_open : is_among_keys (flights history) key ≡ false

-- the flight of this number is open, by this actor
pub record IsOpen (key : Key) (history : List Event) (number by fails : ℕ) : Type 0 where
  pub were_begun : begun key history ≡ fails + 1
  pub have_failed : failed key history ≡ fails
  pub no_landings : landings key history ≡ 0
  pub last : last_begin key history ≡ Some (number, by)
  pub not_landed : map.get (landed history) key ≡ None
  pub is_open : is_among_keys (flights history) key ≡ true

-- the key's reply landed, at this place
pub record IsReady (key : Key) (history : List Event) (place : ℕ) : Type 0 where
  pub were_begun : begun key history ≡ failed key history + 1
  pub one_landing : landings key history ≡ 1
  pub reply : Reply
  pub actor : ℕ
  pub there : slice_get history place ≡ Some (event actor (Land key reply))
  pub has_landed : map.get (landed history) key ≡ Some reply
  pub not_open : is_among_keys (flights history) key ≡ false

-- the cell says what the history says of the key
abbrev pub IsCell : Key → List Event → Cell → Type 0
IsCell key history (Idle fails) = IsIdle key history fails
IsCell key history (Flying number by fails) = IsOpen key history number by fails
IsCell key history (Ready place) = IsReady key history place

-- the parts of a cache's state: the cells, the queue of what was hinted, with how many keys at its front were begun, who
-- cancelled first, how many sessions have not ended, and for how many events the history has room
pub record Parts : Type 0 where
  pub cells : Key → Cell
  pub queue : List Key
  pub next : ℕ
  pub stopper : Option ℕ
  pub running : ℕ
  pub capacity : ℕ

-- the parts are what the history says
pub record IsState (cache : Cache) (parts : Parts) : Type 0 where
  pub legal : IsLegal cache.sessions cache.workers cache.history
  pub some_sessions : 1 ≤ cache.sessions
  pub few_sessions : cache.sessions ≤ 64
  pub few_workers : cache.workers ≤ 16
  pub of_cells : (key : Key) → IsCell key cache.history (parts.cells key)
  pub of_queue : parts.queue ≡ queued cache.history
  pub of_next : parts.next ≤ length parts.queue
  pub passed : list_all (λ key. is_begun key cache.history) (take parts.next parts.queue) ≡ true
  pub of_stopper : parts.stopper ≡ canceller cache.history
  pub of_running : parts.running ≡ missing is_end cache.sessions cache.history
  pub spares : owed cache.sessions cache.history ≤ cache.spare
  pub room : length cache.history + cache.spare ≤ parts.capacity
