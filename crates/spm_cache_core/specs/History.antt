-- What a history says: a list of events, oldest first.
use Rattle.std.specs.FinMap as map
use Rattle.std.specs.List.{list_any}
use Rattle.std.specs.Prelude.{ℕ, zero, suc, ◌+◌, ◌==◌, ◌&&◌, Bool, true, false, nat_lt, List, [], ◌∷◌, Option, Some, None, is_some, count_by, option_map, if◌then◌else◌}
use Rattle.spm_key.specs.Catalogue.{Catalogue}
use Rattle.spm_key.specs.KeyLaws.{key_eq}
use Rattle.spm_key.specs.declared.key.Key.{Key}
use Rattle.spm_key.specs.declared.reply.Reply.{Reply}
use Rattle.spm_cache_core.specs.declared.event.Act.{Act}
use Rattle.spm_cache_core.specs.declared.event.Act.TheVariants.{Ask, Claim, Land, Fail, Cancel, End}
use Rattle.spm_cache_core.specs.declared.event.AskNote.TheVariants as ask
use Rattle.spm_cache_core.specs.declared.event.ClaimNote.TheVariants as claim
use Rattle.spm_cache_core.specs.declared.event.Event.{Event}
use Rattle.spm_cache_core.specs.declared.event.Why.TheVariants.{Link, Memory}

-- what an actor did
abbrev pub event : ℕ → Act → Event
event actor act = record { actor = actor; act = act }

-- the act begins a flight of the key
abbrev pub begins : Key → Act → Bool
begins key (Ask other ask.Fetch) = key_eq other key
begins key (Claim (claim.Fetch other)) = key_eq other key
begins key act = false

-- the act says that a flight of the key failed
abbrev pub fails : Key → Act → Bool
fails key (Fail other why) = key_eq other key
fails key act = false

-- it failed for want of memory
abbrev pub lacks : Key → Act → Bool
lacks key (Fail other Memory) = key_eq other key
lacks key act = false

-- it failed by the link
abbrev pub breaks : Key → Act → Bool
breaks key (Fail other Link) = key_eq other key
breaks key act = false

-- the reply that the act lands for the key
abbrev pub lands : Key → Act → Option Reply
lands key (Land other reply) = if key_eq other key then Some reply else None
lands key act = None

-- the act is an end
abbrev pub is_end : Act → Bool
is_end End = true
is_end act = false

-- the act is a cancel
abbrev pub is_cancel : Act → Bool
is_cancel Cancel = true
is_cancel act = false

-- how many flights of the key were begun
abbrev pub begun : Key → List Event → ℕ
begun key history = count_by (λ e. begins key e.act) history

-- how many flights of the key failed, and how many of them for want of memory and by the link
abbrev pub failed : Key → List Event → ℕ
failed key history = count_by (λ e. fails key e.act) history

-- how many of them failed for want of memory
abbrev pub lacked : Key → List Event → ℕ
lacked key history = count_by (λ e. lacks key e.act) history

-- how many of them failed by the link
abbrev pub broken : Key → List Event → ℕ
broken key history = count_by (λ e. breaks key e.act) history

-- how many replies of the key landed
abbrev pub landings : Key → List Event → ℕ
landings key history = count_by (λ e. is_some (lands key e.act)) history

-- the catalogue with what the act lands
abbrev pub with_landing : Act → Catalogue → Catalogue
with_landing (Land key reply) catalogue = map.insert catalogue key reply
with_landing act catalogue = catalogue

-- what has landed: of each key the first reply
abbrev pub landed : List Event → Catalogue
landed [] = map.empty
landed (e ∷ es) = with_landing e.act (landed es)

-- the key is being fetched: more flights were begun than failed or landed
abbrev pub flies : Key → List Event → Bool
flies key history = nat_lt (failed key history + landings key history) (begun key history)

-- of the last event that begins a flight of the key, its place, counted on from `place`, and its actor; or what was found before
abbrev pub last_begin_from : ℕ → Option (ℕ × ℕ) → Key → List Event → Option (ℕ × ℕ)
last_begin_from place found key [] = found
last_begin_from place found key (e ∷ es) =
    last_begin_from (suc place) (if begins key e.act then Some (place, e.actor) else found) key es

-- the last event that begins a flight of the key: its place and its actor
abbrev pub last_begin : Key → List Event → Option (ℕ × ℕ)
last_begin key history = last_begin_from 0 None key history

-- the key's open flight: the place of the event that began it, which is its number, and who fetches
abbrev pub flight : Key → List Event → Option (ℕ × ℕ)
flight key history = if flies key history then last_begin key history else None

-- who fetches the key
abbrev pub flyer : Key → List Event → Option ℕ
flyer key history = option_map (λ found. found.1) (flight key history)

-- who was the first to cancel
abbrev pub canceller : List Event → Option ℕ
canceller [] = None
canceller (e ∷ es) = if is_cancel e.act then Some e.actor else canceller es

-- the actor has ended
abbrev pub has_ended : ℕ → List Event → Bool
has_ended actor history = list_any (λ e. is_end e.act && e.actor == actor) history

-- the actor has cancelled
abbrev pub has_cancelled : ℕ → List Event → Bool
has_cancelled actor history = list_any (λ e. is_cancel e.act && e.actor == actor) history

-- each session has ended
abbrev pub all_ended : ℕ → List Event → Bool
all_ended zero history = true
all_ended (suc session) history = has_ended session history && all_ended session history
