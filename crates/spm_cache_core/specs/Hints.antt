-- What was hinted: keys that somebody will want.
use Rattle.std.specs.Prelude.{Bool, ◌||◌, List, [], ◌∷◌, ◌++◌, if◌then◌else◌}
use Rattle.std.specs.List.{list_any}
use Rattle.spm_key.specs.KeyLaws.{key_eq}
use Rattle.spm_key.specs.declared.key.Key.{Key}
use Rattle.spm_cache_core.specs.History.{begins}
use Rattle.spm_cache_core.specs.declared.event.Act.{Act}
use Rattle.spm_cache_core.specs.declared.event.Act.TheVariants.{Hint}
use Rattle.spm_cache_core.specs.declared.event.Event.{Event}

-- the keys that the act hints
abbrev pub hints : Act → List Key
hints (Hint keys) = keys
hints act = []

-- one of the keys is this one
abbrev pub is_among_keys : List Key → Key → Bool
is_among_keys keys key = list_any (λ other. key_eq other key) keys

-- a flight of the key was begun
abbrev pub is_begun : Key → List Event → Bool
is_begun key history = list_any (λ e. begins key e.act) history

-- the keys, and behind them those of a hint that aren't among them and weren't begun before
abbrev pub with_hints : List Event → List Key → List Key → List Key
with_hints before keys [] = keys
with_hints before keys (key ∷ others) =
    with_hints before (if is_among_keys keys key || is_begun key before then keys else keys ++ key ∷ []) others

-- the keys, and behind them what the events hint, where `before` came before them
abbrev pub hinted_after : List Event → List Key → List Event → List Key
hinted_after before keys [] = keys
hinted_after before keys (e ∷ es) = hinted_after (before ++ e ∷ []) (with_hints before keys (hints e.act)) es

-- all hinted keys, each at its first place, without those that were begun before that hint
abbrev pub hinted : List Event → List Key
hinted history = hinted_after [] [] history
