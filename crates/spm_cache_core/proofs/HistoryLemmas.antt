-- What an event behind a history adds to what the history says.
use Rattle.std.proofs.Common.{◌≡◌, ℕ, zero, suc, ◌+◌, Bool, true, false, cond, ◌||◌, List, [], ◌∷◌, ◌++◌, length, Option, Some, None, sym, refl, ap, ◌∙◌, arith}
use Rattle.std.specs.FinMap as map
use Rattle.std.specs.List.{count_by, list_any, slice_get}
use Rattle.std.proofs.lemmas.List.Sums.{sum_by-append}
use Rattle.std.proofs.lemmas.List.Folds.{list_any-append}
use Rattle.spm_key.specs.Catalogue.{Catalogue}
use Rattle.spm_key.specs.KeyLaws.{key_cmp, key_eq, key_total}
use Rattle.spm_key.specs.declared.key.Key.{Key}
use Rattle.spm_key.specs.declared.reply.Reply.{Reply}
use Rattle.spm_cache_core.specs.History.{begins, canceller, is_cancel, landed, lands, last_begin, last_begin_from, with_landing}
use Rattle.spm_cache_core.specs.State.{flights, flights_after, flights_from}
use Rattle.spm_cache_core.specs.declared.event.Act.{Act}
use Rattle.spm_cache_core.specs.declared.event.Act.TheVariants.{Land}
use Rattle.spm_cache_core.specs.declared.event.Event.{Event}
use Rattle.spm_cache_core.proofs.KeyLemmas.{key_order}

-- the first of two, if there is one
abbrev pub first : {A : Type 0} → Option A → Option A → Option A
first None other = other
first (Some x) other = Some x

-- the first of one and none
pub first_none : {A : Type 0} (one : Option A) → first one None ≡ one
first_none None = refl
first_none (Some x) = refl

-- the first of three
pub first_assoc : {A : Type 0} (x y z : Option A) → first x (first y z) ≡ first (first x y) z
first_assoc None y z = refl
first_assoc (Some x) y z = refl

-- a count of one event more
pub count-snoc : (test : Event → Bool) (history : List Event) (e : Event)
    → count_by test (history ++ e ∷ []) ≡ count_by test history + cond (test e) 1 0
count-snoc test history e = let both = sum_by-append (λ x. cond (test x) 1 0) history (e ∷ []) in omega (arith, both)

-- a test of one event more
pub any-snoc : (test : Event → Bool) (history : List Event) (e : Event)
    → list_any test (history ++ e ∷ []) ≡ (list_any test history || (test e || false))
any-snoc test history e = list_any-append test history (e ∷ [])

-- a choice, as the first of two
cond_first : (same : Bool) (reply : Reply) (rest : Option Reply)
    → cond same (Some reply) rest ≡ first (cond same (Some reply) None) rest
cond_first true reply rest = refl
cond_first false reply rest = refl

-- what an act lands is found before what the catalogue has
pub get-with_landing : (key : Key) (act : Act) (catalogue : Catalogue)
    → map.get (with_landing act catalogue) key ≡ first (lands key act) (map.get catalogue key)
get-with_landing key (Land other reply) catalogue =
    map.get-insert key_total catalogue other reply key
    ∙ ap (λ same. cond same (Some reply) (map.get catalogue key)) (key_order key other)
    ∙ cond_first (key_eq other key) reply (map.get catalogue key)
get-with_landing key act catalogue = refl

-- what has landed of two histories, one behind the other
pub landed-append : (key : Key) (history more : List Event)
    → map.get (landed (history ++ more)) key ≡ first (map.get (landed history) key) (map.get (landed more) key)
landed-append key [] more = ap (λ none. first none (map.get (landed more) key)) (sym (map.get-empty key_cmp key))
landed-append key (e ∷ es) more =
    get-with_landing key e.act (landed (es ++ more))
    ∙ ap (first (lands key e.act)) (landed-append key es more)
    ∙ first_assoc (lands key e.act) (map.get (landed es) key) (map.get (landed more) key)
    ∙ ap (λ found. first found (map.get (landed more) key)) (sym (get-with_landing key e.act (landed es)))

-- what one event lands
pub landed-snoc : (key : Key) (history : List Event) (e : Event)
    → map.get (landed (history ++ e ∷ [])) key ≡ first (map.get (landed history) key) (lands key e.act)
landed-snoc key history e =
    landed-append key history (e ∷ [])
    ∙ ap (first (map.get (landed history) key))
    (get-with_landing key e.act map.empty ∙ ap (first (lands key e.act)) (map.get-empty key_cmp key)
    ∙ first_none (lands key e.act))

-- the last begin of two histories, one behind the other
last_from-append : (place : ℕ) (found : Option (ℕ × ℕ)) (key : Key) (history more : List Event) (place' : ℕ)
    → place' ≡ place + length history
    → last_begin_from place found key (history ++ more)
    ≡ last_begin_from place' (last_begin_from place found key history) key more
last_from-append place found key [] more place' is =
    ap (λ z. last_begin_from z found key more) (sym (let same : place' ≡ place = omega arith in same))
last_from-append place found key (e ∷ es) more place' is =
    last_from-append (suc place) (cond (begins key e.act) (Some (place, e.actor)) found) key es more place' (omega arith)

-- the last event that begins a flight
pub last_begin-snoc : (key : Key) (history : List Event) (e : Event)
    → last_begin key (history ++ e ∷ []) ≡ cond (begins key e.act) (Some (length history, e.actor)) (last_begin key history)
last_begin-snoc key history e = last_from-append 0 None key history (e ∷ []) (length history) (omega arith)

-- of one event more, what was last begun stays where it begins nothing
pub flights-append : (keys : List Key) (history more : List Event)
    → flights_from keys (history ++ more) ≡ flights_from (flights_from keys history) more
flights-append keys [] more = refl
flights-append keys (e ∷ es) more = flights-append (flights_after keys e.act) es more

-- the keys that fly after one event more
pub flights-snoc : (history : List Event) (e : Event) → flights (history ++ e ∷ []) ≡ flights_after (flights history) e.act
flights-snoc history e = flights-append [] history (e ∷ [])

-- the same, for one event more
canceller_step : (is : Bool) (actor : ℕ) (here there both : Option ℕ) → both ≡ first here there
    → cond is (Some actor) both ≡ first (cond is (Some actor) here) there
canceller_step true actor here there both rest = refl
canceller_step false actor here there both rest = rest

-- who cancelled first in two histories, one behind the other
pub canceller-append : (history more : List Event) → canceller (history ++ more) ≡ first (canceller history) (canceller more)
canceller-append [] more = refl
canceller-append (e ∷ es) more =
    canceller_step (is_cancel e.act) e.actor (canceller es) (canceller more) _ (canceller-append es more)

-- what stands in a history stays in a longer one
pub get-kept : (history more : List Event) (place : ℕ) (e : Event) → slice_get history place ≡ Some e
    → slice_get (history ++ more) place ≡ Some e
get-kept [] more place e is = absurd (cc)
get-kept (x ∷ xs) more zero e is = is
get-kept (x ∷ xs) more (suc place) e is = get-kept xs more place e is

-- the event behind a history stands at its length
pub get-snoc : (history : List Event) (e : Event) → slice_get (history ++ e ∷ []) (length history) ≡ Some e
get-snoc [] e = refl
get-snoc (x ∷ xs) e = get-snoc xs e
