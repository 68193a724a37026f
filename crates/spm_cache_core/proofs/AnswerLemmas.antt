-- What the state's parts tell of the answers.
use Rattle.std.proofs.Common.{◌≡◌, ◌≢◌, ℕ, ◌+◌, ◌*◌, ◌<◌, ◌≤◌, Bool, true, false, cond, ◌==◌, List, [], ◌∷◌, length, take, Option, Some, None, sym, refl, ap, ap₂, ◌∙◌, subst, arith}
use Rattle.std.specs.FinMap as map
use Rattle.std.specs.List.{list_all, slice_get}
use Rattle.std.specs.Prelude.{IfSome, IsSome}
use Rattle.spm_cell.specs.Cell.{IsFlying}
use Rattle.spm_cell.specs.declared.cell.Cell.{Cell}
use Rattle.spm_cell.specs.declared.cell.Cell.TheVariants.{Flying, Idle, Ready}
use Rattle.spm_key.specs.declared.key.Key.{Key}
use Rattle.spm_key.specs.declared.reply.Reply.{Reply}
use Rattle.spm_cache_core.specs.Answers.{AskAnswer, ClaimAnswer, ask_answer, claim_answer, claimed_key, first_unbegun, found_answer, unless_cancelled}
use Rattle.spm_cache_core.specs.Answers as answer
use Rattle.spm_cache_core.specs.Cache.{Cache}
use Rattle.spm_cache_core.specs.Cells.{was_begun}
use Rattle.spm_cache_core.specs.Flight.{Flight}
use Rattle.spm_cache_core.specs.Hints.{hinted, is_begun}
use Rattle.spm_cache_core.specs.History.{all_ended, canceller, flies, flyer, landed}
use Rattle.spm_cache_core.specs.Legal.{IsAllowed, IsFlight}
use Rattle.spm_cache_core.specs.State.{IsBeginning, IsCell, IsState, Parts, reply_in}
use Rattle.spm_cache_core.specs.declared.event.Act.{Act}
use Rattle.spm_cache_core.specs.declared.event.Act.TheVariants.{Ask, Claim}
use Rattle.spm_cache_core.specs.declared.event.AskNote.TheVariants as ask
use Rattle.spm_cache_core.specs.declared.event.ClaimNote.TheVariants as claim
use Rattle.spm_cache_core.specs.declared.event.Event.{Event}
use Rattle.spm_cache_core.proofs.CellLemmas.{begun_cell, few_fails, flyer-flight, flying_cell, idle_rests, open_flies}
use Rattle.spm_cache_core.proofs.HintLemmas.{all_weaker, first-hinted, first_at, first_none_at}
use Rattle.spm_cache_core.proofs.KeyLemmas.{not_both}
use Rattle.spm_cache_core.proofs.StateLemmas.{kept_room, none_running, owes_open, some_running}

-- ---- asks

-- where somebody else has cancelled first
pub asks_cancelled : (history : List Event) (actor by : ℕ) (key : Key) → canceller history ≡ Some by → by ≢ actor
    → ask_answer history actor key ≡ answer.Cancelled by
asks_cancelled history actor by key is other =
    ap (λ who. unless_cancelled who actor found) is ∙ ap (λ b. cond b found (answer.Cancelled by)) (apart (by == actor) refl)
  where
    found : AskAnswer
    found = found_answer (map.get (landed history) key) (flies key history)

    apart : (same : Bool) → (by == actor) ≡ same → same ≡ false
    apart true is' = absurd (other (grind (arith, is')))
    apart false is' = refl

-- the same, by who cancelled first
goes_step : (who : Option ℕ) (actor : ℕ) (found : AskAnswer) → ((by : ℕ) → who ≡ Some by → by ≡ actor)
    → unless_cancelled who actor found ≡ found
goes_step None actor found mine = refl
goes_step (Some by) actor found mine = ap (λ b. cond b found (answer.Cancelled by)) (own (by == actor) refl)
  where
    own : (same : Bool) → (by == actor) ≡ same → same ≡ true
    own true is = refl
    own false is = let same : by ≡ actor = mine by refl in absurd (grind (arith, is, same))

-- where nobody else has
goes_on : (history : List Event) (actor : ℕ) (key : Key) → ((by : ℕ) → canceller history ≡ Some by → by ≡ actor)
    → ask_answer history actor key ≡ found_answer (map.get (landed history) key) (flies key history)
goes_on history actor key mine = goes_step (canceller history) actor _ mine

-- what the cell of the key tells an asker, where nobody else has cancelled
pub asks_idle : (history : List Event) (actor : ℕ) (key : Key) (cell : Cell) (fails : ℕ)
    → ((by : ℕ) → canceller history ≡ Some by → by ≡ actor)
    → IsCell key history cell → cell ≡ Idle fails → ask_answer history actor key ≡ answer.Fetch
asks_idle history actor key cell fails mine is idle =
    let it = subst (IsCell key history) idle is in
    goes_on history actor key mine ∙ ap₂ found_answer it.not_landed (idle_rests key history fails it)

-- an asker waits where the key flies
pub asks_flying : (history : List Event) (actor : ℕ) (key : Key) (cell : Cell) (number by fails : ℕ)
    → ((by' : ℕ) → canceller history ≡ Some by' → by' ≡ actor)
    → IsCell key history cell → cell ≡ Flying number by fails → ask_answer history actor key ≡ answer.Waiting
asks_flying history actor key cell number by fails mine is flying =
    let it = subst (IsCell key history) flying is in
    goes_on history actor key mine ∙ ap₂ found_answer it.not_landed (open_flies key history number by fails it)

-- an asker has what landed
pub asks_ready : (history : List Event) (actor : ℕ) (key : Key) (cell : Cell) (place : ℕ) (reply : Reply)
    → ((by : ℕ) → canceller history ≡ Some by → by ≡ actor)
    → IsCell key history cell → cell ≡ Ready place → reply_in (slice_get history place) ≡ Some reply
    → ask_answer history actor key ≡ answer.Have reply
asks_ready history actor key cell place reply mine is ready landed_ =
    let it = subst (IsCell key history) ready is in
    let same : Some it.reply ≡ Some reply = sym (ap reply_in it.there) ∙ landed_ in
    goes_on history actor key mine ∙ ap (λ found. found_answer found (flies key history)) (it.has_landed ∙ same)

-- the same, where the state's cell of the key is idle
pub asked_idle : (cache old : Cache) (parts : Parts) (actor : ℕ) (key noted : Key) (fails : ℕ) → IsState cache parts
    → cache ≡ old → noted ≡ key
    → parts.cells key ≡ Idle fails → ((by : ℕ) → canceller old.history ≡ Some by → by ≡ actor)
    → ask_answer old.history actor noted ≡ answer.Fetch
asked_idle cache old parts actor key noted fails is same copy idle mine =
    let here = ap (λ (s : Cache). s.history) same in
    ap₂ (λ h k. ask_answer h actor k) (sym here) copy
    ∙ asks_idle cache.history actor key (parts.cells key) fails
    (λ by who. mine by (ap canceller (sym here) ∙ who)) (is.of_cells key) idle

-- there is a reply at the place of a cell that is ready
pub ready_there : (history : List Event) (key : Key) (cell : Cell) (place : ℕ) → IsCell key history cell → cell ≡ Ready place
    → IsSome (reply_in (slice_get history place))
ready_there history key cell place is ready =
    let it = subst (IsCell key history) ready is in subst IsSome (sym (ap reply_in it.there)) refl

-- ---- claims

-- keys of cells that were begun were begun
pub passed_begun : (cache : Cache) (parts : Parts) (keys : List Key) → IsState cache parts
    → list_all (λ key. was_begun (parts.cells key)) keys ≡ true
    → list_all (λ key. is_begun key cache.history) keys ≡ true
passed_begun cache parts keys is all =
    all_weaker _ _ keys (λ key was. begun_cell key cache.history (parts.cells key) (is.of_cells key) ∙ was) all

-- and the other way
pub begun_passed : (cache : Cache) (parts : Parts) → IsState cache parts
    → list_all (λ key. was_begun (parts.cells key)) (take parts.next parts.queue) ≡ true
begun_passed cache parts is =
    all_weaker _ _ (take parts.next parts.queue)
    (λ key was. sym (begun_cell key cache.history (parts.cells key) (is.of_cells key)) ∙ was) is.passed

-- the first key of the queue that was never begun, by what stands at its place
free_step : (cache : Cache) (parts : Parts) (place : ℕ) (found : Option Key) → IsState cache parts
    → list_all (λ k. was_begun (parts.cells k)) (take place parts.queue) ≡ true → slice_get parts.queue place ≡ found
    → IfSome found (λ key. was_begun (parts.cells key) ≡ false) → first_unbegun cache.history parts.queue ≡ claimed_key found
free_step cache parts place None is all at never =
    first_none_at cache.history parts.queue place (passed_begun cache parts _ is all) at
free_step cache parts place (Some key) is all at never =
    first_at cache.history parts.queue place key (passed_begun cache parts _ is all) at
    (begun_cell key cache.history (parts.cells key) (is.of_cells key) ∙ never)

-- the first key of the queue that was never begun is the first of the hinted keys
pub free_first : (cache old : Cache) (parts : Parts) (place : ℕ) (found : Option Key) → IsState cache parts → cache ≡ old
    → list_all (λ k. was_begun (parts.cells k)) (take place parts.queue) ≡ true → slice_get parts.queue place ≡ found
    → IfSome found (λ key. was_begun (parts.cells key) ≡ false)
    → first_unbegun old.history (hinted old.history) ≡ claimed_key found
free_first cache old parts place found is same all at never =
    subst (λ (s : Cache). first_unbegun s.history (hinted s.history) ≡ claimed_key found) same
    (first-hinted cache.history ∙ ap (first_unbegun cache.history) (sym is.of_queue)
    ∙ free_step cache parts place found is all at never)

-- whether every session has ended
pub ended_running : (cache old : Cache) (parts : Parts) → IsState cache parts → cache ≡ old
    → (parts.running == 0) ≡ all_ended old.sessions old.history
ended_running cache old parts is same =
    ended_by (parts.running == 0) refl ∙ ap (λ (s : Cache). all_ended s.sessions s.history) same
  where
    ended_by : (none : Bool) → (parts.running == 0) ≡ none → none ≡ all_ended cache.sessions cache.history
    ended_by true is' = let zero_ : parts.running ≡ 0 =
        grind (arith, is') in sym (none_running cache.sessions cache.history (sym is.of_running ∙ zero_))
    ended_by false is' = sym (some_running cache.sessions cache.history
        (λ none. let zero_ : parts.running ≡ 0 = is.of_running ∙ none in absurd (grind (arith, is', zero_))))

-- the state with another place in the queue
pub state_passed : (cache : Cache) (parts : Parts) (place : ℕ) → IsState cache parts → place ≤ length parts.queue
    → list_all (λ k. was_begun (parts.cells k)) (take place parts.queue) ≡ true → IsState cache (record parts { next = place })
state_passed cache parts place is within all = record {
  legal = is.legal;
  some_sessions = is.some_sessions;
  few_sessions = is.few_sessions;
  few_workers = is.few_workers;
  of_cells = is.of_cells;
  of_queue = is.of_queue;
  of_next = within;
  passed = passed_begun cache parts _ is all;
  of_stopper = is.of_stopper;
  of_running = is.of_running;
  spares = is.spares;
  room = is.room;
}

-- ---- flights

-- the same, by who cancelled first
fetch_step : (who : Option ℕ) (actor : ℕ) (found : Option Reply) (flying : Bool)
    → unless_cancelled who actor (found_answer found flying) ≡ answer.Fetch
    → (found ≡ None) × (flying ≡ false)
fetch_step None actor None true is = absurd (cc)
fetch_step None actor None false is = (refl, refl)
fetch_step None actor (Some reply) flying is = absurd (cc)
fetch_step (Some by) actor found flying is = by_owner (by == actor) found flying is
  where
    by_owner : (own : Bool) (found' : Option Reply) (flying' : Bool)
        → cond own (found_answer found' flying') (answer.Cancelled by) ≡ answer.Fetch
        → (found' ≡ None) × (flying' ≡ false)
    by_owner true None true is' = absurd (cc)
    by_owner true None false is' = (refl, refl)
    by_owner true (Some reply) flying' is' = absurd (cc)
    by_owner false found' flying' is' = absurd (cc)

-- a key that is answered Fetch hasn't landed and doesn't fly
pub fetch_asked : (history : List Event) (actor : ℕ) (key : Key) → ask_answer history actor key ≡ answer.Fetch
    → (map.get (landed history) key ≡ None) × (flies key history ≡ false)
fetch_asked history actor key is = fetch_step (canceller history) actor (map.get (landed history) key) (flies key history) is

-- the same, for one key more
unbegun_step : (history : List Event) (k key : Key) (was : Bool) (rest : ClaimAnswer) → is_begun k history ≡ was
    → cond was rest (answer.Fetch k) ≡ answer.Fetch key
    → (rest ≡ answer.Fetch key → is_begun key history ≡ false) → is_begun key history ≡ false
unbegun_step history k key true rest was is later = later is
unbegun_step history k key false rest was is later = ap (λ z. is_begun z history) (sym (ap (λ a. key_in a k) is)) ∙ was
  where
    key_in : ClaimAnswer → Key → Key
    key_in answer.Closed other = other
    key_in answer.Nothing other = other
    key_in (answer.Fetch this) other = this

-- a first key that was never begun was never begun
unbegun_first : (history : List Event) (keys : List Key) (key : Key) → first_unbegun history keys ≡ answer.Fetch key
    → is_begun key history ≡ false
unbegun_first history [] key is = absurd (cc)
unbegun_first history (k ∷ ks) key is =
    unbegun_step history k key (is_begun k history) (first_unbegun history ks) refl is (unbegun_first history ks key)

-- a claim that is answered Fetch is not answered Closed
closed_step : (all : Bool) (rest : ClaimAnswer) (key : Key) → cond all answer.Closed rest ≡ answer.Fetch key
    → rest ≡ answer.Fetch key
closed_step true rest key is = absurd (cc)
closed_step false rest key is = is

-- a key that is claimed was never begun
pub fetch_claimed : (sessions : ℕ) (history : List Event) (key : Key) → claim_answer sessions history ≡ answer.Fetch key
    → is_begun key history ≡ false
fetch_claimed sessions history key is =
    unbegun_first history (hinted history) key (closed_step (all_ended sessions history) (first_unbegun history (hinted history)) key is)

-- a key that neither flies nor has landed is idle
pub idle_asked : (history : List Event) (key : Key) (cell : Cell) → IsCell key history cell → map.get (landed history) key ≡ None
    → flies key history ≡ false
    → (fails : ℕ) × (cell ≡ Idle fails)
idle_asked history key (Idle fails) is none rests = (fails, refl)
idle_asked history key (Flying number by fails) is none rests =
    not_both (flies key history) (open_flies key history number by fails is) rests
idle_asked history key (Ready place) is none rests = let wrong : None ≡ Some is.reply = sym none ∙ is.has_landed in absurd (cc)

-- a key that was never begun is idle
pub idle_claimed : (cell : Cell) → was_begun cell ≡ false → (fails : ℕ) × (cell ≡ Idle fails)
idle_claimed (Idle fails) never = (fails, refl)
idle_claimed (Flying number by fails) never = not_both true refl never
idle_claimed (Ready place) never = not_both true refl never

-- before a flight of it is begun, a key is idle
pub idle_before : (sessions workers : ℕ) (history : List Event) (key : Key) (cell : Cell) (actor : ℕ) (act : Act)
    → IsAllowed sessions workers history actor act → IsBeginning key act → IsCell key history cell
    → (fails : ℕ) × (cell ≡ Idle fails)
idle_before sessions workers history key cell actor (Ask other ask.Fetch) may begins is =
    let found = fetch_asked history actor key (ap (ask_answer history actor) (sym begins)
    ∙ may.1) in idle_asked history key cell is found.0 found.1
idle_before sessions workers history key cell actor (Claim (claim.Fetch other)) may begins is =
    idle_claimed cell (sym (begun_cell key history cell is) ∙ ap (λ k. is_begun k history) (sym begins)
    ∙ fetch_claimed sessions history other may.1)
idle_before sessions workers history key cell actor act may begins is = absurd begins

-- what a ticket tells of its key's cell and of the room
pub record Ticketed (cache : Cache) (parts : Parts) (ticket : Flight) : Type 0 where
  pub fails : ℕ
  pub flying : parts.cells ticket.key ≡ Flying ticket.number ticket.actor fails
  pub few : 2 * fails + 1 ≤ length cache.history
  pub some : 1 ≤ cache.spare
  pub room : length cache.history < parts.capacity
  pub flies : flyer ticket.key cache.history ≡ Some ticket.actor

-- a ticket tells so
pub ticketed : (cache old : Cache) (parts : Parts) (ticket held : Flight) → IsState cache parts → cache ≡ old → ticket ≡ held
    → IsFlight old.history held
    → Ticketed cache parts ticket
ticketed cache old parts ticket held is same one flight_ =
    let here : IsFlight cache.history ticket = subst (λ (p : Cache × Flight). IsFlight p.0.history p.1)
    (λ i. (sym same i, sym one i)) flight_ in
    let found = flying_cell ticket.key cache.history (parts.cells ticket.key) ticket.number ticket.actor (is.of_cells ticket.key) here in
    let it = subst (IsCell ticket.key cache.history) found.1 (is.of_cells ticket.key) in
    let room = kept_room cache parts is (owes_open cache.sessions ticket.key cache.history ticket.number ticket.actor found.0 it) in
    record { fails = found.0; flying = found.1; few = few_fails ticket.key cache.history ticket.number ticket.actor found.0 it; some = room.0; room = room.1; flies = flyer-flight ticket.key cache.history ticket.number ticket.actor here }

-- a cell that flies
pub is_flying : (cell : Cell) (number by fails : ℕ) → cell ≡ Flying number by fails → IsFlying cell
is_flying cell number by fails is = subst IsFlying (sym is) tt
