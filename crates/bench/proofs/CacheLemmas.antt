-- A session that asks and lands stays one.
use Rattle.std.proofs.Common.{◌≡◌, ◌||◌, ◌&&◌, ◌==◌, ℕ, Bool, false, List, [], ◌∷◌, ◌++◌, length, refl, sym, ap, ◌∙◌, subst}
use Rattle.std.specs.List.{list_any}
use Rattle.std.proofs.lemmas.List.Folds.{list_any-append}
use Rattle.spm_key.specs.declared.key.Key.{Key}
use Rattle.spm_key.specs.declared.reply.Reply.{Reply}
use Rattle.spm_cache_core.specs.Cache.{Cache}
use Rattle.spm_cache_core.specs.Calls.{AskTells, Spends}
use Rattle.spm_cache_core.specs.Flight.{Flight}
use Rattle.spm_cache_core.specs.History.{event, has_ended, is_end}
use Rattle.spm_cache_core.specs.Legal.{IsFlight, IsLegal, IsSession}
use Rattle.spm_cache_core.specs.declared.answer.Asked.{Asked}
use Rattle.spm_cache_core.specs.declared.answer.Asked.TheVariants.{Cancelled, Fetch, Have, Waiting}
use Rattle.spm_cache_core.specs.declared.event.Act.{Act}
use Rattle.spm_cache_core.specs.declared.event.Act.TheVariants.{Ask, Fail, Land}
use Rattle.spm_cache_core.specs.declared.event.AskNote.TheVariants as ask
use Rattle.spm_cache_core.specs.declared.event.Event.{Event}
use Rattle.spm_cache_core.specs.declared.event.Why.{Why}
use Rattle.spm_cache_core.proofs.TicketLemmas.{asked_flies}
use Rattle.bench.specs.Ready.{NoneEnded}

-- an event that is no end ends nobody
goes_on : (history : List Event) (e : Event) (actor : ℕ) → is_end e.act ≡ false → has_ended actor history ≡ false
    → has_ended actor (history ++ e ∷ []) ≡ false
goes_on history e actor isnt goes =
    list_any-append (λ x. is_end x.act && x.actor == actor) history (e ∷ [])
    ∙ (ap (λ b. b || ((is_end e.act && e.actor == actor) || false)) goes ∙ ap (λ b. (b && e.actor == actor) || false) isnt)

-- it leaves the session
still : (sessions : ℕ) (history : List Event) (e : Event) (actor : ℕ) → is_end e.act ≡ false → IsSession sessions history actor
    → IsSession sessions (history ++ e ∷ []) actor
still sessions history e actor isnt session = (session.0, goes_on history e actor isnt session.1)

-- an ask leaves it, whatever is answered
pub asked_session : (asked : Asked) (actor by : ℕ) (key : Key) (old new : Cache) → AskTells asked by key old new
    → IsSession old.sessions old.history actor → IsSession new.sessions new.history actor
asked_session (Cancelled who) actor by key old new tells session =
    subst (λ (c : Cache). IsSession c.sessions c.history actor) (sym tells.1)
    (still old.sessions old.history (event by (Ask key (ask.Cancelled who))) actor refl session)
asked_session (Have reply) actor by key old new tells session =
    subst (λ (c : Cache). IsSession c.sessions c.history actor) (sym tells.1)
    (still old.sessions old.history (event by (Ask key (ask.Have reply))) actor refl session)
asked_session Waiting actor by key old new tells session = subst (λ (c : Cache). IsSession c.sessions c.history actor) (sym tells.1) session
asked_session (Fetch ticket) actor by key old new tells session =
    subst (λ (c : Cache). IsSession c.sessions c.history actor) (sym tells.1)
    (still old.sessions old.history (event by (Ask key ask.Fetch)) actor refl session)

spent_session : (actor : ℕ) (old new : Cache) (e : Event) → is_end e.act ≡ false → Spends old e new
    → IsSession old.sessions old.history actor → IsSession new.sessions new.history actor
spent_session actor old new e isnt spends session =
    subst (λ n. IsSession n new.history actor) (sym spends.sessions)
    (subst (λ h. IsSession old.sessions h actor) (sym spends.history) (still old.sessions old.history e actor isnt session))

-- so does a landing
pub landed_session : (actor by : ℕ) (key : Key) (reply : Reply) (old new : Cache) → Spends old (event by (Land key reply)) new
    → IsSession old.sessions old.history actor → IsSession new.sessions new.history actor
landed_session actor by key reply old new spends session = spent_session actor old new (event by (Land key reply)) refl spends session

-- a ticket that was just given is that of an open flight
pub given_flight : (ticket : Flight) (actor : ℕ) (key : Key) (old new : Cache) → IsLegal old.sessions old.workers old.history
    → AskTells (Fetch ticket) actor key old new → IsFlight new.history ticket
given_flight ticket actor key old new legal tells =
    subst (λ (held : Flight). IsFlight new.history held) (sym tells.2)
    (subst (λ (c : Cache). IsFlight c.history (record { key = key; number = length old.history; actor = actor })) (sym tells.1)
    (asked_flies old.sessions old.workers old.history actor key legal tells.0))

-- an ask ends nobody, whatever is answered
pub asked_open : (asked : Asked) (by : ℕ) (key : Key) (old new : Cache) → AskTells asked by key old new → NoneEnded old → NoneEnded new
asked_open (Cancelled who) by key old new tells none =
    subst NoneEnded (sym tells.1) (λ actor. goes_on old.history (event by (Ask key (ask.Cancelled who))) actor refl (none actor))
asked_open (Have reply) by key old new tells none =
    subst NoneEnded (sym tells.1) (λ actor. goes_on old.history (event by (Ask key (ask.Have reply))) actor refl (none actor))
asked_open Waiting by key old new tells none = subst NoneEnded (sym tells.1) none
asked_open (Fetch ticket) by key old new tells none =
    subst NoneEnded (sym tells.1) (λ actor. goes_on old.history (event by (Ask key ask.Fetch)) actor refl (none actor))

spent_open : (old new : Cache) (e : Event) → is_end e.act ≡ false → Spends old e new → NoneEnded old → NoneEnded new
spent_open old new e isnt spends none actor =
    ap (λ h. has_ended actor h) spends.history ∙ goes_on old.history e actor isnt (none actor)

-- neither does a landing
pub landed_open : (by : ℕ) (key : Key) (reply : Reply) (old new : Cache) → Spends old (event by (Land key reply)) new
    → NoneEnded old → NoneEnded new
landed_open by key reply old new spends none = spent_open old new (event by (Land key reply)) refl spends none

-- nor a flight that fails
pub failed_open : (by : ℕ) (key : Key) (why : Why) (old new : Cache) → Spends old (event by (Fail key why)) new
    → NoneEnded old → NoneEnded new
failed_open by key why old new spends none = spent_open old new (event by (Fail key why)) refl spends none
