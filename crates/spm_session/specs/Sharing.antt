-- A source that shares a cache with others: what it does there, and over its link.
use Rattle.std.specs.FinMap as map
use Rattle.std.specs.Prelude.{◌≡◌, ◌≢◌, ◌⊎◌, ℕ, All, List, [], ◌∷◌, ◌++◌, Some, Result, Ok, Err}
use Rattle.spm_cache_core.specs.History.{canceller, event, landed}
use Rattle.spm_cache_core.specs.Legal.{IsSession}
use Rattle.spm_cache_core.specs.declared.event.Act.{Act}
use Rattle.spm_cache_core.specs.declared.event.Act.TheVariants.{Ask, Cancel, End, Fail, Land}
use Rattle.spm_cache_core.specs.declared.event.AskNote.TheVariants as ask
use Rattle.spm_cache_core.specs.declared.event.Event.{Event}
use Rattle.spm_cache_core.specs.declared.event.Why.TheVariants as why
use Rattle.spm_flight.specs.Work.{Does}
use Rattle.spm_key.specs.declared.key.Key.{Key}
use Rattle.spm_key.specs.declared.reply.Reply.{Reply}
use Rattle.spm_outside.specs.Link.{LinkState}
use Rattle.spm_session.specs.Known.{Known}
use Rattle.spm_session.specs.declared.sharing.Sharing.{Sharing}
use Rattle.spm_session.specs.declared.source.Missed.{Missed}
use Rattle.spm_session.specs.declared.source.Missed.TheVariants as missed

-- no flight failed, and nobody gave up or ended
abbrev pub IsQuietAct : Act → Type 0
IsQuietAct (Fail key reason) = ⊥
IsQuietAct Cancel = ⊥
IsQuietAct End = ⊥
IsQuietAct act = Unit {0}

abbrev pub AreQuiet : List Event → Type 0
AreQuiet events = All (λ (e : Event). IsQuietAct e.act) events

-- the last events of a session that has no reply of a key: its link failed in the flight that it began; it was told that another session gave
-- up; or there was no memory, for the ask, or for the flight that it began
abbrev pub IsMiss : ℕ → Key → Missed → List Event → Type 0
IsMiss actor asked missed.Failed last = last ≡ event actor (Ask asked ask.Fetch) ∷ event actor (Fail asked why.Link) ∷ []
IsMiss actor asked (missed.Cancelled by) last = last ≡ event actor (Ask asked (ask.Cancelled by)) ∷ []
IsMiss actor asked missed.Memory last =
    (last ≡ []) ⊎ (last ≡ event actor (Ask asked ask.Fetch) ∷ event actor (Fail asked why.Memory) ∷ [])

-- who gave up was the first, and another
abbrev pub MissKnows : ℕ → List Event → Missed → Type 0
MissKnows actor seen (missed.Cancelled by) = (canceller seen ≡ Some by) × (by ≢ actor)
MissKnows actor seen other = Unit {0}

-- what has landed is known
abbrev pub landed_by : List Event → Known
landed_by seen asked reply = map.get (landed seen) asked ≡ Some reply

module _ {L G R : Type 0} where
  -- it is of its cache, and a session that has not ended
  pub record IsReady (source : Sharing L G R) : Type 0 where
    pub of : source.pass.now.of ≡ source.run.now.cache.now.id
    pub session : IsSession source.pass.now.sessions source.pass.now.seen source.pass.now.actor

  abbrev pub knows_by : Sharing L G R → Known
  knows_by source = landed_by source.pass.now.seen

  -- all but what its pass has seen and what its link has done stays
  abbrev pub IsSame : Sharing L G R → Sharing L G R → Type 0
  IsSame old new = new ≡ record old { pass = record old.pass { now = new.pass.now }; link = record old.link { now = new.link.now } }

  -- it made these events, over its link
  abbrev pub DoesBy : (L → LinkState) → Sharing L G R → Sharing L G R → List Event → Type 0
  DoesBy state old new added = Does old.run.now.base.now (state old.link.now) (state new.link.now) old.pass.now new.pass.now added

  -- no flight failed, and the session went on
  pub record GoesSharing (state : L → LinkState) (old new : Sharing L G R) : Type 0 where
    pub same : IsSame old new
    pub added : List Event
    pub does : DoesBy state old new added
    pub quiet : AreQuiet added

  -- none failed before the last events
  pub record MissesSharing (state : L → LinkState) (old new : Sharing L G R) (asked : Key) (reason : Missed) : Type 0 where
    pub same : IsSame old new
    pub before : List Event
    pub last : List Event
    pub does : DoesBy state old new (before ++ last)
    pub quiet : AreQuiet before
    pub miss : IsMiss old.pass.now.actor asked reason last
    pub knows : MissKnows new.pass.now.actor new.pass.now.seen reason

  -- a fetch of the key that the session's ask began
  abbrev pub Fetches : (L → LinkState) → Sharing L G R → Sharing L G R → Key → Result Reply Missed → Type 0
  Fetches state old new asked (Ok reply) =
      IsSame old new × DoesBy state old new (event old.pass.now.actor (Land asked reply) ∷ []) × knows_by new asked reply
  Fetches state old new asked (Err missed.Failed) = IsSame old new × DoesBy state old new (event old.pass.now.actor (Fail asked why.Link) ∷ [])
  Fetches state old new asked (Err missed.Memory) = IsSame old new × DoesBy state old new (event old.pass.now.actor (Fail asked why.Memory) ∷ [])
  Fetches state old new asked (Err (missed.Cancelled by)) = ⊥
