-- The run of all roots over one cache: the one history, what each session and each worker did in it and over its link, and what each root
-- came to over what landed.
use Rattle.std.specs.Prelude.{◌≡◌, ℕ, zero, suc, ◌+◌, nat_lt, Bool, List, [], ◌∷◌, Some, drop, length, take}
use Rattle.std.specs.FinMap as replies
use Rattle.pub_facts.specs.Catalogue.{Job}
use Rattle.pub_plain.specs.Choosing.{Pins}
use Rattle.pub_term.specs.declared.cause.Cause.{Cause}
use Rattle.spm_api.specs.declared.base.Base.{Base}
use Rattle.spm_cache_core.specs.Cache.{Cache}
use Rattle.spm_cache_core.specs.Legal.{IsLegal}
use Rattle.spm_cache_core.specs.declared.event.Event.{Event}
use Rattle.spm_flight.specs.Work.{Works}
use Rattle.spm_key.specs.Catalogue.{Catalogue}
use Rattle.spm_outside.specs.Link.{LinkState}
use Rattle.spm_session.specs.Archives.{Fingerprints}
use Rattle.spm_session.specs.Outcome.{CanBeTold, IsReadyOutcome}
use Rattle.spm_session.specs.Run.{IsEnd, IsUnfetched}
use Rattle.spm_session.specs.Session.{IsSessionWork}
use Rattle.spm_session.specs.Sharing.{landed_by}
use Rattle.spm_session.specs.declared.job.RootInput.{RootInput}
use Rattle.spm_session.specs.declared.job.RootInput.TheVariants as input
use Rattle.spm_session.specs.declared.job.RootJob.{RootJob}
use Rattle.spm_session.specs.declared.outcome.Outcome.{Outcome}
use Rattle.spm_session.specs.declared.outcome.Outcome.TheVariants as outcome
use Rattle.spm_turn.specs.Log.{AreMarkedBelow, of_numbers}
use Rattle.spm_worker.specs.Worker.{IsWork}
use Rattle.spm_worker.specs.declared.worker.WorkEnd.{WorkEnd}

-- the events of one actor
abbrev pub acts_of : ℕ → List Event → List Event
acts_of actor history = of_numbers (λ (e : Event). e.actor) (actor ∷ []) history

-- no other session gave up
abbrev pub IsNotCancelled : Outcome → Type 0
IsNotCancelled (outcome.Cancelled by) = ⊥
IsNotCancelled other = Unit {0}

-- what is fixed for all of a run's actors, and the history that they left: which causes are equal, the registry, the fingerprints that are
-- kept, and whether the sessions hint
pub record Setting : Type 0 where
  pub same : Cause → Cause → Bool
  pub base : Base
  pub fingerprints : Fingerprints
  pub hints : Bool
  pub history : List Event

-- the sessions hint where there is a worker
abbrev pub setting_of : (Cause → Cause → Bool) → Base → Fingerprints → ℕ → List Event → Setting
setting_of same base fingerprints workers history =
    record { same = same; base = base; fingerprints = fingerprints; hints = nat_lt 0 workers; history = history }

-- a session, and its root's job and outcome: its events are what a session does, they left this of its link, and the outcome is that over
-- what has landed
pub record IsSessionOf (setting : Setting) (actor : ℕ) (job : RootJob) (it : Outcome) (old new : LinkState) : Type 0 where
  pub works : Works setting.base (acts_of actor setting.history) old new
  pub session : IsSessionWork setting.hints actor job.input it (acts_of actor setting.history)
  pub end : IsEnd setting.same (landed_by setting.history) setting.fingerprints job it
  pub told : CanBeTold it
  pub uncancelled : IsNotCancelled it

-- a worker: its events are what a worker does, and they left this of its link
pub record IsWorkerOf (setting : Setting) (actor : ℕ) (old new : LinkState) : Type 0 where
  pub works : Works setting.base (acts_of actor setting.history) old new
  pub how : WorkEnd
  pub worker : IsWork actor how (acts_of actor setting.history)

module _ {L : Type 0} (state : L → LinkState) (setting : Setting) where
  -- the sessions, from the actor of this number on: one for each job, over the links in their order; the links behind them stay as they are
  abbrev pub AreSessions : ℕ → List RootJob → List Outcome → List L → List L → Type 0
  AreSessions actor [] [] old new = new ≡ old
  AreSessions actor [] (it ∷ its) old new = ⊥
  AreSessions actor (job ∷ jobs) [] old new = ⊥
  AreSessions actor (job ∷ jobs) (it ∷ its) [] new = ⊥
  AreSessions actor (job ∷ jobs) (it ∷ its) (link ∷ old) [] = ⊥
  AreSessions actor (job ∷ jobs) (it ∷ its) (link ∷ old) (then ∷ new) =
      IsSessionOf setting actor job it (state link) (state then) × AreSessions (suc actor) jobs its old new

  -- so many workers, from the actor of this number on, over the links in their order; the links behind them stay as they are
  abbrev pub AreWorkers : ℕ → ℕ → List L → List L → Type 0
  AreWorkers actor zero old new = new ≡ old
  AreWorkers actor (suc count) [] new = ⊥
  AreWorkers actor (suc count) (link ∷ old) [] = ⊥
  AreWorkers actor (suc count) (link ∷ old) (then ∷ new) =
      IsWorkerOf setting actor (state link) (state then) × AreWorkers (suc actor) count old new

-- what a ready job comes to over a catalogue, unless its link failed at a key that is demanded, or memory wasn't there
abbrev pub ReadyComes : (Cause → Cause → Bool) → Catalogue → Fingerprints → Job → Pins → Outcome → Type 0
ReadyComes same c fingerprints job pins outcome.Memory = Unit {0}
ReadyComes same c fingerprints job pins (outcome.FetchFault asked) =
    IsUnfetched (λ key reply. replies.get c key ≡ Some reply) job fingerprints pins asked
ReadyComes same c fingerprints job pins it = IsReadyOutcome same job fingerprints pins c it

-- what a job comes to over a catalogue
abbrev pub InputComes : (Cause → Cause → Bool) → Catalogue → Fingerprints → RootJob → RootInput → Outcome → Type 0
InputComes same c fingerprints job (input.Refused refusal) it = it ≡ refusal
InputComes same c fingerprints job (input.Ready manifest origin pins) it =
    ReadyComes same c fingerprints (record { root = manifest; asked = job.asked; tools = job.tools }) pins it

abbrev pub ComesTo : (Cause → Cause → Bool) → Catalogue → Fingerprints → RootJob → Outcome → Type 0
ComesTo same c fingerprints job it = InputComes same c fingerprints job job.input it

-- a run over the links that it uses, those of the sessions and behind them those of the workers
pub record IsUsedRun {L : Type 0} (state : L → LinkState) (setting : Setting) (workers : ℕ) (jobs : List RootJob) (old new : List L)
    (outcomes : List Outcome) (cache : Cache) : Type 0 where
  pub history : cache.history ≡ setting.history
  pub roots : cache.sessions ≡ length jobs
  pub helpers : cache.workers ≡ workers
  pub legal : IsLegal (length jobs) workers setting.history
  -- no event is of anybody else
  pub actors : AreMarkedBelow (λ (e : Event). e.actor) (length jobs + workers) setting.history
  pub sessions : AreSessions state setting 0 jobs outcomes (take (length jobs) old) (take (length jobs) new)
  pub crew : AreWorkers state setting (length jobs) workers (drop (length jobs) old) (drop (length jobs) new)

-- a run: session i has the link i, worker j the link 64 + j; the sessions hint where there is a worker
pub record IsRunOf {L : Type 0} (state : L → LinkState) (same : Cause → Cause → Bool) (base : Base) (fingerprints : Fingerprints) (workers : ℕ)
    (jobs : List RootJob) (old new : List L) (outcomes : List Outcome) (cache : Cache) : Type 0 where
  pub roots : cache.sessions ≡ length jobs
  pub helpers : cache.workers ≡ workers
  pub legal : IsLegal (length jobs) workers cache.history
  -- no event is of anybody else
  pub actors : AreMarkedBelow (λ (e : Event). e.actor) (length jobs + workers) cache.history
  pub sessions : AreSessions state (setting_of same base fingerprints workers cache.history) 0 jobs outcomes (take 64 old) (take 64 new)
  pub crew : AreWorkers state (setting_of same base fingerprints workers cache.history) (length jobs) workers (drop 64 old) (drop 64 new)
