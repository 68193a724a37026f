-- The actors of a run, before and after they act.
use Rattle.std.specs.Prelude.{◌≡◌, ℕ, All, Bool, List, [], ◌∷◌, map, Option, Some, None}
use Rattle.std.specs.List.{filter_map, flat_map}
use Rattle.pub_term.specs.declared.cause.Cause.{Cause}
use Rattle.spm_api.specs.declared.base.Base.{Base}
use Rattle.spm_cache.specs.Passing.{Passing}
use Rattle.spm_cache_core.specs.Legal.{IsSession, IsWorker}
use Rattle.spm_cache_core.specs.declared.event.Event.{Event}
use Rattle.spm_flight.specs.Work.{Does}
use Rattle.spm_outside.specs.Link.{LinkState}
use Rattle.spm_session.specs.Archives.{Fingerprints}
use Rattle.spm_session.specs.Outcome.{CanBeTold}
use Rattle.spm_session.specs.Run.{IsEnd, IsInput}
use Rattle.spm_session.specs.Session.{GaveUp, IsSessionWork}
use Rattle.spm_session.specs.Sharing.{landed_by}
use Rattle.spm_session.specs.declared.job.RootJob.{RootJob}
use Rattle.spm_session.specs.declared.outcome.Outcome.{Outcome}
use Rattle.spm_turn.specs.Log.{OthersFollow}
use Rattle.spm_turn.specs.Sitting.{TableId}
use Rattle.spm_worker.specs.Worker.{IsWork}
use Rattle.spm_worker.specs.declared.worker.WorkEnd.{WorkEnd}
use Rattle.spm_run.specs.declared.actor.Actor.{Actor}

-- ---- before

-- a session has a job, and a worker has none
abbrev pub IsCast : Option RootJob → Passing → Type 0
IsCast (Some job) pass = IsSession pass.sessions pass.seen pass.actor × IsInput job.input
IsCast None pass = IsWorker pass.sessions pass.workers pass.actor

module _ {L : Type 0} where
  -- it is of the cache, and has no outcome yet
  pub record IsReadyActor (id : TableId) (actor : Actor L) : Type 0 where
    pub of : actor.pass.of ≡ id
    pub cast : IsCast actor.job actor.pass
    pub unended : actor.outcome ≡ None

  abbrev pub seat : Passing → L → Option RootJob → Actor L
  seat pass link job = record { pass = pass; link = link; job = job; outcome = None }

  -- the actors of these passes and links, in their order: the first of them have the jobs
  abbrev pub seated : List Passing → List L → List RootJob → List (Actor L)
  seated [] links jobs = []
  seated (pass ∷ passes) [] jobs = []
  seated (pass ∷ passes) (link ∷ links) [] = seat pass link None ∷ seated passes links []
  seated (pass ∷ passes) (link ∷ links) (job ∷ jobs) = seat pass link (Some job) ∷ seated passes links jobs

-- ---- after

module _ (same : Cause → Cause → Bool) (fingerprints : Fingerprints) (hints : Bool) where
  -- by its part, these events are what a session or a worker does, and the root came to this over what its session has seen
  abbrev pub Plays : Option RootJob → Option Outcome → Passing → List Event → Type 0
  Plays (Some job) (Some it) pass added =
      IsSessionWork hints pass.actor job.input it added × IsEnd same (landed_by pass.seen) fingerprints job it
      × GaveUp pass.actor pass.seen it × CanBeTold it
  Plays (Some job) None pass added = ⊥
  Plays None (Some it) pass added = ⊥
  Plays None None pass added = (how : WorkEnd) × IsWork pass.actor how added

module _ {L : Type 0} (state : L → LinkState) (same : Cause → Cause → Bool) (base : Base) (fingerprints : Fingerprints) (hints : Bool) where
  -- what an actor did
  pub record Acted (old new : Actor L) : Type 0 where
    pub added : List Event
    pub does : Does base (state old.link) (state new.link) old.pass new.pass added
    pub plays : Plays same fingerprints hints old.job new.outcome new.pass added

  abbrev pub AreActed : List (Actor L) → List (Actor L) → Type 0
  AreActed [] [] = Unit {0}
  AreActed [] (new ∷ news) = ⊥
  AreActed (old ∷ olds) [] = ⊥
  AreActed (old ∷ olds) (new ∷ news) = Acted old new × AreActed olds news

-- ---- what comes back

module _ {L : Type 0} where
  abbrev pub passes_of : List (Actor L) → List Passing
  passes_of actors = map (λ (actor : Actor L). actor.pass) actors

  abbrev pub links_of : List (Actor L) → List L
  links_of actors = map (λ (actor : Actor L). actor.link) actors

  -- the outcomes of those that are sessions
  abbrev pub outcomes_of : List (Actor L) → List Outcome
  outcomes_of actors = filter_map (λ (actor : Actor L). actor.outcome) actors

  -- each is of the cache
  abbrev pub AreOf : TableId → List (Actor L) → Type 0
  AreOf id actors = All (λ (actor : Actor L). actor.pass.of ≡ id) actors

-- what each pass had seen is a beginning of the history, behind which only others acted
abbrev pub AreFollowed : List Passing → List Event → Type 0
AreFollowed [] history = Unit {0}
AreFollowed (pass ∷ passes) history = OthersFollow (λ (e : Event). e.actor) pass.numbers pass.seen history × AreFollowed passes history

-- passes that met in one, which has the numbers of all
pub record AreMet (passes : List Passing) (whole : Passing) : Type 0 where
  pub numbers : whole.numbers ≡ flat_map (λ (pass : Passing). pass.numbers) passes
  pub followed : AreFollowed passes whole.seen
  -- the first of them is of the same terms
  pub terms : (sessions workers : ℕ) → All (λ (pass : Passing). (pass.sessions ≡ sessions) × (pass.workers ≡ workers)) passes
      → (whole.sessions ≡ sessions) × (whole.workers ≡ workers)

-- none yet, or those that met in one
abbrev pub AreMetIn : List Passing → Option Passing → Type 0
AreMetIn passes None = passes ≡ []
AreMetIn passes (Some whole) = AreMet passes whole
