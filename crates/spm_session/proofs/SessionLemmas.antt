-- What a session does, from its opening to its end.
use Rattle.std.proofs.Common.{◌≡◌, ℕ, Bool, List, [], ◌∷◌, ◌++◌, Some, refl, sym, ap, ◌∙◌, subst, inl, inr, append_assoc, append-nil}
use Rattle.std.proofs.lemmas.List.Elements.{All-nil}
use Rattle.pub_term.specs.declared.cause.Cause.{Cause}
use Rattle.spm_api.specs.declared.base.Base.{Base}
use Rattle.spm_cache.specs.Passing.{Passing}
use Rattle.spm_cache_core.specs.History.{canceller, event}
use Rattle.spm_cache_core.specs.declared.event.Act.TheVariants.{End}
use Rattle.spm_cache_core.specs.declared.event.Event.{Event}
use Rattle.spm_cache_core.proofs.LawLemmas.{canceller_stays}
use Rattle.spm_flight.specs.Work.{Does}
use Rattle.spm_flight.proofs.WorkLemmas.{does_then}
use Rattle.spm_outside.specs.Link.{LinkState}
use Rattle.spm_turn.specs.Log.{StartsWith}
use Rattle.spm_session.specs.Archives.{Fingerprints}
use Rattle.spm_session.specs.Known.{IsWider, Known}
use Rattle.spm_session.specs.Outcome.{IsOfFiles}
use Rattle.spm_session.specs.Run.{EndsBy, IsEnd, IsEndBy, IsInput, IsReadyEnd, WentOfJob}
use Rattle.spm_session.specs.Session.{Closes, GaveUp, IsReadyInput, IsSessionWork, Opens, Went, opening_of}
use Rattle.spm_session.specs.Sharing.{AreQuiet, DoesBy, GoesSharing, IsQuietAct, IsSame, MissesSharing}
use Rattle.spm_session.specs.SharingLaws.{does_on, same_actor, same_then, sharing_stays}
use Rattle.spm_session.specs.declared.job.RootInput.{RootInput}
use Rattle.spm_session.specs.declared.job.RootInput.TheVariants as input
use Rattle.spm_session.specs.declared.job.RootJob.{RootJob}
use Rattle.spm_session.specs.declared.outcome.Outcome.{Outcome}
use Rattle.spm_session.specs.declared.outcome.Outcome.TheVariants as outcome
use Rattle.spm_session.specs.declared.sharing.Sharing.{Sharing}
use Rattle.spm_session.proofs.ArchiveLemmas.{from_wider}

-- ---- what is known at the end

ready_wider : (first second : Known) → IsWider first second → (same : Cause → Cause → Bool) (job : _) (fingerprints : Fingerprints) (pins : _) (it : Outcome)
    → IsReadyEnd same first job fingerprints pins it → IsReadyEnd same second job fingerprints pins it
ready_wider first second wider same job fingerprints pins outcome.Memory end = tt
ready_wider first second wider same job fingerprints pins (outcome.FetchFault asked) end =
    record { c = end.c; from = from_wider first second wider end.c end.from; demands = end.demands }
ready_wider first second wider same job fingerprints pins (outcome.Cancelled by) end = tt
ready_wider first second wider same job fingerprints pins it end = record { c = end.c; from = from_wider first second wider end.c end.from; is = end.is }

-- an end stays one, whatever else comes to be known
pub ends_wider : (first second : Known) → IsWider first second → (same : Cause → Cause → Bool) (fingerprints : Fingerprints) (job : RootJob) (it : Outcome)
    → IsEnd same first fingerprints job it → IsEnd same second fingerprints job it
ends_wider first second wider same fingerprints job it end = go job.input end
  where
    go : (of : RootInput) → IsEndBy same first fingerprints job of it → IsEndBy same second fingerprints job of it
    go (input.Refused refusal) end = end
    go (input.Ready manifest origin pins) end = ready_wider first second wider same _ fingerprints pins it end

-- want of memory may end a job that is ready
pub memory_ends : (same : Cause → Cause → Bool) (known : Known) (fingerprints : Fingerprints) (job : RootJob) → IsReadyInput job.input
    → IsEnd same known fingerprints job outcome.Memory
memory_ends same known fingerprints job ready = go job.input ready
  where
    go : (of : RootInput) → IsReadyInput of → IsEndBy same known fingerprints job of outcome.Memory
    go (input.Ready manifest origin pins) ready = tt
    go (input.Refused refusal) ready = absurd ready

-- a job that holds a refusal ends with it
pub refusal_is : (same : Cause → Cause → Bool) (known : Known) (fingerprints : Fingerprints) (job : RootJob) (it : Outcome)
    → IsEnd same known fingerprints job it → (refusal : Outcome) → job.input ≡ input.Refused refusal → it ≡ refusal
refusal_is same known fingerprints job it end refusal is = subst (λ (of : RootInput). IsEndBy same known fingerprints job of it) is end

-- who gave up stays the first
pub gave_up_on : (actor : ℕ) (before after : List Event) → StartsWith after before → (it : Outcome) → GaveUp actor before it → GaveUp actor after it
gave_up_on actor before after starts (outcome.Cancelled by) gave_up =
    (subst (λ (events : List Event). canceller events ≡ Some by) (sym starts.1) (canceller_stays before starts.0 by gave_up.0), gave_up.1)
gave_up_on actor before after starts it gave_up = tt

-- ---- the shape of what was done

-- the opening of a session comes first
opens_by : (hints : Bool) (actor : ℕ) (of : RootInput) (it : Outcome) → Opens hints actor of it (opening_of hints actor of)
opens_by hints actor of outcome.Memory = inl refl
opens_by hints actor of it = refl

-- a refusal of files has no last events
files_close : (actor : ℕ) (it : Outcome) → IsOfFiles it → Closes actor it []
files_close actor outcome.Memory of = inl refl
files_close actor (outcome.FetchFault asked) of = absurd of
files_close actor (outcome.Cancelled by) of = absurd of
files_close actor it of = refl

files_gave : (actor : ℕ) (seen : List Event) (it : Outcome) → IsOfFiles it → GaveUp actor seen it
files_gave actor seen (outcome.Cancelled by) of = absurd of
files_gave actor seen it of = tt

module _ {L G R : Type 0} (state : L → LinkState) where
  -- behind the opening
  record Shape (old new : Sharing L G R) (it : Outcome) : Type 0 where
    same : IsSame old new
    middle : List Event
    last : List Event
    does : DoesBy state old new (middle ++ last)
    quiet : AreQuiet middle
    closes : Closes old.pass.now.actor it last
    gave_up : GaveUp new.pass.now.actor new.pass.now.seen it

  -- where no key was missed
  whole : (old new : Sharing L G R) (it : Outcome) → Closes old.pass.now.actor it [] → GaveUp new.pass.now.actor new.pass.now.seen it
      → GoesSharing state old new → Shape old new it
  whole old new it closes gave_up went = record {
    same = went.same;
    middle = went.added;
    last = [];
    does = subst (DoesBy state old new) (sym (append-nil went.added)) went.does;
    quiet = went.quiet;
    closes = closes;
    gave_up = gave_up;
  }

  ends_shape : (old new : Sharing L G R) (it : Outcome) → EndsBy (GoesSharing state) (MissesSharing state) old new it → Shape old new it
  ends_shape old new (outcome.FetchFault asked) missed = record {
    same = missed.same;
    middle = missed.before;
    last = missed.last;
    does = missed.does;
    quiet = missed.quiet;
    closes = missed.miss;
    gave_up = tt;
  }
  ends_shape old new (outcome.Cancelled by) missed = record {
    same = missed.1.same;
    middle = missed.1.before;
    last = missed.1.last;
    does = missed.1.does;
    quiet = missed.1.quiet;
    closes = (missed.0, missed.1.miss);
    gave_up = missed.1.knows;
  }
  ends_shape old new outcome.Memory (inl went) = whole old new outcome.Memory (inl refl) tt went
  ends_shape old new outcome.Memory (inr missed) = record {
    same = missed.1.same;
    middle = missed.1.before;
    last = missed.1.last;
    does = missed.1.does;
    quiet = missed.1.quiet;
    closes = inr (missed.0, missed.1.miss);
    gave_up = tt;
  }
  ends_shape old new it went = whole old new it refl tt went

  job_shape : (of : RootInput) (old new : Sharing L G R) (it : Outcome) → IsInput of → WentOfJob (GoesSharing state) (MissesSharing state) of old new it
      → ((refusal : Outcome) → of ≡ input.Refused refusal → it ≡ refusal) → Shape old new it
  job_shape (input.Ready manifest origin pins) old new it ok went end = ends_shape old new it went
  job_shape (input.Refused refusal) old new it ok went end =
      let same = end refusal refl in
      whole old new it (subst (λ (o : Outcome). Closes old.pass.now.actor o []) (sym same) (files_close old.pass.now.actor refusal ok))
      (subst (λ (o : Outcome). GaveUp new.pass.now.actor new.pass.now.seen o) (sym same) (files_gave new.pass.now.actor new.pass.now.seen refusal ok))
      (subst (GoesSharing state old) (sym went) (sharing_stays state old))

  -- the opening, and what comes behind it
  pub went_on : (hints : Bool) (of : RootInput) (old middle new : Sharing L G R) (it : Outcome) → IsSame old middle
      → DoesBy state old middle (opening_of hints old.pass.now.actor of) → IsInput of
      → WentOfJob (GoesSharing state) (MissesSharing state) of middle new it → ((refusal : Outcome) → of ≡ input.Refused refusal → it ≡ refusal)
      → Went state hints of old new it
  went_on hints of old middle new it same opened ok went end =
      let behind = job_shape of middle new it ok went end in
      let opening = opening_of hints old.pass.now.actor of in
      record {
        same = same_then state old middle new same behind.same;
        opening = opening;
        middle = behind.middle;
        last = behind.last;
        does = does_on state old middle new opening (behind.middle ++ behind.last) same opened behind.does;
        opens = opens_by hints old.pass.now.actor of it;
        quiet = behind.quiet;
        closes = subst (λ (actor : ℕ). Closes actor it behind.last) (same_actor state old middle opening opened) behind.closes;
        gave_up = behind.gave_up;
      }

  -- no memory for the opening
  pub went_nowhere : (hints : Bool) (of : RootInput) (old new : Sharing L G R) → IsSame old new → DoesBy state old new []
      → Went state hints of old new outcome.Memory
  went_nowhere hints of old new same does = record {
    same = same;
    opening = [];
    middle = [];
    last = [];
    does = does;
    opens = inr refl;
    quiet = All-nil (λ (e : Event). IsQuietAct e.act);
    closes = inl refl;
    gave_up = tt;
  }

-- the end behind all of it
pub works_to_end : (hints : Bool) (actor : ℕ) (of : RootInput) (it : Outcome) (base : Base) (first second third : LinkState)
    (early middle late : Passing) (opening between last : List Event) → Does base first second early middle (opening ++ (between ++ last))
    → Does base second third middle late (event actor End ∷ []) → Opens hints actor of it opening → AreQuiet between → Closes actor it last
    → (added : List Event) × Does base first third early late added × IsSessionWork hints actor of it added
works_to_end hints actor of it base first second third early middle late opening between last does ends opens quiet closes = (
  (opening ++ (between ++ last)) ++ event actor End ∷ [],
  does_then base first second third early middle late (opening ++ (between ++ last)) (event actor End ∷ []) does ends,
  record {
    opening = opening;
    middle = between;
    last = last;
    are = append_assoc opening (between ++ last) (event actor End ∷ [])
        ∙ ap (λ (events : List Event). opening ++ events) (append_assoc between last (event actor End ∷ []));
    opens = opens;
    quiet = quiet;
    closes = closes;
  },
)
