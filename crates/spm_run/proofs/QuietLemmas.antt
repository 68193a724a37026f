-- Nobody gives up.
use Rattle.std.proofs.Common.{◌≡◌, ℕ, ◌<◌, ◌||◌, Bool, true, false, cond, List, [], ◌∷◌, ◌++◌, Option, Some, None, refl, sym, ap, ◌∙◌, inl, inr, eq-eqb, if◌then◌else◌}
use Rattle.std.proofs.lemmas.List.Elements.{All-append, All-cons, All-head, All-nil, All-same, All-tail, All-weaker}
use Rattle.std.specs.List.{All}
use Rattle.spm_cache.specs.Passing.{Passing}
use Rattle.spm_cache_core.specs.History.{canceller, event, is_cancel}
use Rattle.spm_cache_core.specs.declared.event.Act.{Act}
use Rattle.spm_cache_core.specs.declared.event.Act.TheVariants.{Cancel, End}
use Rattle.spm_cache_core.specs.declared.event.Event.{Event}
use Rattle.spm_key.specs.declared.key.Key.{Key}
use Rattle.spm_key.specs.declared.reply.Reply.{Reply}
use Rattle.spm_session.specs.Archives.{Fingerprints}
use Rattle.spm_session.specs.Session.{Closes, GaveUp, IsSessionWork, Opens, opening_of}
use Rattle.spm_session.specs.Sharing.{IsMiss, IsQuietAct}
use Rattle.spm_session.specs.declared.job.RootInput.{RootInput}
use Rattle.spm_session.specs.declared.job.RootInput.TheVariants as input
use Rattle.spm_session.specs.declared.job.RootJob.{RootJob}
use Rattle.spm_session.specs.declared.outcome.Outcome.{Outcome}
use Rattle.spm_session.specs.declared.outcome.Outcome.TheVariants as outcome
use Rattle.spm_session.specs.declared.source.Missed.{Missed}
use Rattle.spm_session.specs.declared.source.Missed.TheVariants as missed
use Rattle.spm_turn.specs.Log.{AreMarkedBelow, has}
use Rattle.spm_worker.specs.Worker.{Claimed, IsWork, LastRound, all_claimed, claimed_events, end_of}
use Rattle.spm_worker.specs.declared.worker.WorkEnd.{WorkEnd}
use Rattle.spm_worker.specs.declared.worker.WorkEnd.TheVariants as end
use Rattle.spm_run.specs.Actors.{Plays}
use Rattle.spm_run.specs.Run.{IsNotCancelled, acts_of}

-- the act doesn't give up
abbrev pub GoesOn : Act → Type 0
GoesOn Cancel = ⊥
GoesOn act = Unit {0}

abbrev pub go_on : Event → Type 0
go_on e = GoesOn e.act

-- ---- what an actor does

quiet_goes : (act : Act) → IsQuietAct act → GoesOn act
quiet_goes Cancel quiet = quiet
quiet_goes act quiet = tt

one_goes : (e : Event) → go_on e → All go_on (e ∷ [])
one_goes e goes = All-cons go_on e [] goes (All-nil go_on)

two_go : (e f : Event) → go_on e → go_on f → All go_on (e ∷ f ∷ [])
two_go e f first second = All-cons go_on e (f ∷ []) first (one_goes f second)

opening_goes : (hints : Bool) (actor : ℕ) (of : RootInput) → All go_on (opening_of hints actor of)
opening_goes true actor (input.Ready manifest origin pins) = one_goes _ tt
opening_goes true actor (input.Refused refusal) = All-nil go_on
opening_goes false actor of = All-nil go_on

opens_go : (hints : Bool) (actor : ℕ) (of : RootInput) (it : Outcome) (opening : List Event) → Opens hints actor of it opening → All go_on opening
opens_go hints actor of outcome.Memory opening (inl is) = All-same go_on opening (opening_of hints actor of) is (opening_goes hints actor of)
opens_go hints actor of outcome.Memory opening (inr is) = All-same go_on opening [] is (All-nil go_on)
opens_go hints actor of it opening is = All-same go_on opening (opening_of hints actor of) is (opening_goes hints actor of)

miss_goes : (actor : ℕ) (asked : Key) (reason : Missed) (last : List Event) → IsMiss actor asked reason last → All go_on last
miss_goes actor asked missed.Failed last is = All-same go_on last _ is (two_go _ _ tt tt)
miss_goes actor asked (missed.Cancelled by) last is = All-same go_on last _ is (one_goes _ tt)
miss_goes actor asked missed.Memory last (inl is) = All-same go_on last [] is (All-nil go_on)
miss_goes actor asked missed.Memory last (inr is) = All-same go_on last _ is (two_go _ _ tt tt)

closes_go : (actor : ℕ) (it : Outcome) (last : List Event) → Closes actor it last → All go_on last
closes_go actor (outcome.FetchFault asked) last closes = miss_goes actor asked missed.Failed last closes
closes_go actor (outcome.Cancelled by) last closes = miss_goes actor closes.0 (missed.Cancelled by) last closes.1
closes_go actor outcome.Memory last (inl is) = All-same go_on last [] is (All-nil go_on)
closes_go actor outcome.Memory last (inr closes) = miss_goes actor closes.0 missed.Memory last closes.1
closes_go actor it last is = All-same go_on last [] is (All-nil go_on)

session_goes : (hints : Bool) (actor : ℕ) (of : RootInput) (it : Outcome) (added : List Event) → IsSessionWork hints actor of it added → All go_on added
session_goes hints actor of it added work =
    All-same go_on added (work.opening ++ (work.middle ++ (work.last ++ event actor End ∷ []))) work.are
    (All-append go_on work.opening (work.middle ++ (work.last ++ event actor End ∷ [])) (opens_go hints actor of it work.opening work.opens)
    (All-append go_on work.middle (work.last ++ event actor End ∷ [])
    (All-weaker (λ (e : Event). IsQuietAct e.act) go_on (λ e quiet. quiet_goes e.act quiet) work.middle work.quiet)
    (All-append go_on work.last (event actor End ∷ []) (closes_go actor it work.last work.closes) (one_goes (event actor End) tt))))

end_goes : (key : Key) (reply : Option Reply) → GoesOn (end_of key reply)
end_goes key (Some reply) = tt
end_goes key None = tt

claims_go : (actor : ℕ) (flights : List Claimed) → All go_on (all_claimed actor flights)
claims_go actor [] = All-nil go_on
claims_go actor (flight ∷ flights) =
    All-append go_on (claimed_events actor flight) (all_claimed actor flights) (two_go _ _ tt (end_goes flight.key flight.reply)) (claims_go actor flights)

last_goes : (actor : ℕ) (how : WorkEnd) (last : List Event) → LastRound actor how last → All go_on last
last_goes actor end.Closed last is = All-same go_on last _ is (one_goes _ tt)
last_goes actor end.Memory last (inl is) = All-same go_on last [] is (All-nil go_on)
last_goes actor end.Memory last (inr closes) = All-same go_on last _ closes.1 (two_go _ _ tt tt)

worker_goes : (actor : ℕ) (how : WorkEnd) (added : List Event) → IsWork actor how added → All go_on added
worker_goes actor how added work =
    All-same go_on added (all_claimed actor work.flights ++ work.last) work.are
    (All-append go_on (all_claimed actor work.flights) work.last (claims_go actor work.flights) (last_goes actor how work.last work.is_last))

pub plays_go : (same : _) (fingerprints : Fingerprints) (hints : Bool) (job : Option RootJob) (it : Option Outcome) (pass : Passing) (added : List Event)
    → Plays same fingerprints hints job it pass added → All go_on added
plays_go same fingerprints hints (Some job) (Some it) pass added plays = session_goes hints pass.actor job.input it added plays.0
plays_go same fingerprints hints (Some job) None pass added plays = absurd plays
plays_go same fingerprints hints None (Some it) pass added plays = absurd plays
plays_go same fingerprints hints None None pass added plays = worker_goes pass.actor plays.0 added plays.1

-- ---- in a history

module _ (P : Event → Type 0) where
  -- the first event is its actor's
  first_of : (e : Event) (es : List Event) → acts_of e.actor (e ∷ es) ≡ e ∷ acts_of e.actor es
  first_of e es = ap (λ (b : Bool). cond b (e ∷ acts_of e.actor es) (acts_of e.actor es)) (ap (λ (b : Bool). b || false) (eq-eqb e.actor e.actor refl))

  -- the events behind the first
  behind_first : (actor : ℕ) (e : Event) (es : List Event) (b : Bool) → has (actor ∷ []) e.actor ≡ b → All P (acts_of actor (e ∷ es)) → All P (acts_of actor es)
  behind_first actor e es true is all =
      All-tail P e (acts_of actor es)
      (All-same P (e ∷ acts_of actor es) (acts_of actor (e ∷ es)) (sym (ap (λ (b : Bool). cond b (e ∷ acts_of actor es) (acts_of actor es)) is)) all)
  behind_first actor e es false is all =
      All-same P (acts_of actor es) (acts_of actor (e ∷ es)) (sym (ap (λ (b : Bool). cond b (e ∷ acts_of actor es) (acts_of actor es)) is)) all

  -- what holds of all events of each actor holds of all events
  pub all_of : (count : ℕ) (history : List Event) → AreMarkedBelow (λ (e : Event). e.actor) count history
      → ((actor : ℕ) → actor < count → All P (acts_of actor history)) → All P history
  all_of count [] marked each = All-nil P
  all_of count (e ∷ es) marked each =
      All-cons P e es
      (All-head P e (acts_of e.actor es) (All-same P (e ∷ acts_of e.actor es) (acts_of e.actor (e ∷ es)) (sym (first_of e es)) (each e.actor marked.0)))
      (all_of count es marked.1 (λ actor few. behind_first actor e es (has (actor ∷ []) e.actor) refl (each actor few)))

goes_not : (act : Act) → GoesOn act → is_cancel act ≡ false
goes_not Cancel goes = absurd goes
goes_not act goes = refl

pub none_gave_up : (history : List Event) → All go_on history → canceller history ≡ None
none_gave_up [] all = refl
none_gave_up (e ∷ es) all =
    ap (λ (b : Bool). if b then Some e.actor else canceller es) (goes_not e.act (All-head go_on e es all))
    ∙ none_gave_up es (All-tail go_on e es all)

pub uncancelled : (actor : ℕ) (history : List Event) (it : Outcome) → canceller history ≡ None → GaveUp actor history it → IsNotCancelled it
uncancelled actor history (outcome.Cancelled by) none gave = let e = sym none ∙ gave.0 in absurd (cc)
uncancelled actor history it none gave = tt
