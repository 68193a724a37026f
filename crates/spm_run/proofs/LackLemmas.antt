-- How often memory wasn't there for a flight: once at most for a session, whose outcome then says so, and once at most for a worker.
use Rattle.std.proofs.Common.{◌≡◌, ℕ, zero, suc, ◌+◌, ◌≤◌, Bool, true, false, List, [], ◌∷◌, ◌++◌, length, Option, Some, None, refl, ap, ◌∙◌, inl, inr, arith}
use Rattle.std.proofs.lemmas.List.Elements.{All-head, All-tail}
use Rattle.std.proofs.lemmas.List.Sums.{sum_by-append}
use Rattle.std.specs.List.{count_by}
use Rattle.spm_cache_core.specs.History.{event, lacks}
use Rattle.spm_cache_core.specs.declared.event.Act.{Act}
use Rattle.spm_cache_core.specs.declared.event.Act.TheVariants.{Ask, Cancel, Claim, End, Fail, Hint, Land}
use Rattle.spm_cache_core.specs.declared.event.Event.{Event}
use Rattle.spm_key.specs.KeyLaws.{key_eq}
use Rattle.spm_key.specs.declared.key.Key.{Key}
use Rattle.spm_key.specs.declared.reply.Reply.{Reply}
use Rattle.spm_outside.specs.Link.{LinkState}
use Rattle.spm_session.specs.Session.{Closes, IsSessionWork, Opens, opening_of}
use Rattle.spm_session.specs.Sharing.{AreQuiet, IsMiss, IsQuietAct}
use Rattle.spm_session.specs.declared.job.RootInput.{RootInput}
use Rattle.spm_session.specs.declared.job.RootInput.TheVariants as input
use Rattle.spm_session.specs.declared.job.RootJob.{RootJob}
use Rattle.spm_session.specs.declared.outcome.Outcome.{Outcome}
use Rattle.spm_session.specs.declared.outcome.Outcome.TheVariants as outcome
use Rattle.spm_session.specs.declared.source.Missed.TheVariants as missed
use Rattle.spm_worker.specs.Worker.{Claimed, IsWork, LastRound, all_claimed, claimed_events, end_of}
use Rattle.spm_worker.specs.declared.worker.WorkEnd.{WorkEnd}
use Rattle.spm_worker.specs.declared.worker.WorkEnd.TheVariants as end
use Rattle.spm_run.specs.Calls.{is_memory, memories}
use Rattle.spm_run.specs.Run.{AreSessions, AreWorkers, Setting, acts_of}
use Rattle.spm_run.proofs.CallLemmas.{at_most_one, count_cons, one_if, tally}

module _ (key : Key) where
  abbrev pub lacking : Event → Bool
  lacking e = lacks key e.act

  abbrev lacked_in : List Event → ℕ
  lacked_in events = count_by lacking events

  of_two : (first second : List Event) → lacked_in (first ++ second) ≡ lacked_in first + lacked_in second
  of_two first second = sum_by-append (λ (e : Event). one_if (lacking e)) first second

  quiet_act : (act : Act) → IsQuietAct act → lacks key act ≡ false
  quiet_act (Fail asked reason) quiet = absurd quiet
  quiet_act (Ask asked note) quiet = refl
  quiet_act (Claim note) quiet = refl
  quiet_act (Land asked reply) quiet = refl
  quiet_act (Hint keys) quiet = refl
  quiet_act Cancel quiet = absurd quiet
  quiet_act End quiet = absurd quiet

  quiet_lack : (events : List Event) → AreQuiet events → lacked_in events ≡ 0
  quiet_lack [] quiet = refl
  quiet_lack (e ∷ es) quiet =
      let this = ap (λ (b : Bool). one_if b) (quiet_act e.act (All-head (λ (one : Event). IsQuietAct one.act) e es quiet)) in
      let rest = quiet_lack es (All-tail (λ (one : Event). IsQuietAct one.act) e es quiet) in
      let all = count_cons lacking e es in
      omega (arith, this, rest, all)

  -- ---- a session

  opening_lacks : (hints : Bool) (actor : ℕ) (of : RootInput) → lacked_in (opening_of hints actor of) ≡ 0
  opening_lacks true actor (input.Ready manifest origin pins) = refl
  opening_lacks true actor (input.Refused refusal) = refl
  opening_lacks false actor of = refl

  opens_lack : (hints : Bool) (actor : ℕ) (of : RootInput) (it : Outcome) (opening : List Event) → Opens hints actor of it opening → lacked_in opening ≡ 0
  opens_lack hints actor of outcome.Memory opening (inl is) = ap lacked_in is ∙ opening_lacks hints actor of
  opens_lack hints actor of outcome.Memory opening (inr is) = ap lacked_in is
  opens_lack hints actor of it opening is = ap lacked_in is ∙ opening_lacks hints actor of

  memory_miss : (actor : ℕ) (asked : Key) (last : List Event) → IsMiss actor asked missed.Memory last → lacked_in last ≤ 1
  memory_miss actor asked last (inl is) = let none = ap lacked_in is in omega (arith, none)
  memory_miss actor asked last (inr is) =
      let one = ap lacked_in is in
      let most = at_most_one (key_eq asked key) in
      omega (arith, one, most)

  closes_lack : (actor : ℕ) (it : Outcome) (last : List Event) → Closes actor it last → lacked_in last ≤ one_if (is_memory it)
  closes_lack actor (outcome.FetchFault asked) last is = let none = ap lacked_in is in omega (arith, none)
  closes_lack actor (outcome.Cancelled by) last closes = let none = ap lacked_in closes.1 in omega (arith, none)
  closes_lack actor outcome.Memory last (inl is) = let none = ap lacked_in is in omega (arith, none)
  closes_lack actor outcome.Memory last (inr closes) = memory_miss actor closes.0 last closes.1
  closes_lack actor it last is = none_is (is_memory it) (ap lacked_in is)
    where
      none_is : (b : Bool) → lacked_in last ≡ 0 → lacked_in last ≤ one_if b
      none_is true none = omega (arith, none)
      none_is false none = omega (arith, none)

  session_lacks : (hints : Bool) (actor : ℕ) (of : RootInput) (it : Outcome) (added : List Event) → IsSessionWork hints actor of it added
      → lacked_in added ≤ one_if (is_memory it)
  session_lacks hints actor of it added work =
      let ending = event actor End ∷ [] in
      let whole = ap lacked_in work.are in
      let first = of_two work.opening (work.middle ++ (work.last ++ ending)) in
      let second = of_two work.middle (work.last ++ ending) in
      let third = of_two work.last ending in
      let none = opens_lack hints actor of it work.opening work.opens in
      let quiet = quiet_lack work.middle work.quiet in
      let last = closes_lack actor it work.last work.closes in
      omega (arith, whole, first, second, third, none, quiet, last)

  -- ---- a worker

  end_lacks : (asked : Key) (reply : Option Reply) → lacks key (end_of asked reply) ≡ false
  end_lacks asked (Some reply) = refl
  end_lacks asked None = refl

  claims_lack : (actor : ℕ) (flights : List Claimed) → lacked_in (all_claimed actor flights) ≡ 0
  claims_lack actor [] = refl
  claims_lack actor (flight ∷ flights) =
      let both = of_two (claimed_events actor flight) (all_claimed actor flights) in
      let this = ap (λ (b : Bool). one_if b) (end_lacks flight.key flight.reply) in
      let rest = claims_lack actor flights in
      omega (arith, both, this, rest)

  last_lacks : (actor : ℕ) (how : WorkEnd) (last : List Event) → LastRound actor how last → lacked_in last ≤ 1
  last_lacks actor end.Closed last is = let none = ap lacked_in is in omega (arith, none)
  last_lacks actor end.Memory last (inl is) = let none = ap lacked_in is in omega (arith, none)
  last_lacks actor end.Memory last (inr closes) =
      let one = ap lacked_in closes.1 in
      let most = at_most_one (key_eq closes.0 key) in
      omega (arith, one, most)

  worker_lacks : (actor : ℕ) (how : WorkEnd) (added : List Event) → IsWork actor how added → lacked_in added ≤ 1
  worker_lacks actor how added work =
      let whole = ap lacked_in work.are in
      let both = of_two (all_claimed actor work.flights) work.last in
      let none = claims_lack actor work.flights in
      let last = last_lacks actor how work.last work.is_last in
      omega (arith, whole, both, none, last)

  -- ---- all of them

  module _ {L : Type 0} (state : L → LinkState) (setting : Setting) where
    pub sessions_lack : (actor : ℕ) (jobs : List RootJob) (its : List Outcome) (old new : List L) → AreSessions state setting actor jobs its old new
        → tally lacking setting.history actor (length jobs) ≤ memories its
    sessions_lack actor [] [] old new are = omega (arith)
    sessions_lack actor [] (it ∷ its) old new are = absurd are
    sessions_lack actor (job ∷ jobs) [] old new are = absurd are
    sessions_lack actor (job ∷ jobs) (it ∷ its) [] new are = absurd are
    sessions_lack actor (job ∷ jobs) (it ∷ its) (link ∷ old) [] are = absurd are
    sessions_lack actor (job ∷ jobs) (it ∷ its) (link ∷ old) (then ∷ new) are =
        let this = session_lacks setting.hints actor job.input it (acts_of actor setting.history) are.0.session in
        let rest = sessions_lack (suc actor) jobs its old new are.1 in
        let all = count_cons is_memory it its in
        omega (arith, this, rest, all)

    pub workers_lack : (actor count : ℕ) (old new : List L) → AreWorkers state setting actor count old new
        → tally lacking setting.history actor count ≤ count
    workers_lack actor zero old new are = omega (arith)
    workers_lack actor (suc count) [] new are = absurd are
    workers_lack actor (suc count) (link ∷ old) [] are = absurd are
    workers_lack actor (suc count) (link ∷ old) (then ∷ new) are =
        let this = worker_lacks actor are.0.how (acts_of actor setting.history) are.0.worker in
        let rest = workers_lack (suc actor) count old new are.1 in
        omega (arith, this, rest)
