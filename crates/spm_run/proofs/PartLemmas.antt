-- What each actor of a run did.
use Rattle.std.proofs.Common.{◌≡◌, ℕ, zero, suc, ◌+◌, ◌<◌, ◌≤◌, ◌==◌, ◌||◌, Bool, true, false, cond, List, [], ◌∷◌, ◌++◌, drop, length, map, slice_index_or, take, Option, Some, None, refl, sym, ap, ◌∙◌, subst, arith, eqb-true}
use Rattle.std.proofs.lemmas.List.Elements.{All-cons, All-head, All-nil, All-tail}
use Rattle.std.specs.List.{All, cons_option, filter}
use Rattle.spm_cache.specs.Passing.{Passing, newcomer}
use Rattle.spm_cache_core.specs.History.{canceller}
use Rattle.spm_cache_core.specs.declared.event.Event.{Event}
use Rattle.spm_flight.specs.Work.{Works}
use Rattle.spm_outside.specs.Link.{LinkState}
use Rattle.spm_session.specs.Run.{IsInput}
use Rattle.spm_session.specs.Session.{IsSessionWork}
use Rattle.spm_session.specs.Sharing.{landed_by}
use Rattle.spm_session.specs.SharingLaws.{landed_in}
use Rattle.spm_session.specs.declared.job.RootJob.{RootJob}
use Rattle.spm_session.specs.declared.outcome.Outcome.{Outcome}
use Rattle.spm_session.proofs.SessionLemmas.{ends_wider, gave_up_on}
use Rattle.spm_turn.specs.Log.{AreMarkedBelow, OthersFollow, has, numbers_from, of_numbers}
use Rattle.spm_turn.specs.Sitting.{TableId}
use Rattle.spm_turn.proofs.Follows.{others_start}
use Rattle.spm_turn.proofs.Places.{others_keep}
use Rattle.spm_worker.specs.Worker.{IsWork}
use Rattle.spm_run.specs.Actors.{Acted, AreActed, AreFollowed, AreOf, IsReadyActor, Plays, links_of, outcomes_of, passes_of, seat, seated}
use Rattle.spm_run.specs.Run.{AreSessions, AreWorkers, IsSessionOf, IsWorkerOf, Setting, acts_of}
use Rattle.spm_run.specs.declared.actor.Actor.{Actor}
use Rattle.spm_run.proofs.MeetLemmas.{numbers_of}
use Rattle.spm_run.proofs.QuietLemmas.{go_on, plays_go, uncancelled}

abbrev by : Event → ℕ
by e = e.actor

-- a number is this one, or comes behind it
pub this_or_next : (actor other : ℕ) (P : Type 0) → actor ≤ other → (actor ≡ other → P) → (suc actor ≤ other → P) → P
this_or_next actor other P from this next = go (actor == other) refl
  where
    go : (b : Bool) → (actor == other) ≡ b → P
    go true is = this (eqb-true actor other is)
    go false is = next (past is)
      where
        past : (actor == other) ≡ false → suc actor ≤ other
        past no_other = grind (arith, no_other, from)

-- ---- before

-- the passes of so many actors, from this one on
abbrev pub fresh : TableId → ℕ → ℕ → ℕ → ℕ → List Passing
fresh id roots workers actor count = map (newcomer id roots workers) (numbers_from actor count)

module _ {L : Type 0} (id : TableId) (roots workers : ℕ) where
  pub workers_ready : (actor count : ℕ) (links : List L) → roots ≤ actor → actor + count ≤ roots + workers
      → All (IsReadyActor {L = L} id) (seated (fresh id roots workers actor count) links [])
  workers_ready actor zero links behind within = All-nil (IsReadyActor id)
  workers_ready actor (suc count) [] behind within = All-nil (IsReadyActor id)
  workers_ready actor (suc count) (link ∷ links) behind within =
      All-cons (IsReadyActor id) (seat (newcomer id roots workers actor) link None) (seated (fresh id roots workers (suc actor) count) links [])
      (record { of = refl; cast = (behind, omega (arith, within)); unended = refl })
      (workers_ready (suc actor) count links (omega (arith, behind)) (omega (arith, within)))

  pub all_ready : (actor count : ℕ) (links : List L) (jobs : List RootJob) → actor + length jobs ≡ roots → actor + count ≤ roots + workers
      → All (λ (job : RootJob). IsInput job.input) jobs → All (IsReadyActor {L = L} id) (seated (fresh id roots workers actor count) links jobs)
  all_ready actor zero links jobs of within inputs = All-nil (IsReadyActor id)
  all_ready actor (suc count) [] jobs of within inputs = All-nil (IsReadyActor id)
  all_ready actor (suc count) (link ∷ links) [] of within inputs = workers_ready actor (suc count) (link ∷ links) (omega (arith, of)) within
  all_ready actor (suc count) (link ∷ links) (job ∷ jobs) of within inputs =
      All-cons (IsReadyActor id) (seat (newcomer id roots workers actor) link (Some job)) (seated (fresh id roots workers (suc actor) count) links jobs)
      (record {
        of = refl;
        cast = ((omega (arith, of), refl), All-head (λ (one : RootJob). IsInput one.input) job jobs inputs);
        unended = refl;
      })
      (all_ready (suc actor) count links jobs (omega (arith, of)) (omega (arith, within)) (All-tail (λ (one : RootJob). IsInput one.input) job jobs inputs))

  -- ---- what the passes are

  pub numbers_seated : (actor count : ℕ) (links : List L) (jobs : List RootJob) → length links ≡ count
      → numbers_of (passes_of (seated {L = L} (fresh id roots workers actor count) links jobs)) ≡ numbers_from actor count
  numbers_seated actor zero links jobs as_many = refl
  numbers_seated actor (suc count) [] jobs as_many = absurd (omega (arith, as_many))
  numbers_seated actor (suc count) (link ∷ links) [] as_many =
      ap (λ (ns : List ℕ). actor ∷ ns) (numbers_seated (suc actor) count links [] (omega (arith, as_many)))
  numbers_seated actor (suc count) (link ∷ links) (job ∷ jobs) as_many =
      ap (λ (ns : List ℕ). actor ∷ ns) (numbers_seated (suc actor) count links jobs (omega (arith, as_many)))

  pub terms_seated : (actor count : ℕ) (links : List L) (jobs : List RootJob)
      → All (λ (pass : Passing). (pass.sessions ≡ roots) × (pass.workers ≡ workers)) (passes_of (seated {L = L} (fresh id roots workers actor count) links jobs))
  terms_seated actor zero links jobs = All-nil (λ (pass : Passing). (pass.sessions ≡ roots) × (pass.workers ≡ workers))
  terms_seated actor (suc count) [] jobs = All-nil (λ (pass : Passing). (pass.sessions ≡ roots) × (pass.workers ≡ workers))
  terms_seated actor (suc count) (link ∷ links) [] =
      All-cons (λ (pass : Passing). (pass.sessions ≡ roots) × (pass.workers ≡ workers)) (newcomer id roots workers actor)
      (passes_of (seated {L = L} (fresh id roots workers (suc actor) count) links [])) (refl, refl) (terms_seated (suc actor) count links [])
  terms_seated actor (suc count) (link ∷ links) (job ∷ jobs) =
      All-cons (λ (pass : Passing). (pass.sessions ≡ roots) × (pass.workers ≡ workers)) (newcomer id roots workers actor)
      (passes_of (seated {L = L} (fresh id roots workers (suc actor) count) links jobs)) (refl, refl) (terms_seated (suc actor) count links jobs)

  pub length_seated : (actor count : ℕ) (links : List L) (jobs : List RootJob) → length links ≡ count
      → length (seated {L = L} (fresh id roots workers actor count) links jobs) ≡ count
  length_seated actor zero links jobs as_many = refl
  length_seated actor (suc count) [] jobs as_many = absurd (omega (arith, as_many))
  length_seated actor (suc count) (link ∷ links) [] as_many = ap suc (length_seated (suc actor) count links [] (omega (arith, as_many)))
  length_seated actor (suc count) (link ∷ links) (job ∷ jobs) as_many = ap suc (length_seated (suc actor) count links jobs (omega (arith, as_many)))

-- there is a pass for each actor
pub length_fresh : (id : TableId) (roots workers actor count : ℕ) → length (fresh id roots workers actor count) ≡ count
length_fresh id roots workers actor zero = refl
length_fresh id roots workers actor (suc count) = ap suc (length_fresh id roots workers (suc actor) count)

-- ---- the numbers of all

-- which are those below a count
all_numbers : (actor count n : ℕ) → actor ≤ n → n < actor + count → has (numbers_from actor count) n ≡ true
all_numbers actor zero n from below = absurd (omega (arith, from, below))
all_numbers actor (suc count) n from below = go (λ past. all_numbers (suc actor) count n past (omega (arith, below))) (actor == n) refl
  where
    past : (actor == n) ≡ false → suc actor ≤ n
    past other = grind (arith, other, from)

    go : (suc actor ≤ n → has (numbers_from (suc actor) count) n ≡ true) → (b : Bool) → (actor == n) ≡ b
        → (b || has (numbers_from (suc actor) count) n) ≡ true
    go next true is = refl
    go next false is = next (past is)

pub has_all : (count n : ℕ) → n < count → has (numbers_from 0 count) n ≡ true
has_all count n below = all_numbers 0 count n (omega (arith)) (omega (arith, below))

-- a filter keeps no more than there is
filter_fewer : {X : Type 0} (p : X → Bool) (xs : List X) → length (filter p xs) ≤ length xs
filter_fewer p [] = omega (arith)
filter_fewer {X} p (x ∷ xs) = go (filter_fewer p xs) (p x)
  where
    go : length (filter p xs) ≤ length xs → (b : Bool) → length (cond b (x ∷ filter p xs) (filter p xs)) ≤ suc (length xs)
    go rest true = omega (arith, rest)
    go rest false = omega (arith, rest)

-- who has only numbers below a count, and all events, knows that each event is marked so
pub own_marked : (numbers : List ℕ) (count : ℕ) → ((n : ℕ) → has numbers n ≡ true → n < count) → (history : List Event)
    → of_numbers by numbers history ≡ history → AreMarkedBelow by count history
own_marked numbers count below [] own = tt
own_marked numbers count below (e ∷ es) own = go (own_marked numbers count below es) (has numbers (by e)) refl own
  where
    fewer : length (of_numbers by numbers es) ≤ length es
    fewer = filter_fewer (λ (one : Event). has numbers (by one)) es

    go : (of_numbers by numbers es ≡ es → AreMarkedBelow by count es) → (b : Bool) → has numbers (by e) ≡ b
        → cond b (e ∷ of_numbers by numbers es) (of_numbers by numbers es) ≡ e ∷ es → AreMarkedBelow by count (e ∷ es)
    go rest true is same = (below (by e) is, rest (ap (λ (events : List Event). drop 1 events) same))
    go rest false is same = let as_long = ap (λ (events : List Event). length events) same in absurd (omega (arith, as_long, fewer))

module _ {L : Type 0} (state : L → LinkState) (setting : Setting) where
  -- what an actor did, of the setting
  abbrev pub Did : Actor L → Actor L → Type 0
  Did old new = Acted state setting.same setting.base setting.fingerprints setting.hints old new

  abbrev pub AllDid : List (Actor L) → List (Actor L) → Type 0
  AllDid olds news = AreActed state setting.same setting.base setting.fingerprints setting.hints olds news

  -- each at its place did
  pub each_did : (olds news : List (Actor L)) → length news ≡ length olds
      → ((i : ℕ) (d : Actor L) → i < length olds → Did (slice_index_or olds i d) (slice_index_or news i d)) → AllDid olds news
  each_did [] [] as_many each = tt
  each_did [] (new ∷ news) as_many each = absurd (omega (arith, as_many))
  each_did (old ∷ olds) [] as_many each = absurd (omega (arith, as_many))
  each_did (old ∷ olds) (new ∷ news) as_many each =
      (each 0 old (omega (arith)), each_did olds news (omega (arith, as_many)) (λ i d below. each (suc i) d (omega (arith, below))))

  -- ---- what stays of the passes

  pub still_of : (id : TableId) (olds news : List (Actor L)) → AllDid olds news → AreOf id olds → AreOf id news
  still_of id [] [] did of = All-nil (λ (a : Actor L). a.pass.of ≡ id)
  still_of id [] (new ∷ news) did of = absurd did
  still_of id (old ∷ olds) [] did of = absurd did
  still_of id (old ∷ olds) (new ∷ news) did of =
      All-cons (λ (a : Actor L). a.pass.of ≡ id) new news
      (ap (λ (pass : Passing). pass.of) did.0.does.steps.same ∙ All-head (λ (a : Actor L). a.pass.of ≡ id) old olds of)
      (still_of id olds news did.1 (All-tail (λ (a : Actor L). a.pass.of ≡ id) old olds of))

  pub still_terms : (roots workers : ℕ) (olds news : List (Actor L)) → AllDid olds news
      → All (λ (pass : Passing). (pass.sessions ≡ roots) × (pass.workers ≡ workers)) (passes_of olds)
      → All (λ (pass : Passing). (pass.sessions ≡ roots) × (pass.workers ≡ workers)) (passes_of news)
  still_terms roots workers [] [] did terms = terms
  still_terms roots workers [] (new ∷ news) did terms = absurd did
  still_terms roots workers (old ∷ olds) [] did terms = absurd did
  still_terms roots workers (old ∷ olds) (new ∷ news) did terms =
      let first = All-head (λ (p : Passing). (p.sessions ≡ roots) × (p.workers ≡ workers)) old.pass (passes_of olds) terms in
      All-cons (λ (p : Passing). (p.sessions ≡ roots) × (p.workers ≡ workers)) new.pass (passes_of news)
      (ap (λ (p : Passing). p.sessions) did.0.does.steps.same ∙ first.0, ap (λ (p : Passing). p.workers) did.0.does.steps.same ∙ first.1)
      (still_terms roots workers olds news did.1 (All-tail (λ (p : Passing). (p.sessions ≡ roots) × (p.workers ≡ workers)) old.pass (passes_of olds) terms))

  pub still_numbers : (olds news : List (Actor L)) → AllDid olds news → numbers_of (passes_of news) ≡ numbers_of (passes_of olds)
  still_numbers [] [] did = refl
  still_numbers [] (new ∷ news) did = absurd did
  still_numbers (old ∷ olds) [] did = absurd did
  still_numbers (old ∷ olds) (new ∷ news) did =
      ap (λ (ns : List ℕ). ns ++ numbers_of (passes_of news)) (ap (λ (p : Passing). p.numbers) did.0.does.steps.same)
      ∙ ap (λ (ns : List ℕ). old.pass.numbers ++ ns) (still_numbers olds news did.1)

  pub still_as_many : (olds news : List (Actor L)) → AllDid olds news → length news ≡ length olds
  still_as_many [] [] did = refl
  still_as_many [] (new ∷ news) did = absurd did
  still_as_many (old ∷ olds) [] did = absurd did
  still_as_many (old ∷ olds) (new ∷ news) did = ap suc (still_as_many olds news did.1)

  module _ (id : TableId) (roots workers : ℕ) where
    -- ---- one actor

    module _ (actor : ℕ) (link : L) (job : Option RootJob) (new : Actor L) (did : Did (seat (newcomer id roots workers actor) link job) new)
        (follow : OthersFollow by new.pass.numbers new.pass.seen setting.history) where
      -- its events in the history are those that it made
      acts_are : acts_of actor setting.history ≡ did.added
      acts_are =
          ap (λ (ns : List ℕ). of_numbers by ns setting.history) (sym (ap (λ (p : Passing). p.numbers) did.does.steps.same))
          ∙ others_keep by new.pass.numbers new.pass.seen setting.history follow ∙ did.does.steps.own

      actor_is : new.pass.actor ≡ actor
      actor_is = ap (λ (p : Passing). p.actor) did.does.steps.same

      works_are : Works setting.base (acts_of actor setting.history) (state link) (state new.link)
      works_are = subst (λ events. Works setting.base events (state link) (state new.link)) (sym acts_are) did.does.works

      pub goes : All go_on (acts_of actor setting.history)
      goes = subst (All go_on) (sym acts_are) (plays_go setting.same setting.fingerprints setting.hints job new.outcome new.pass did.added did.plays)

      pub session_is : (of : RootJob) (it : Outcome) → job ≡ Some of → new.outcome ≡ Some it → canceller setting.history ≡ None
          → IsSessionOf setting actor of it (state link) (state new.link)
      session_is of it is_job is_outcome none =
          let starts = others_start by new.pass.numbers new.pass.seen setting.history follow in
          let plays = subst (λ (o : Option Outcome). Plays setting.same setting.fingerprints setting.hints (Some of) o new.pass did.added) is_outcome
          (subst (λ (j : Option RootJob). Plays setting.same setting.fingerprints setting.hints j new.outcome new.pass did.added) is_job did.plays) in
          record {
            works = works_are;
            session = subst (IsSessionWork setting.hints actor of.input it) (sym acts_are)
                (subst (λ (a : ℕ). IsSessionWork setting.hints a of.input it did.added) actor_is plays.0);
            end = ends_wider (landed_by new.pass.seen) (landed_by setting.history) (landed_in new.pass.seen setting.history starts) setting.same
                setting.fingerprints of it plays.1;
            told = plays.3;
            uncancelled = uncancelled new.pass.actor setting.history it none
                (gave_up_on new.pass.actor new.pass.seen setting.history starts it plays.2);
          }

      pub worker_is : job ≡ None → new.outcome ≡ None → IsWorkerOf setting actor (state link) (state new.link)
      worker_is is_job is_outcome =
          let plays = subst (λ (o : Option Outcome). Plays setting.same setting.fingerprints setting.hints None o new.pass did.added) is_outcome
          (subst (λ (j : Option RootJob). Plays setting.same setting.fingerprints setting.hints j new.outcome new.pass did.added) is_job did.plays) in
          record {
            works = works_are;
            how = plays.0;
            worker = subst (IsWork actor plays.0) (sym acts_are) (subst (λ (a : ℕ). IsWork a plays.0 did.added) actor_is plays.1);
          }

    -- ---- all of them

    -- each of them goes on
    pub each_goes : (actor count : ℕ) (links : List L) (jobs : List RootJob) (news : List (Actor L)) → length links ≡ count
        → AllDid (seated (fresh id roots workers actor count) links jobs) news → AreFollowed (passes_of news) setting.history
        → (other : ℕ) → actor ≤ other → other < actor + count → All go_on (acts_of other setting.history)
    each_goes actor zero links jobs news as_many did followed other from below = absurd (omega (arith, from, below))
    each_goes actor (suc count) [] jobs news as_many did followed other from below = absurd (omega (arith, as_many))
    each_goes actor (suc count) (link ∷ links) [] [] as_many did followed other from below = absurd did
    each_goes actor (suc count) (link ∷ links) (job ∷ jobs) [] as_many did followed other from below = absurd did
    each_goes actor (suc count) (link ∷ links) [] (new ∷ news) as_many did followed other from below =
        this_or_next actor other (All go_on (acts_of other setting.history)) from
        (λ same. subst (λ (a : ℕ). All go_on (acts_of a setting.history)) same (goes actor link None new did.0 followed.0))
        (λ past. each_goes (suc actor) count links [] news (omega (arith, as_many)) did.1 followed.1 other past (omega (arith, below)))
    each_goes actor (suc count) (link ∷ links) (job ∷ jobs) (new ∷ news) as_many did followed other from below =
        this_or_next actor other (All go_on (acts_of other setting.history)) from
        (λ same. subst (λ (a : ℕ). All go_on (acts_of a setting.history)) same (goes actor link (Some job) new did.0 followed.0))
        (λ past. each_goes (suc actor) count links jobs news (omega (arith, as_many)) did.1 followed.1 other past (omega (arith, below)))

    module _ (none : canceller setting.history ≡ None) where
      pub workers_are : (actor count : ℕ) (links : List L) (news : List (Actor L)) → length links ≡ count
          → AllDid (seated (fresh id roots workers actor count) links []) news → AreFollowed (passes_of news) setting.history
          → AreWorkers state setting actor count links (links_of news) × (outcomes_of news ≡ [])
      workers_are actor zero [] [] as_many did followed = (refl, refl)
      workers_are actor zero (link ∷ links) news as_many did followed = absurd (omega (arith, as_many))
      workers_are actor zero [] (new ∷ news) as_many did followed = absurd did
      workers_are actor (suc count) [] news as_many did followed = absurd (omega (arith, as_many))
      workers_are actor (suc count) (link ∷ links) [] as_many did followed = absurd did
      workers_are actor (suc count) (link ∷ links) (new ∷ news) as_many did followed =
          go (workers_are (suc actor) count links news (omega (arith, as_many)) did.1 followed.1) new.outcome refl
        where
          go : AreWorkers state setting (suc actor) count links (links_of news) × (outcomes_of news ≡ []) → (o : Option Outcome) → new.outcome ≡ o
              → AreWorkers state setting actor (suc count) (link ∷ links) (links_of (new ∷ news)) × (outcomes_of (new ∷ news) ≡ [])
          go rest None is = (
            (worker_is actor link None new did.0 followed.0 refl is, rest.0),
            ap (λ (o : Option Outcome). cons_option o (outcomes_of news)) is ∙ rest.1,
          )
          go rest (Some it) is =
              absurd (subst (λ (o : Option Outcome). Plays setting.same setting.fingerprints setting.hints None o new.pass did.0.added) is did.0.plays)

      pub all_are : (actor total count : ℕ) (links : List L) (jobs : List RootJob) (news : List (Actor L)) → total ≡ length jobs + count
          → length links ≡ total → AllDid (seated (fresh id roots workers actor total) links jobs) news → AreFollowed (passes_of news) setting.history
          → AreSessions state setting actor jobs (outcomes_of news) (take (length jobs) links) (take (length jobs) (links_of news))
          × AreWorkers state setting (actor + length jobs) count (drop (length jobs) links) (drop (length jobs) (links_of news))
      all_are actor total count links [] news sum as_many did followed =
          let crew = workers_are actor total links news as_many did followed in
          let here : actor ≡ actor + 0 = omega (arith) in
          let all : total ≡ count = omega (arith, sum) in (
            subst (λ (its : List Outcome). AreSessions state setting actor [] its [] []) (sym crew.1) refl,
            subst (λ (a : ℕ). AreWorkers state setting a count links (links_of news)) here
                (subst (λ (n : ℕ). AreWorkers state setting actor n links (links_of news)) all crew.0),
          )
      all_are actor zero count links (job ∷ jobs) news sum as_many did followed = absurd (omega (arith, sum))
      all_are actor (suc total) count [] (job ∷ jobs) news sum as_many did followed = absurd (omega (arith, as_many))
      all_are actor (suc total) count (link ∷ links) (job ∷ jobs) [] sum as_many did followed = absurd did
      all_are actor (suc total) count (link ∷ links) (job ∷ jobs) (new ∷ news) sum as_many did followed =
          go (all_are (suc actor) total count links jobs news (omega (arith, sum)) (omega (arith, as_many)) did.1 followed.1) new.outcome refl
        where
          next : suc actor + length jobs ≡ actor + suc (length jobs)
          next = omega (arith)

          go : AreSessions state setting (suc actor) jobs (outcomes_of news) (take (length jobs) links) (take (length jobs) (links_of news))
              × AreWorkers state setting (suc actor + length jobs) count (drop (length jobs) links) (drop (length jobs) (links_of news))
              → (o : Option Outcome) → new.outcome ≡ o
              → AreSessions state setting actor (job ∷ jobs) (outcomes_of (new ∷ news)) (link ∷ take (length jobs) links) (new.link ∷ take (length jobs) (links_of news))
              × AreWorkers state setting (actor + suc (length jobs)) count (drop (length jobs) links) (drop (length jobs) (links_of news))
          go rest (Some it) is = (
            subst (λ (o : Option Outcome). AreSessions state setting actor (job ∷ jobs) (cons_option o (outcomes_of news)) (link ∷ take (length jobs) links)
                (new.link ∷ take (length jobs) (links_of news))) (sym is)
                (session_is actor link (Some job) new did.0 followed.0 job it refl is none, rest.0),
            subst (λ (a : ℕ). AreWorkers state setting a count (drop (length jobs) links) (drop (length jobs) (links_of news))) next rest.1,
          )
          go rest None is =
              absurd (subst (λ (o : Option Outcome). Plays setting.same setting.fingerprints setting.hints (Some job) o new.pass did.0.added) is did.0.plays)
