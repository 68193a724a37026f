-- The calls of all links for a key, together.
use Rattle.std.proofs.Common.{◌≡◌, ℕ, zero, suc, ◌+◌, ◌≤◌, Bool, List, [], ◌∷◌, drop, length, take, sym, ap, ◌∙◌, arith}
use Rattle.std.proofs.lemmas.List.{take-append-drop}
use Rattle.std.proofs.lemmas.List.Elements.{All-drop, All-head, All-tail, All-take}
use Rattle.std.proofs.lemmas.List.Sums.{sum_by-append}
use Rattle.std.specs.List.{All, count_by}
use Rattle.std.specs.Prelude.{IsSome, is_some}
use Rattle.pub_term.specs.declared.cause.Cause.{Cause}
use Rattle.spm_api.specs.declared.base.Base.{Base}
use Rattle.spm_cache_core.specs.Cache.{Cache}
use Rattle.spm_cache_core.specs.History.{breaks, lacked, lacks, landings, lands}
use Rattle.spm_cache_core.specs.declared.event.Event.{Event}
use Rattle.spm_cache_core.proofs.LawLemmas.{lands_once}
use Rattle.spm_key.specs.Key.{IsKey}
use Rattle.spm_key.specs.declared.key.Key.{Key}
use Rattle.spm_outside.specs.Link.{LinkState}
use Rattle.spm_session.specs.Archives.{Fingerprints}
use Rattle.spm_session.specs.declared.job.RootJob.{RootJob}
use Rattle.spm_session.specs.declared.outcome.Outcome.{Outcome}
use Rattle.spm_run.specs.Calls.{all_calls_for, all_failed_calls_for, calls_for, failed_calls_for, memories}
use Rattle.spm_run.specs.Run.{AreSessions, AreWorkers, IsRunOf, Setting, acts_of, setting_of}
use Rattle.spm_run.proofs.CallLemmas.{link_calls, sum_cons, tally, tally_most, tally_on}
use Rattle.spm_run.proofs.LackLemmas.{sessions_lack, workers_lack}

module _ {L : Type 0} (state : L → LinkState) (key : Key) (form : IsKey key) where
  module _ (setting : Setting) where
    abbrev calls_of : L → ℕ
    calls_of link = calls_for setting.base key (state link).calls

    abbrev failed_calls_of : L → ℕ
    failed_calls_of link = failed_calls_for setting.base key (state link).calls

    abbrev landed_by_all : ℕ → ℕ → ℕ
    landed_by_all actor count = tally (λ (e : Event). is_some (lands key e.act)) setting.history actor count

    abbrev broken_by_all : ℕ → ℕ → ℕ
    broken_by_all actor count = tally (λ (e : Event). breaks key e.act) setting.history actor count

    abbrev lacked_by_all : ℕ → ℕ → ℕ
    lacked_by_all actor count = tally (λ (e : Event). lacks key e.act) setting.history actor count

    -- what calls came to, by so many landings, failures of the link and wants of memory
    record Grown (old new : List L) (actor count : ℕ) : Type 0 where
      few : all_calls_for state setting.base key new
          ≤ all_calls_for state setting.base key old + (landed_by_all actor count + (broken_by_all actor count + lacked_by_all actor count))
      failed : all_failed_calls_for state setting.base key new ≡ all_failed_calls_for state setting.base key old + broken_by_all actor count

    rests : (old new : List L) (actor : ℕ) → new ≡ old → Grown old new actor 0
    rests old new actor same =
        let calls = ap (all_calls_for state setting.base key) same in
        let failed_calls = ap (all_failed_calls_for state setting.base key) same in
        record { few = omega (arith, calls); failed = omega (arith, failed_calls) }

    sessions_calls : (actor : ℕ) (jobs : List RootJob) (its : List Outcome) (old new : List L) → AreSessions state setting actor jobs its old new
        → All (λ (l : L). IsSome (state l).calls) old → Grown old new actor (length jobs)
    sessions_calls actor [] [] old new are told = rests old new actor are
    sessions_calls actor [] (it ∷ its) old new are told = absurd are
    sessions_calls actor (job ∷ jobs) [] old new are told = absurd are
    sessions_calls actor (job ∷ jobs) (it ∷ its) [] new are told = absurd are
    sessions_calls actor (job ∷ jobs) (it ∷ its) (link ∷ old) [] are told = absurd are
    sessions_calls actor (job ∷ jobs) (it ∷ its) (link ∷ old) (then ∷ new) are told =
        let this = link_calls setting.base key form (acts_of actor setting.history) (state link) (state then)
        (All-head (λ (l : L). IsSome (state l).calls) link old told) are.0.works in
        let rest = sessions_calls (suc actor) jobs its old new are.1 (All-tail (λ (l : L). IsSome (state l).calls) link old told) in
        let few_here = this.0 in
        let failed_here = this.1 in
        let few_rest = rest.few in
        let failed_rest = rest.failed in
        let before = sum_cons calls_of link old in
        let after = sum_cons calls_of then new in
        let failed_before = sum_cons failed_calls_of link old in
        let failed_after = sum_cons failed_calls_of then new in
        record {
          few = omega (arith, few_here, few_rest, before, after);
          failed = omega (arith, failed_here, failed_rest, failed_before, failed_after);
        }

    workers_calls : (actor count : ℕ) (old new : List L) → AreWorkers state setting actor count old new
        → All (λ (l : L). IsSome (state l).calls) old → Grown old new actor count
    workers_calls actor zero old new are told = rests old new actor are
    workers_calls actor (suc count) [] new are told = absurd are
    workers_calls actor (suc count) (link ∷ old) [] are told = absurd are
    workers_calls actor (suc count) (link ∷ old) (then ∷ new) are told =
        let this = link_calls setting.base key form (acts_of actor setting.history) (state link) (state then)
        (All-head (λ (l : L). IsSome (state l).calls) link old told) are.0.works in
        let rest = workers_calls (suc actor) count old new are.1 (All-tail (λ (l : L). IsSome (state l).calls) link old told) in
        let few_here = this.0 in
        let failed_here = this.1 in
        let few_rest = rest.few in
        let failed_rest = rest.failed in
        let before = sum_cons calls_of link old in
        let after = sum_cons calls_of then new in
        let failed_before = sum_cons failed_calls_of link old in
        let failed_after = sum_cons failed_calls_of then new in
        record {
          few = omega (arith, few_here, few_rest, before, after);
          failed = omega (arith, failed_here, failed_rest, failed_before, failed_after);
        }

  -- ---- of a run

  parts : (base : Base) (links : List L)
      → all_calls_for state base key links ≡ all_calls_for state base key (take 64 links) + all_calls_for state base key (drop 64 links)
  parts base links =
      ap (all_calls_for state base key) (sym (take-append-drop 64 links))
      ∙ sum_by-append (λ (link : L). calls_for base key (state link).calls) (take 64 links) (drop 64 links)

  failed_parts : (base : Base) (links : List L) → all_failed_calls_for state base key links
      ≡ all_failed_calls_for state base key (take 64 links) + all_failed_calls_for state base key (drop 64 links)
  failed_parts base links =
      ap (all_failed_calls_for state base key) (sym (take-append-drop 64 links))
      ∙ sum_by-append (λ (link : L). failed_calls_for base key (state link).calls) (take 64 links) (drop 64 links)

  module _ (same : Cause → Cause → Bool) (base : Base) (fingerprints : Fingerprints) (workers : ℕ) (jobs : List RootJob) (old new : List L)
      (outcomes : List Outcome) (cache : Cache) (run : IsRunOf state same base fingerprints workers jobs old new outcomes cache)
      (told : All (λ (l : L). IsSome (state l).calls) old) where
    abbrev setting : Setting
    setting = setting_of same base fingerprints workers cache.history

    of_sessions : Grown setting (take 64 old) (take 64 new) 0 (length jobs)
    of_sessions = sessions_calls setting 0 jobs outcomes (take 64 old) (take 64 new) run.sessions (All-take (λ (l : L). IsSome (state l).calls) 64 old told)

    of_workers : Grown setting (drop 64 old) (drop 64 new) (length jobs) workers
    of_workers = workers_calls setting (length jobs) workers (drop 64 old) (drop 64 new) run.crew (All-drop (λ (l : L). IsSome (state l).calls) 64 old told)

    -- of all actors together
    together : (test : Event → Bool) → tally test cache.history 0 (length jobs) + tally test cache.history (length jobs) workers ≤ count_by test cache.history
    together test =
        let start : 0 + length jobs ≡ length jobs = omega (arith) in
        let both = tally_on test cache.history 0 (length jobs) workers in
        let moved = ap (λ (actor : ℕ). tally test cache.history actor workers) start in
        let most = tally_most test cache.history 0 (length jobs + workers) in
        omega (arith, both, moved, most)

    once : landings key cache.history ≤ 1
    once = lands_once (length jobs) workers cache.history key run.legal

    -- the links' calls but for those that failed: one, and as many as lacked memory
    pub all_few : (lacking : ℕ) → lacked_by_all setting 0 (length jobs) + lacked_by_all setting (length jobs) workers ≤ lacking
        → all_calls_for state base key new + all_failed_calls_for state base key old
        ≤ all_calls_for state base key old + (all_failed_calls_for state base key new + (1 + lacking))
    all_few lacking most =
        let before = parts base old in
        let after = parts base new in
        let failed_before = failed_parts base old in
        let failed_after = failed_parts base new in
        let few_sessions = of_sessions.few in
        let few_workers = of_workers.few in
        let failed_sessions = of_sessions.failed in
        let failed_workers = of_workers.failed in
        let landed = together (λ (e : Event). is_some (lands key e.act)) in
        let one = once in
        omega (arith, before, after, failed_before, failed_after, few_sessions, few_workers, failed_sessions, failed_workers, landed, one, most)

    pub few_by_history : all_calls_for state base key new + all_failed_calls_for state base key old
        ≤ all_calls_for state base key old + (all_failed_calls_for state base key new + (1 + lacked key cache.history))
    few_by_history = all_few (lacked key cache.history) (together (λ (e : Event). lacks key e.act))

    pub few_by_outcomes : all_calls_for state base key new + all_failed_calls_for state base key old
        ≤ all_calls_for state base key old + (all_failed_calls_for state base key new + (1 + (memories outcomes + workers)))
    few_by_outcomes =
        let sessions = sessions_lack key state setting 0 jobs outcomes (take 64 old) (take 64 new) run.sessions in
        let crew = workers_lack key state setting (length jobs) workers (drop 64 old) (drop 64 new) run.crew in
        all_few (memories outcomes + workers) (omega (arith, sessions, crew))

    pub few_of_sessions : all_calls_for state base key (take 64 new) + all_failed_calls_for state base key (take 64 old)
        ≤ all_calls_for state base key (take 64 old) + (all_failed_calls_for state base key (take 64 new) + (1 + memories outcomes))
    few_of_sessions =
        let few = of_sessions.few in
        let failed = of_sessions.failed in
        let landed = tally_most (λ (e : Event). is_some (lands key e.act)) cache.history 0 (length jobs) in
        let one = once in
        let lacked_some = sessions_lack key state setting 0 jobs outcomes (take 64 old) (take 64 new) run.sessions in
        omega (arith, few, failed, landed, one, lacked_some)
