-- How a run goes, from the passes of an opened cache to its end.
use Rattle.std.proofs.Common.{◌≡◌, ℕ, ◌+◌, ◌<◌, ◌≤◌, true, List, length, None, sym, ap, ◌∙◌, subst, arith}
use Rattle.std.proofs.lemmas.List.{length-map}
use Rattle.std.proofs.lemmas.List.Elements.{All-weaker}
use Rattle.std.specs.List.{All}
use Rattle.spm_cache.specs.Passing.{Passing, newcomers}
use Rattle.spm_cache_core.specs.Cache.{Cache}
use Rattle.spm_cache_core.specs.Legal.{IsLegal}
use Rattle.spm_cache_core.specs.declared.event.Event.{Event}
use Rattle.spm_outside.specs.Link.{LinkState}
use Rattle.spm_session.specs.Run.{IsInput}
use Rattle.spm_session.specs.declared.job.RootJob.{RootJob}
use Rattle.spm_session.specs.declared.outcome.Outcome.{Outcome}
use Rattle.spm_turn.specs.Log.{has, of_numbers}
use Rattle.spm_turn.specs.Sitting.{TableId}
use Rattle.spm_run.specs.Actors.{AreMet, AreMetIn, AreOf, IsReadyActor, links_of, outcomes_of, passes_of, seated}
use Rattle.spm_run.specs.Run.{IsUsedRun, Setting}
use Rattle.spm_run.specs.declared.actor.Actor.{Actor}
use Rattle.spm_run.proofs.PartLemmas.{AllDid, all_ready, length_seated, still_as_many, still_of}
use Rattle.spm_run.proofs.StageLemmas.{has_each, used_run}

module _ {L : Type 0} (id : TableId) (workers : ℕ) (jobs : List RootJob) (used : List L) (olds : List (Actor L))
    (as_many : length used ≡ length jobs + workers) (seats : olds ≡ seated (newcomers id (length jobs) workers) used jobs) where
  pub seats_many : length olds ≡ length jobs + workers
  seats_many = ap (λ (actors : List (Actor L)). length actors) seats ∙ length_seated id (length jobs) workers 0 (length jobs + workers) used jobs as_many

  pub some_act : 1 ≤ length jobs → 0 < length olds
  some_act some = let many = seats_many in omega (arith, some, many)

  module _ (inputs : All (λ (job : RootJob). IsInput job.input) jobs) where
    pub ready : All (IsReadyActor {L = L} id) olds
    ready =
        subst (All (IsReadyActor {L = L} id)) (sym seats)
        (all_ready id (length jobs) workers 0 (length jobs + workers) used jobs (omega (arith)) (omega (arith)) inputs)

    module _ (state : L → LinkState) (setting : Setting) (news : List (Actor L)) (acted : AllDid state setting olds news) where
      pub still_here : AreOf id news
      still_here =
          still_of state setting id olds news acted
          (All-weaker (IsReadyActor {L = L} id) (λ (actor : Actor L). actor.pass.of ≡ id) (λ actor is. is.of) olds ready)

      pub news_many : length news ≡ length jobs + workers
      news_many = still_as_many state setting olds news acted ∙ seats_many

      pub links_many : length (links_of news) ≡ length jobs + workers
      links_many = length-map news (λ (actor : Actor L). actor.link) ∙ news_many

      pub none_left : 1 ≤ length jobs → AreMetIn (passes_of news) None → ⊥
      none_left some none =
          let nothing = ap (λ (passes : List Passing). length passes) none in
          let passes_many = length-map news (λ (actor : Actor L). actor.pass) in
          let many = news_many in
          absurd (omega (arith, some, nothing, passes_many, many))

      did : AllDid state setting (seated (newcomers id (length jobs) workers) used jobs) news
      did = subst (λ (actors : List (Actor L)). AllDid state setting actors news) seats acted

      module _ (whole : Passing) (met : AreMet (passes_of news) whole) where
        pub all_numbers : (count : ℕ) → count ≡ length jobs + workers → (n : ℕ) → n < count → has whole.numbers n ≡ true
        all_numbers count is n below = has_each state setting id workers jobs used news whole as_many did met n (omega (arith, is, below))

        pub run_is : (outcomes : List Outcome) (links : List L) (cache : Cache) → outcomes ≡ outcomes_of news → links ≡ links_of news
            → cache.history ≡ whole.seen → (cache.sessions ≡ whole.sessions) × (cache.workers ≡ whole.workers)
            → of_numbers (λ (e : Event). e.actor) whole.numbers whole.seen ≡ whole.seen → IsLegal whole.sessions whole.workers whole.seen
            → setting.history ≡ cache.history → IsUsedRun state setting workers jobs used links outcomes cache
        run_is outcomes links cache outcomes_are links_are history terms own legal same =
            used_run state setting id workers jobs used news whole as_many did met outcomes links cache outcomes_are links_are history terms own legal same
