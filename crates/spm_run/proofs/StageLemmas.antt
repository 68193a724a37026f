-- A run over the links that it uses, from its parts.
use Rattle.std.proofs.Common.{◌≡◌, ℕ, ◌+◌, ◌<◌, true, List, drop, length, take, sym, refl, ap, ◌∙◌, subst, arith}
use Rattle.spm_cache.specs.Passing.{Passing, newcomers}
use Rattle.spm_cache_core.specs.Cache.{Cache}
use Rattle.spm_cache_core.specs.Legal.{IsLegal}
use Rattle.spm_cache_core.specs.declared.event.Event.{Event}
use Rattle.spm_outside.specs.Link.{LinkState}
use Rattle.spm_session.specs.declared.job.RootJob.{RootJob}
use Rattle.spm_session.specs.declared.outcome.Outcome.{Outcome}
use Rattle.spm_turn.specs.Log.{AreMarkedBelow, has, numbers_from, of_numbers}
use Rattle.spm_turn.specs.Sitting.{TableId}
use Rattle.spm_turn.proofs.Numbers.{are_below}
use Rattle.spm_run.specs.Actors.{AreFollowed, AreMet, links_of, outcomes_of, passes_of, seated}
use Rattle.spm_run.specs.Run.{AreSessions, AreWorkers, IsUsedRun, Setting}
use Rattle.spm_run.specs.declared.actor.Actor.{Actor}
use Rattle.spm_run.proofs.PartLemmas.{AllDid, all_are, each_goes, has_all, numbers_seated, own_marked, still_numbers, still_terms, terms_seated}
use Rattle.spm_run.proofs.QuietLemmas.{all_of, go_on, none_gave_up}

module _ {L : Type 0} (state : L → LinkState) (setting : Setting) (id : TableId) (workers : ℕ) (jobs : List RootJob) (used : List L)
    (news : List (Actor L)) (whole : Passing) (as_many : length used ≡ length jobs + workers)
    (did : AllDid state setting (seated (newcomers id (length jobs) workers) used jobs) news) (met : AreMet (passes_of news) whole) where
  numbers_are : whole.numbers ≡ numbers_from 0 (length jobs + workers)
  numbers_are =
      met.numbers ∙ still_numbers state setting (seated (newcomers id (length jobs) workers) used jobs) news did
      ∙ numbers_seated id (length jobs) workers 0 (length jobs + workers) used jobs as_many

  -- the last pass has all numbers
  pub has_each : (n : ℕ) → n < length jobs + workers → has whole.numbers n ≡ true
  has_each n below = ap (λ (ns : List ℕ). has ns n) numbers_are ∙ has_all (length jobs + workers) n below

  terms_are : (whole.sessions ≡ length jobs) × (whole.workers ≡ workers)
  terms_are =
      met.terms (length jobs) workers
      (still_terms state setting (length jobs) workers (seated (newcomers id (length jobs) workers) used jobs) news did
      (terms_seated id (length jobs) workers 0 (length jobs + workers) used jobs))

  -- the run of which the cache was closed
  pub used_run : (outcomes : List Outcome) (links : List L) (cache : Cache) → outcomes ≡ outcomes_of news → links ≡ links_of news
      → cache.history ≡ whole.seen → (cache.sessions ≡ whole.sessions) × (cache.workers ≡ whole.workers)
      → of_numbers (λ (e : Event). e.actor) whole.numbers whole.seen ≡ whole.seen → IsLegal whole.sessions whole.workers whole.seen
      → setting.history ≡ cache.history → IsUsedRun state setting workers jobs used links outcomes cache
  used_run outcomes links cache outcomes_are links_are history terms own legal same =
      let seen_is = same ∙ history in
      let marked = subst (AreMarkedBelow (λ (e : Event). e.actor) (length jobs + workers)) (sym seen_is)
      (own_marked whole.numbers (length jobs + workers)
      (λ n there. are_below (length jobs + workers) n (sym (ap (λ (ns : List ℕ). has ns n) numbers_are) ∙ there)) whole.seen own) in
      let followed = subst (AreFollowed (passes_of news)) (sym seen_is) met.followed in
      let none = none_gave_up setting.history (all_of go_on (length jobs + workers) setting.history marked
      (λ actor few. each_goes state setting id (length jobs) workers 0 (length jobs + workers) used jobs news as_many did followed actor (omega (arith)) (omega (arith, few)))) in
      let start : 0 + length jobs ≡ length jobs = omega (arith) in
      let parts = all_are state setting id (length jobs) workers none 0 (length jobs + workers) workers used jobs news refl as_many did followed in
      record {
        history = sym same;
        roots = terms.0 ∙ terms_are.0;
        helpers = terms.1 ∙ terms_are.1;
        legal = subst (IsLegal (length jobs) workers) (sym seen_is)
            (subst (λ (n : ℕ). IsLegal n workers whole.seen) terms_are.0 (subst (λ (n : ℕ). IsLegal whole.sessions n whole.seen) terms_are.1 legal));
        actors = marked;
        sessions = subst (λ (its : List Outcome). AreSessions state setting 0 jobs its (take (length jobs) used) (take (length jobs) links)) (sym outcomes_are)
            (subst (λ (ls : List L). AreSessions state setting 0 jobs (outcomes_of news) (take (length jobs) used) (take (length jobs) ls)) (sym links_are)
            parts.0);
        crew = subst (λ (actor : ℕ). AreWorkers state setting actor workers (drop (length jobs) used) (drop (length jobs) links)) start
            (subst (λ (ls : List L). AreWorkers state setting (0 + length jobs) workers (drop (length jobs) used) (drop (length jobs) ls)) (sym links_are)
            parts.1);
      }
