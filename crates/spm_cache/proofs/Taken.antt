-- A pass's seat during a turn: before it, while it has the turn, and after it.
use Rattle.std.proofs.Common.{◌≡◌, ℕ, ◌≤◌, true, false, List, length, sym, ap, ap₂, ◌∙◌, subst, Option, None}
use Rattle.spm_turn.specs.Log.{has, OthersFollow}
use Rattle.spm_turn.specs.Sitting.{Sitting}
use Rattle.spm_cache_core.specs.Cache.{Cache}
use Rattle.spm_cache_core.specs.Flight.{Flight}
use Rattle.spm_cache_core.specs.History.{has_cancelled}
use Rattle.spm_cache_core.specs.Legal.{IsFlight, IsLegal, IsSession, IsWorker}
use Rattle.spm_cache_core.specs.declared.event.Event.{Event}
use Rattle.spm_cache.specs.Passing.{Passing}
use Rattle.spm_cache.specs.Seated.{IsPass, passing}
use Rattle.spm_cache.specs.declared.kept.Terms.{Terms}
use Rattle.spm_cache.proofs.Turns.{by, cancel_at, flight_at, session_at}

-- what a pass knows of the state that it took
pub record Found (pass : Passing) (state : Cache) : Type 0 where
  pub own : has pass.numbers pass.actor ≡ true
  pub others : OthersFollow by pass.numbers pass.seen state.history
  pub told : pass.told ≤ length state.history
  pub sessions : state.sessions ≡ pass.sessions
  pub workers : state.workers ≡ pass.workers
  pub legal : IsLegal state.sessions state.workers state.history

-- the turn that a seat took tells it
pub found : (seat : Sitting Event Terms) (actor : ℕ) (pass : Passing) (state : Cache) → passing seat actor ≡ pass → IsPass seat actor
    → OthersFollow by seat.numbers seat.seen state.history
    → seat.told ≤ length state.history
    → (state.sessions ≡ seat.terms.sessions) × (state.workers ≡ seat.terms.workers)
    → IsLegal state.sessions state.workers state.history → Found pass state
found seat actor pass state is fits others told terms legal =
    let here : Found (passing seat actor) state =
    record { own = fits.own; others = others; told = told; sessions = terms.0; workers = terms.1; legal = legal } in
    subst (λ p. Found p state) is here

module _ (pass : Passing) (state at : Cache) (same : at ≡ state) (f : Found pass state) where
  -- its session is one there
  pub session_there : (actor : ℕ) → actor ≡ pass.actor → IsSession pass.sessions pass.seen pass.actor
      → IsSession at.sessions at.history actor
  session_there actor who session =
      let there : IsSession state.sessions state.history pass.actor =
      subst (λ n. IsSession n state.history pass.actor) (sym f.sessions)
      (session_at pass.numbers pass.seen state.history pass.sessions pass.actor f.others f.own session) in
      subst (λ (a : ℕ). IsSession at.sessions at.history a) (sym who)
      (subst (λ (s : Cache). IsSession s.sessions s.history pass.actor) (sym same) there)

  -- its worker is one there
  pub worker_there : (actor : ℕ) → actor ≡ pass.actor → IsWorker pass.sessions pass.workers pass.actor
      → IsWorker at.sessions at.workers actor
  worker_there actor who worker =
      let there : IsWorker state.sessions state.workers pass.actor =
      subst (λ n. IsWorker n state.workers pass.actor) (sym f.sessions)
      (subst (λ n. IsWorker pass.sessions n pass.actor) (sym f.workers) worker) in
      subst (λ (a : ℕ). IsWorker at.sessions at.workers a) (sym who)
      (subst (λ (s : Cache). IsWorker s.sessions s.workers pass.actor) (sym same) there)

  -- it has not cancelled there
  pub cancel_there : (actor : ℕ) → actor ≡ pass.actor → has_cancelled pass.actor pass.seen ≡ false
      → has_cancelled actor at.history ≡ false
  cancel_there actor who none =
      ap₂ (λ (a : ℕ) (s : Cache). has_cancelled a s.history) who same
      ∙ cancel_at pass.numbers pass.seen state.history pass.actor f.others f.own none

  -- its flight is open there
  pub flight_there : (ticket : Flight) → IsFlight pass.seen ticket → has pass.numbers ticket.actor ≡ true → IsFlight at.history ticket
  flight_there ticket flight own =
      subst (λ (s : Cache). IsFlight s.history ticket) (sym same)
      (flight_at pass.numbers pass.seen state.history state.sessions state.workers ticket f.others own f.legal flight)

-- the pass after a turn
pub pass_kept : (seat given left : Sitting Event Terms) (actor : ℕ) (pass : Passing) (base : Option (List Event)) (seen : List Event)
    → given ≡ record seat { base = base }
    → left ≡ record given { seen = seen; base = None }
    → passing seat actor ≡ pass
    → passing left actor ≡ record pass { seen = left.seen }
pass_kept seat given left actor pass base seen took gave is =
    let all : left ≡ record seat { seen = seen; base = None } =
    gave ∙ ap (λ (s : Sitting Event Terms). record s { seen = seen; base = None }) took in
    ap (λ (s : Sitting Event Terms). passing s actor) all
    ∙ (ap (λ (p : Passing). record p { seen = seen }) is
    ∙ ap (λ (h : List Event). record pass { seen = h }) (sym (ap (λ (s : Sitting Event Terms). s.seen) all)))
