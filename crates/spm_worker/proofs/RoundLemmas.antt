-- The rounds of a worker, one after the other.
use Rattle.std.proofs.Common.{◌≡◌, ℕ, List, [], ◌∷◌, ◌++◌, Option, Some, None, IfNone, IfSome, refl, sym, ap, ◌∙◌, subst, inl, inr, append_assoc, append-nil}
use Rattle.spm_api.specs.declared.base.Base.{Base}
use Rattle.spm_cache.specs.Passing.{Passing}
use Rattle.spm_cache.specs.Work.{Steps}
use Rattle.spm_cache_core.specs.Flight.{Flight}
use Rattle.spm_cache_core.specs.History.{event}
use Rattle.spm_cache_core.specs.declared.event.Act.{Act}
use Rattle.spm_cache_core.specs.declared.event.Act.TheVariants.{Claim, Fail}
use Rattle.spm_cache_core.specs.declared.event.ClaimNote.TheVariants as claim
use Rattle.spm_cache_core.specs.declared.event.Event.{Event}
use Rattle.spm_cache_core.specs.declared.event.Why.TheVariants as why
use Rattle.spm_flight.specs.Work.{Does, flown_event}
use Rattle.spm_flight.specs.declared.flight.Flown.{Flown}
use Rattle.spm_flight.specs.declared.flight.Flown.TheVariants as flown
use Rattle.spm_flight.proofs.WorkLemmas.{does_then, one_step}
use Rattle.spm_key.specs.declared.key.Key.{Key}
use Rattle.spm_key.specs.declared.reply.Reply.{Reply}
use Rattle.spm_outside.specs.Link.{LinkState}
use Rattle.spm_worker.specs.Worker.{Claimed, IsRound, IsWork, LastRound, all_claimed, claimed_events, end_after, end_of}
use Rattle.spm_worker.specs.declared.worker.WorkEnd.{WorkEnd}
use Rattle.spm_worker.specs.declared.worker.WorkEnd.TheVariants as end

-- what was done, and what shape it has
abbrev pub Done : (List Event → Type 0) → Base → LinkState → LinkState → Passing → Passing → Type 0
Done shape base before after old new = (added : List Event) × Does base before after old new added × shape added

-- what a flight did, by how the worker ends after it
module _ (base : Base) (link after : LinkState) (old new : Passing) (ticket : Flight) where
  abbrev More : Option WorkEnd → Type 0
  More result = IfNone result ((reply : Option Reply) × Does base link after old new (event ticket.actor (end_of ticket.key reply) ∷ []))

  abbrev Last : Option WorkEnd → Type 0
  Last result = IfSome result (λ how. (how ≡ end.Memory) × Does base link after old new (event ticket.actor (Fail ticket.key why.Memory) ∷ []))

  pub flown_more : (how : Flown) (result : Option WorkEnd) → result ≡ end_after how → Does base link after old new (flown_event ticket how ∷ [])
      → IfNone result ((reply : Option Reply) × Does base link after old new (event ticket.actor (end_of ticket.key reply) ∷ []))
  flown_more (flown.Landed reply) result is does = subst More (sym is) (Some reply, does)
  flown_more flown.Broken result is does = subst More (sym is) (None, does)
  flown_more flown.Memory result is does = subst More (sym is) tt

  pub flown_last : (how : Flown) (result : Option WorkEnd) → result ≡ end_after how → Does base link after old new (flown_event ticket how ∷ [])
      → IfSome result (λ last. (last ≡ end.Memory) × Does base link after old new (event ticket.actor (Fail ticket.key why.Memory) ∷ []))
  flown_last (flown.Landed reply) result is does = subst Last (sym is) tt
  flown_last flown.Broken result is does = subst Last (sym is) tt
  flown_last flown.Memory result is does = subst Last (sym is) (refl, does)

module _ (base : Base) (link after : LinkState) (old middle new : Passing) (key : Key) (ticket : Flight)
    (claims : Steps old middle (event old.actor (Claim (claim.Fetch key)) ∷ [])) (same : ticket.key ≡ key) (by : ticket.actor ≡ old.actor) where
  -- a claim, and behind it the end of the flight that it began
  claimed : (act : Key → Act) → Does base link after middle new (event ticket.actor (act ticket.key) ∷ [])
      → Does base link after old new (event old.actor (Claim (claim.Fetch key)) ∷ event old.actor (act key) ∷ [])
  claimed act does =
      does_then base link link after old middle new (event old.actor (Claim (claim.Fetch key)) ∷ []) (event old.actor (act key) ∷ [])
      (one_step base link old middle (event old.actor (Claim (claim.Fetch key))) refl claims)
      (subst (λ (k : Key). Does base link after middle new (event old.actor (act k) ∷ [])) same
      (subst (λ (actor : ℕ). Does base link after middle new (event actor (act ticket.key) ∷ [])) by does))

  pub round_more : (result : Option WorkEnd)
      → IfNone result ((reply : Option Reply) × Does base link after middle new (event ticket.actor (end_of ticket.key reply) ∷ []))
      → IfNone result ((added : List Event) × Does base link after old new added × IsRound old.actor added)
  round_more None flown =
      (claimed_events old.actor (record { key = key; reply = flown.0 }), claimed (λ k. end_of k flown.0) flown.1, inr (record { key = key; reply = flown.0 }, refl))
  round_more (Some how) flown = tt

  pub round_last : (result : Option WorkEnd)
      → IfSome result (λ how. (how ≡ end.Memory) × Does base link after middle new (event ticket.actor (Fail ticket.key why.Memory) ∷ []))
      → IfSome result (λ how. (added : List Event) × Does base link after old new added × LastRound old.actor how added)
  round_last None flown = tt
  round_last (Some how) flown = (
    event old.actor (Claim (claim.Fetch key)) ∷ event old.actor (Fail key why.Memory) ∷ [],
    claimed (λ k. Fail k why.Memory) flown.1,
    subst (λ (h : WorkEnd). LastRound old.actor h (event old.actor (Claim (claim.Fetch key)) ∷ event old.actor (Fail key why.Memory) ∷ [])) (sym flown.0)
        (inr (key, refl)),
  )

-- ---- rounds

-- the flights so far, and nothing else
abbrev pub AreRounds : ℕ → List Event → Type 0
AreRounds actor added = (flights : List Claimed) × (added ≡ all_claimed actor flights)

-- the flights behind others
all_behind : (actor : ℕ) (flights : List Claimed) (flight : Claimed)
    → all_claimed actor flights ++ claimed_events actor flight ≡ all_claimed actor (flights ++ flight ∷ [])
all_behind actor [] flight = refl
all_behind actor (first ∷ flights) flight =
    append_assoc (claimed_events actor first) (all_claimed actor flights) (claimed_events actor flight)
    ∙ ap (λ (events : List Event). claimed_events actor first ++ events) (all_behind actor flights flight)

-- a round more
pub rounds_on : (actor : ℕ) (added more : List Event) → AreRounds actor added → IsRound actor more → AreRounds actor (added ++ more)
rounds_on actor added more done (inl none) = (done.0, ap (λ (events : List Event). added ++ events) none ∙ append-nil added ∙ done.1)
rounds_on actor added more done (inr flown) = (
  done.0 ++ flown.0 ∷ [],
  ap (λ (events : List Event). added ++ events) flown.1 ∙ ap (λ (events : List Event). events ++ claimed_events actor flown.0) done.1
      ∙ all_behind actor done.0 flown.0,
)

-- and the last
pub rounds_end : (actor : ℕ) (how : WorkEnd) (added last : List Event) → AreRounds actor added → LastRound actor how last → IsWork actor how (added ++ last)
rounds_end actor how added last done is =
    record { flights = done.0; last = last; is_last = is; are = ap (λ (events : List Event). events ++ last) done.1 }
