-- What a worker does.
use Rattle.std.specs.Prelude.{◌≡◌, ◌⊎◌, ℕ, List, [], ◌∷◌, ◌++◌, Option, Some, None}
use Rattle.std.specs.List.{flat_map}
use Rattle.spm_cache_core.specs.History.{event}
use Rattle.spm_cache_core.specs.declared.event.Act.{Act}
use Rattle.spm_cache_core.specs.declared.event.Act.TheVariants.{Claim, Fail, Land}
use Rattle.spm_cache_core.specs.declared.event.ClaimNote.TheVariants as claim
use Rattle.spm_cache_core.specs.declared.event.Event.{Event}
use Rattle.spm_cache_core.specs.declared.event.Why.TheVariants as why
use Rattle.spm_flight.specs.declared.flight.Flown.{Flown}
use Rattle.spm_flight.specs.declared.flight.Flown.TheVariants as flown
use Rattle.spm_key.specs.declared.key.Key.{Key}
use Rattle.spm_key.specs.declared.reply.Reply.{Reply}
use Rattle.spm_worker.specs.declared.worker.WorkEnd.{WorkEnd}
use Rattle.spm_worker.specs.declared.worker.WorkEnd.TheVariants as end

-- a flight that a worker claimed: its key, and the reply that landed, or none where the link failed
pub record Claimed : Type 0 where
  pub key : Key
  pub reply : Option Reply

-- the act of its end
abbrev pub end_of : Key → Option Reply → Act
end_of key (Some reply) = Land key reply
end_of key None = Fail key why.Link

-- its two events
abbrev pub claimed_events : ℕ → Claimed → List Event
claimed_events actor flight = event actor (Claim (claim.Fetch flight.key)) ∷ event actor (end_of flight.key flight.reply) ∷ []

abbrev pub all_claimed : ℕ → List Claimed → List Event
all_claimed actor flights = flat_map (claimed_events actor) flights

-- one flight, or none
abbrev pub IsRound : ℕ → List Event → Type 0
IsRound actor added = (added ≡ []) ⊎ ((flight : Claimed) × (added ≡ claimed_events actor flight))

-- the last claim was answered that all is closed; or there was no memory, for a claim, or for a flight, which failed for that
abbrev pub LastRound : ℕ → WorkEnd → List Event → Type 0
LastRound actor end.Closed added = added ≡ event actor (Claim claim.Closed) ∷ []
LastRound actor end.Memory added =
    (added ≡ []) ⊎ ((key : Key) × (added ≡ event actor (Claim (claim.Fetch key)) ∷ event actor (Fail key why.Memory) ∷ []))

-- how a worker ends after a flight, if it does
abbrev pub end_after : Flown → Option WorkEnd
end_after (flown.Landed reply) = None
end_after flown.Broken = None
end_after flown.Memory = Some end.Memory

-- all that a worker does: its flights, one after the other, and its last round
pub record IsWork (actor : ℕ) (how : WorkEnd) (added : List Event) : Type 0 where
  pub flights : List Claimed
  pub last : List Event
  pub is_last : LastRound actor how last
  pub are : added ≡ all_claimed actor flights ++ last
