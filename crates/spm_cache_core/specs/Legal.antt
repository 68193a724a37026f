-- What may happen.
use Rattle.std.specs.Prelude.{◌≡◌, ℕ, ◌+◌, ◌<◌, ◌≤◌, false, List, ◌∷◌, ◌++◌, Some}
use Rattle.spm_cache_core.specs.Answers.{AskAnswer, ClaimAnswer, ask_answer, claim_answer}
use Rattle.spm_cache_core.specs.Answers as answer
use Rattle.spm_cache_core.specs.Flight.{Flight}
use Rattle.spm_cache_core.specs.History.{flight, flyer, has_cancelled, has_ended}
use Rattle.spm_cache_core.specs.declared.event.Act.{Act}
use Rattle.spm_cache_core.specs.declared.event.Act.TheVariants.{Ask, Claim, Land, Fail, Hint, Cancel, End}
use Rattle.spm_cache_core.specs.declared.event.AskNote.{AskNote}
use Rattle.spm_cache_core.specs.declared.event.AskNote.TheVariants as ask
use Rattle.spm_cache_core.specs.declared.event.ClaimNote.{ClaimNote}
use Rattle.spm_cache_core.specs.declared.event.ClaimNote.TheVariants as claim
use Rattle.spm_cache_core.specs.declared.event.Event.{Event}

-- the answers that are noted in an event
abbrev pub asked_answer : AskNote → AskAnswer
asked_answer (ask.Cancelled by) = answer.Cancelled by
asked_answer (ask.Have reply) = answer.Have reply
asked_answer ask.Fetch = answer.Fetch

-- the answers to a claim that are noted in an event
abbrev pub claimed_answer : ClaimNote → ClaimAnswer
claimed_answer claim.Closed = answer.Closed
claimed_answer (claim.Fetch key) = answer.Fetch key

-- the actor is a session that has not ended
abbrev pub IsSession : ℕ → List Event → ℕ → Type 0
IsSession sessions history actor = (actor < sessions) × (has_ended actor history ≡ false)

-- the actor is a worker
abbrev pub IsWorker : ℕ → ℕ → ℕ → Type 0
IsWorker sessions workers actor = (sessions ≤ actor) × (actor < sessions + workers)

-- the actor may do this after these events
abbrev pub IsAllowed : ℕ → ℕ → List Event → ℕ → Act → Type 0
IsAllowed sessions workers before actor (Ask key note) =
    IsSession sessions before actor × (ask_answer before actor key ≡ asked_answer note)
IsAllowed sessions workers before actor (Claim note) =
    IsWorker sessions workers actor × (claim_answer sessions before ≡ claimed_answer note)
IsAllowed sessions workers before actor (Land key reply) = flyer key before ≡ Some actor
IsAllowed sessions workers before actor (Fail key why) = flyer key before ≡ Some actor
IsAllowed sessions workers before actor (Hint keys) = IsSession sessions before actor
IsAllowed sessions workers before actor Cancel = IsSession sessions before actor × (has_cancelled actor before ≡ false)
IsAllowed sessions workers before actor End = IsSession sessions before actor

-- each event was allowed after those before it
abbrev pub IsLegal : ℕ → ℕ → List Event → Type 0
IsLegal sessions workers history =
    (before after : List Event) (e : Event) → history ≡ before ++ e ∷ after → IsAllowed sessions workers before e.actor e.act

-- the ticket is that of its key's open flight
abbrev pub IsFlight : List Event → Flight → Type 0
IsFlight history ticket = flight ticket.key history ≡ Some (ticket.number, ticket.actor)
