-- What a pass has done, and what its answers mean in what it has seen.
use Rattle.std.specs.FinMap as map
use Rattle.std.specs.Prelude.{◌≡◌, ◌≢◌, ℕ, true, List, [], ◌∷◌, ◌++◌, Some, Result, Ok, Err}
use Rattle.spm_key.specs.declared.key.Key.{Key}
use Rattle.spm_turn.specs.Log.{StartsWith, of_numbers}
use Rattle.spm_cache_core.specs.History.{all_ended, canceller, event, landed}
use Rattle.spm_cache_core.specs.Legal.{IsFlight, IsSession}
use Rattle.spm_cache_core.specs.declared.answer.Asked.{Asked}
use Rattle.spm_cache_core.specs.declared.answer.Asked.TheVariants as asked
use Rattle.spm_cache_core.specs.declared.answer.Claimed.{Claimed}
use Rattle.spm_cache_core.specs.declared.answer.Claimed.TheVariants as claimed
use Rattle.spm_cache_core.specs.declared.event.Act.TheVariants.{Ask, Claim, Hint}
use Rattle.spm_cache_core.specs.declared.event.AskNote.TheVariants as ask
use Rattle.spm_cache_core.specs.declared.event.ClaimNote.TheVariants as claim
use Rattle.spm_cache_core.specs.declared.event.Event.{Event}
use Rattle.spm_cache.specs.Passing.{Passing}

-- the events of the pass's own numbers
abbrev pub mine : Passing → List Event
mine p = of_numbers (λ (e : Event). e.actor) p.numbers p.seen

-- the pass went on, with these events of its own: what it had seen is a beginning of what it has seen
pub record Steps (old new : Passing) (added : List Event) : Type 0 where
  pub same : new ≡ record old { seen = new.seen; told = new.told }
  pub own : mine new ≡ mine old ++ added
  pub starts : StartsWith new.seen old.seen

-- a session that had not ended has not ended
abbrev pub Keeps : Passing → Passing → Type 0
Keeps old new = IsSession old.sessions old.seen old.actor → IsSession new.sessions new.seen new.actor

-- the events that an ask adds
abbrev pub ask_events : {X : Type 0} → ℕ → Key → Result Asked X → List Event
ask_events actor key (Ok (asked.Cancelled by)) = event actor (Ask key (ask.Cancelled by)) ∷ []
ask_events actor key (Ok (asked.Have reply)) = event actor (Ask key (ask.Have reply)) ∷ []
ask_events actor key (Ok asked.Waiting) = []
ask_events actor key (Ok (asked.Fetch ticket)) = event actor (Ask key ask.Fetch) ∷ []
ask_events actor key (Err e) = []

-- what the answer to an ask means in what the pass has seen
abbrev pub AskKnows : {X : Type 0} → ℕ → Key → List Event → Result Asked X → Type 0
AskKnows actor key seen (Ok (asked.Cancelled by)) = (canceller seen ≡ Some by) × (by ≢ actor)
AskKnows actor key seen (Ok (asked.Have reply)) = map.get (landed seen) key ≡ Some reply
AskKnows actor key seen (Ok asked.Waiting) = Unit {0}
AskKnows actor key seen (Ok (asked.Fetch ticket)) = IsFlight seen ticket × (ticket.key ≡ key) × (ticket.actor ≡ actor)
AskKnows actor key seen (Err e) = Unit {0}

-- the events that a claim adds
abbrev pub claim_events : {X : Type 0} → ℕ → Result Claimed X → List Event
claim_events actor (Ok claimed.Closed) = event actor (Claim claim.Closed) ∷ []
claim_events actor (Ok (claimed.Fetch key ticket)) = event actor (Claim (claim.Fetch key)) ∷ []
claim_events actor (Ok claimed.Nothing) = []
claim_events actor (Err e) = []

-- what the answer to a claim means in what the pass has seen
abbrev pub ClaimKnows : {X : Type 0} → ℕ → ℕ → List Event → Result Claimed X → Type 0
ClaimKnows sessions actor seen (Ok claimed.Closed) = all_ended sessions seen ≡ true
ClaimKnows sessions actor seen (Ok (claimed.Fetch key ticket)) = IsFlight seen ticket × (ticket.key ≡ key) × (ticket.actor ≡ actor)
ClaimKnows sessions actor seen (Ok claimed.Nothing) = Unit {0}
ClaimKnows sessions actor seen (Err e) = Unit {0}

-- the events that a hint adds
abbrev pub hint_events : {T X : Type 0} → ℕ → List Key → Result T X → List Event
hint_events actor keys (Ok done) = event actor (Hint keys) ∷ []
hint_events actor keys (Err e) = []
