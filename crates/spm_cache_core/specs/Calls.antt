-- What a call answers, and what it leaves.
use Rattle.std.specs.Prelude.{◌≡◌, ℕ, ◌+◌, [], ◌∷◌, ◌++◌, length}
use Rattle.spm_key.specs.declared.key.Key.{Key}
use Rattle.spm_cache_core.specs.Answers.{ask_answer, claim_answer}
use Rattle.spm_cache_core.specs.Answers as answer
use Rattle.spm_cache_core.specs.Cache.{Cache}
use Rattle.spm_cache_core.specs.History.{event}
use Rattle.spm_cache_core.specs.declared.answer.Asked.{Asked}
use Rattle.spm_cache_core.specs.declared.answer.Asked.TheVariants as asked
use Rattle.spm_cache_core.specs.declared.answer.Claimed.{Claimed}
use Rattle.spm_cache_core.specs.declared.answer.Claimed.TheVariants as claimed
use Rattle.spm_cache_core.specs.declared.event.Act.TheVariants.{Ask, Claim}
use Rattle.spm_cache_core.specs.declared.event.AskNote.TheVariants as ask
use Rattle.spm_cache_core.specs.declared.event.ClaimNote.TheVariants as claim
use Rattle.spm_cache_core.specs.declared.event.Event.{Event}

-- the event was added, and so much room is kept besides
abbrev pub Appends : Cache → Event → ℕ → Cache → Type 0
Appends old e more new = new ≡ record old { history = old.history ++ e ∷ []; spare = old.spare + more }

-- the event was added, into room that was kept
pub record Spends (old : Cache) (e : Event) (new : Cache) : Type 0 where
  pub history : new.history ≡ old.history ++ e ∷ []
  pub sessions : new.sessions ≡ old.sessions
  pub workers : new.workers ≡ old.workers
  pub spare : new.spare + 1 ≡ old.spare

-- what an ask by the actor for the key tells
abbrev pub AskTells : Asked → ℕ → Key → Cache → Cache → Type 0
AskTells (asked.Cancelled by) actor key old new =
    (ask_answer old.history actor key ≡ answer.Cancelled by) × Appends old (event actor (Ask key (ask.Cancelled by))) 0 new
AskTells (asked.Have reply) actor key old new =
    (ask_answer old.history actor key ≡ answer.Have reply) × Appends old (event actor (Ask key (ask.Have reply))) 0 new
AskTells asked.Waiting actor key old new = (ask_answer old.history actor key ≡ answer.Waiting) × (new ≡ old)
AskTells (asked.Fetch ticket) actor key old new =
    (ask_answer old.history actor key ≡ answer.Fetch) × Appends old (event actor (Ask key ask.Fetch)) 1 new
    × (ticket ≡ record { key = key; number = length old.history; actor = actor })

-- what a claim by the actor tells
abbrev pub ClaimTells : Claimed → ℕ → Cache → Cache → Type 0
ClaimTells claimed.Closed actor old new =
    (claim_answer old.sessions old.history ≡ answer.Closed) × Appends old (event actor (Claim claim.Closed)) 0 new
ClaimTells (claimed.Fetch key ticket) actor old new =
    (claim_answer old.sessions old.history ≡ answer.Fetch key) × Appends old (event actor (Claim (claim.Fetch key))) 1 new
    × (ticket ≡ record { key = key; number = length old.history; actor = actor })
ClaimTells claimed.Nothing actor old new = (claim_answer old.sessions old.history ≡ answer.Nothing) × (new ≡ old)
