-- What the core's calls add.
use Rattle.std.proofs.Common.{◌≡◌, ℕ, List, refl, ap, inl, inr}
use Rattle.std.specs.Prelude.{Result, Ok, Err, IfOk, OnErr, OnOk}
use Rattle.spm_key.specs.declared.key.Key.{Key}
use Rattle.spm_cache_core.specs.Cache.{Cache}
use Rattle.spm_cache_core.specs.Calls.{Appends, AskTells, ClaimTells, Spends}
use Rattle.spm_cache_core.specs.History.{event}
use Rattle.spm_cache_core.specs.declared.answer.Asked.{Asked}
use Rattle.spm_cache_core.specs.declared.answer.Asked.TheVariants as asked
use Rattle.spm_cache_core.specs.declared.answer.Claimed.{Claimed}
use Rattle.spm_cache_core.specs.declared.answer.Claimed.TheVariants as claimed
use Rattle.spm_cache_core.specs.declared.event.Act.TheVariants.{Ask, Claim, Hint}
use Rattle.spm_cache_core.specs.declared.event.AskNote.TheVariants as ask
use Rattle.spm_cache_core.specs.declared.event.ClaimNote.TheVariants as claim
use Rattle.spm_cache_core.specs.declared.event.Event.{Event}
use Rattle.spm_cache.specs.Calls.{Moves, OrSame}

-- an event that was added is one event of its actor
pub appends_moves : (e : Event) (more : ℕ) (old new : Cache) → Appends old e more new → Moves e.actor old new
appends_moves e more old new is = record {
  sessions = ap (λ (c : Cache). c.sessions) is;
  workers = ap (λ (c : Cache). c.workers) is;
  adds = inr (e, ap (λ (c : Cache). c.history) is, refl);
}

-- so is one that was added into room that was kept
pub spends_moves : (e : Event) (old new : Cache) → Spends old e new → Moves e.actor old new
spends_moves e old new is = record { sessions = is.sessions; workers = is.workers; adds = inr (e, is.history, refl) }

-- where nothing happened there is nothing
pub same_moves : (actor : ℕ) (old new : Cache) → new ≡ old → Moves actor old new
same_moves actor old new is = record {
  sessions = ap (λ (c : Cache). c.sessions) is;
  workers = ap (λ (c : Cache). c.workers) is;
  adds = inl (ap (λ (c : Cache). c.history) is);
}

-- what an ask tells, in one
pub kept_ask : {X : Type 0} (result : Result Asked X) (actor : ℕ) (key : Key) (old new : Cache)
    → IfOk result (λ asked. AskTells asked actor key old new) → OnErr result (new ≡ old)
    → OrSame result (λ asked. AskTells asked actor key) old new
kept_ask (Ok answer) actor key old new ok err = ok
kept_ask (Err e) actor key old new ok err = err

-- what a claim tells, in one
pub kept_claim : {X : Type 0} (result : Result Claimed X) (actor : ℕ) (old new : Cache)
    → IfOk result (λ claimed. ClaimTells claimed actor old new) → OnErr result (new ≡ old)
    → OrSame result (λ claimed. ClaimTells claimed actor) old new
kept_claim (Ok answer) actor old new ok err = ok
kept_claim (Err e) actor old new ok err = err

-- what a hint tells, in one
pub kept_hint : {T X : Type 0} (result : Result T X) (actor : ℕ) (keys : List Key) (old new : Cache)
    → OnOk result (Appends old (event actor (Hint keys)) 0 new) → OnErr result (new ≡ old)
    → OrSame result (λ done old new. Appends old (event actor (Hint keys)) 0 new) old new
kept_hint (Ok answer) actor keys old new ok err = ok
kept_hint (Err e) actor keys old new ok err = err

-- an ask
pub ask_moves : {X : Type 0} (result : Result Asked X) (actor : ℕ) (key : Key) (old new : Cache)
    → OrSame result (λ asked. AskTells asked actor key) old new → Moves actor old new
ask_moves (Ok (asked.Cancelled by)) actor key old new is = appends_moves (event actor (Ask key (ask.Cancelled by))) 0 old new is.1
ask_moves (Ok (asked.Have reply)) actor key old new is = appends_moves (event actor (Ask key (ask.Have reply))) 0 old new is.1
ask_moves (Ok asked.Waiting) actor key old new is = same_moves actor old new is.1
ask_moves (Ok (asked.Fetch ticket)) actor key old new is = appends_moves (event actor (Ask key ask.Fetch)) 1 old new is.1
ask_moves (Err e) actor key old new is = same_moves actor old new is

-- a claim
pub claim_moves : {X : Type 0} (result : Result Claimed X) (actor : ℕ) (old new : Cache)
    → OrSame result (λ claimed. ClaimTells claimed actor) old new → Moves actor old new
claim_moves (Ok claimed.Closed) actor old new is = appends_moves (event actor (Claim claim.Closed)) 0 old new is.1
claim_moves (Ok (claimed.Fetch key ticket)) actor old new is =
    appends_moves (event actor (Claim (claim.Fetch key))) 1 old new is.1
claim_moves (Ok claimed.Nothing) actor old new is = same_moves actor old new is.1
claim_moves (Err e) actor old new is = same_moves actor old new is

-- a hint
pub hint_moves : {T X : Type 0} (result : Result T X) (actor : ℕ) (keys : List Key) (old new : Cache)
    → OrSame result (λ done old new. Appends old (event actor (Hint keys)) 0 new) old new → Moves actor old new
hint_moves (Ok done) actor keys old new is = appends_moves (event actor (Hint keys)) 0 old new is
hint_moves (Err e) actor keys old new is = same_moves actor old new is
