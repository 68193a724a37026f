-- What a call of a pass tells.
use Rattle.std.specs.Prelude.{◌≡◌, ℕ, ◌≤◌, List, [], ◌∷◌, ◌++◌, ◌⊎◌, length, Result, Ok, Err}
use Rattle.spm_turn.specs.Log.{OthersFollow}
use Rattle.spm_cache_core.specs.Cache.{Cache}
use Rattle.spm_cache_core.specs.Legal.{IsLegal}
use Rattle.spm_cache_core.specs.declared.event.Event.{Event}
use Rattle.spm_cache.specs.Passing.{Passing}

-- what a call tells of its answer, or for want of memory that the state is what it was
abbrev pub OrSame : {T X : Type 0} → Result T X → (T → Cache → Cache → Type 0) → Cache → Cache → Type 0
OrSame (Ok answer) P old new = P answer old new
OrSame (Err e) P old new = new ≡ old

-- nothing happened, or one event of the actor, and there are as many sessions and workers as before
pub record Moves (actor : ℕ) (old new : Cache) : Type 0 where
  pub sessions : new.sessions ≡ old.sessions
  pub workers : new.workers ≡ old.workers
  pub adds : (new.history ≡ old.history) ⊎ ((e : Event) × (new.history ≡ old.history ++ e ∷ []) × (e.actor ≡ actor))

-- A call of a pass: the core's call was made on a state whose history goes on from what the pass had seen by events of others alone, and what the
-- pass has seen afterwards is the history that it left.
pub record Calls (pass : Passing) (seen : List Event) (P : Cache → Cache → Type 0) : Type 0 where
  pub old : Cache
  pub new : Cache
  pub sessions : old.sessions ≡ pass.sessions
  pub workers : old.workers ≡ pass.workers
  pub others : OthersFollow (λ (e : Event). e.actor) pass.numbers pass.seen old.history
  pub told : pass.told ≤ length old.history
  pub call : P old new
  pub history : seen ≡ new.history
  pub legal : IsLegal pass.sessions pass.workers seen
