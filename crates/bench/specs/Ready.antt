-- Who may ask.
use Rattle.std.specs.Prelude.{◌≡◌, ℕ, false, [], ◌∷◌}
use Rattle.spm_cache_core.specs.Cache.{Cache}
use Rattle.spm_cache_core.specs.History.{has_ended}
use Rattle.spm_cache_core.specs.Legal.{IsSession}
use Rattle.spm_cache.specs.Passing.{Passing}
use Rattle.spm_turn.specs.Sitting.{TableId}

-- the pass of a session that has not ended, with its own number alone
abbrev pub IsReady : TableId → Passing → Type 0
IsReady id p = (p.of ≡ id) × (p.numbers ≡ p.actor ∷ []) × IsSession p.sessions p.seen p.actor

-- nobody has ended
abbrev pub NoneEnded : Cache → Type 0
NoneEnded c = (actor : ℕ) → has_ended actor c.history ≡ false
