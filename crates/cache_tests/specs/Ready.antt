-- A pass of a test.
use Rattle.std.specs.Prelude.{◌≡◌, [], ◌∷◌}
use Rattle.spm_cache_core.specs.Legal.{IsSession}
use Rattle.spm_cache.specs.Passing.{Passing}
use Rattle.spm_turn.specs.Sitting.{TableId}

-- the pass of a session that has not ended, with its own number alone
abbrev pub IsReady : TableId → Passing → Type 0
IsReady id p = (p.of ≡ id) × (p.numbers ≡ p.actor ∷ []) × IsSession p.sessions p.seen p.actor
