-- Where the characters of a trait's name stand.
use Rattle.std.specs.Prelude.{ℕ, ◌==◌, Bool, if◌then◌else◌}
use Rattle.spm_trait.specs.TraitName.{begins_trait, continues_trait}

-- whether the character may stand at a place, from 0
abbrev pub stands : ℕ → ℕ → Bool
stands place char = if place == 0 then begins_trait char else continues_trait char
