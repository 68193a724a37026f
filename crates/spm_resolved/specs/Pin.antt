-- A step of reading a pin, as a function of its own.
use Rattle.std.specs.Prelude.{ℕ, List, Bool}
use Rattle.spm_json.specs.Reading.{Reading, ◌>>=◌}
use Rattle.spm_json.specs.Value.{identity_in}
use Rattle.spm_resolved.specs.Reading.{new_identity}

-- the identity that a text is, which is without one of these names
abbrev pub identity_unless : (List ℕ → Bool) → List ℕ → Reading (List ℕ)
identity_unless is_doubled text = identity_in text >>= new_identity is_doubled
