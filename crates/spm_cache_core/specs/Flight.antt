-- What contracts see of a ticket.
use Rattle.std.specs.Prelude.{ℕ}
use Rattle.spm_key.specs.declared.key.Key.{Key}

-- the key that is fetched, the place of the event that began the flight, and the actor that fetches
pub record Flight : Type 0 where
  pub key : Key
  pub number : ℕ
  pub actor : ℕ
