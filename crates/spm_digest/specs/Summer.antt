-- What has been fed to a summer.
use Rattle.std.specs.Prelude.{ℕ, List}
use Rattle.sha2.specs.Hashers.{Holds256}
use Rattle.spm_digest.specs.declared.sums.Summer.{Summer}

-- the pieces that the summer was fed, joined, are the message
abbrev pub Holds : Summer → List ℕ → Type 0
Holds summer message = Holds256 summer.hasher message
