-- Reading a package whose identity wasn't met before, as a function of its own.
use Rattle.std.specs.Prelude.{ℕ, List, Bool, Ok, if◌then◌else◌}
use Rattle.serde_json.specs.Data.{Data}
use Rattle.spm_version.specs.declared.kind.Kind.TheVariants.{Doubled}
use Rattle.spm_json.specs.Reading.{Reading, fault_here, ◌>>=◌}
use Rattle.spm_json.specs.Sequence.{members_of}
use Rattle.spm_json.specs.Value.{identity_in}
use Rattle.spm_trust.specs.File.{fingerprint_member}
use Rattle.spm_trust.specs.declared.file.KeptPackage.{KeptPackage}

-- a package without one of these identities
abbrev pub package_unless : (List ℕ → Bool) → List ℕ → Data → Reading KeptPackage
package_unless is_doubled key d = identity_in key >>= λ read. (if is_doubled read then fault_here Doubled else Ok read) >>= λ identity.
    members_of fingerprint_member d >>= λ sums.
    Ok (record { identity = identity; sums = sums })
