-- A fingerprint file: the SHA-256 of each archive that was met. `{"fingerprints":{IDENTITY:{VERSION:HEX}},"version":1}`, where HEX is
-- 64 hexadecimal digits.
use Rattle.std.specs.Str.{bytes_eq}
use Rattle.std.specs.Prelude.{ℕ, List, Bool, codes, Ok, if◌then◌else◌}
use Rattle.std.specs.List.{list_any}
use Rattle.serde_json.specs.Data.{Data}
use Rattle.spm_digest.specs.Digest.{sum_of}
use Rattle.spm_version.specs.declared.kind.Kind.TheVariants.{BadHex, Doubled}
use Rattle.spm_json.specs.Reading.{Reading, fault_here, or_fault, ◌>>=◌}
use Rattle.spm_json.specs.Shape.{object_of, text_of, whole_of}
use Rattle.spm_json.specs.Field.{field_of}
use Rattle.spm_json.specs.Sequence.{members_of}
use Rattle.spm_json.specs.Value.{identity_in, release_in, version_field}
use Rattle.spm_trust.specs.declared.file.KeptPackage.{KeptPackage}
use Rattle.spm_trust.specs.declared.file.KeptSum.{KeptSum}

-- 64 hexadecimal digits
abbrev pub sum_reading : Data → Reading (List ℕ)
sum_reading d = text_of d >>= λ text. or_fault BadHex (sum_of text)

-- a version and its sum
abbrev pub fingerprint_member : List KeptSum → List ℕ → Data → Reading KeptSum
fingerprint_member earlier key d = release_in key >>= λ release. sum_reading d >>= λ sum.
    Ok (record { release = release; sum = sum })

abbrev pub is_package : List ℕ → KeptPackage → Bool
is_package identity entry = bytes_eq entry.identity identity

abbrev pub not_doubled : List KeptPackage → List ℕ → Reading (List ℕ)
not_doubled earlier identity = if list_any (is_package identity) earlier then fault_here Doubled else Ok identity

-- a package and the sums of its versions
abbrev pub package_member : List KeptPackage → List ℕ → Data → Reading KeptPackage
package_member earlier key d = identity_in key >>= λ read. not_doubled earlier read >>= λ identity.
    members_of fingerprint_member d >>= λ sums.
    Ok (record { identity = identity; sums = sums })

abbrev pub fingerprints_reading : Data → Reading (List KeptPackage)
fingerprints_reading d = members_of package_member d

abbrev pub file_reading : Data → Reading (List KeptPackage)
file_reading d = object_of d >>= λ o.
    version_field 1 o >>= λ _.
    field_of fingerprints_reading (codes "fingerprints") o

-- what the bytes of a fingerprint file say, in its own order, or its first fault
abbrev pub trust_of : List ℕ → Reading (List KeptPackage)
trust_of bytes = whole_of file_reading bytes
