-- The fingerprints that are kept: of each version of a package, one sum. What is kept is never replaced.
use Rattle.std.specs.Str.{bytes_eq}
use Rattle.std.specs.Prelude.{◌≡◌, ◌==◌, ℕ, List, [], ◌∷◌, length, Bool, false, not, All, IsTrue, filter, map, Option, Some, None, Ok, Err, Result, if◌then◌else◌}
use Rattle.std.specs.Cmp.Lexicographic.{slice_cmp}
use Rattle.std.specs.List.Sorted.{IsPermutation, IsStrictlySortedBy}
use Rattle.std.specs.Ordering.{match_ordering, nat_cmp}
use Rattle.spm_digest.specs.Digest.{IsBytes}
use Rattle.spm_ident.specs.Identity.{IsIdentity}
use Rattle.spm_version.specs.Release.{IsValid, Parts, parts_text}
use Rattle.spm_json.specs.Reading.{Fails, Reading}
use Rattle.spm_json.specs.declared.fault.ReadFault.{ReadFault}
use Rattle.spm_trust.specs.File.{is_package}
use Rattle.spm_trust.specs.declared.file.KeptPackage.{KeptPackage}
use Rattle.spm_trust.specs.declared.file.KeptSum.{KeptSum}
use Rattle.spm_trust.specs.declared.met.Met.{Met}
use Rattle.spm_trust.specs.declared.met.Met.TheVariants.{Differs, Known, New}

-- ---- the map

-- strictly ascending by their bytes
abbrev pub Ascend : List (List ℕ) → Type 0
Ascend texts = IsStrictlySortedBy (slice_cmp nat_cmp) texts

-- packages in the order of their identities, each once
abbrev pub AreAscending : List KeptPackage → Type 0
AreAscending packages = Ascend (map (λ entry. entry.identity) packages)

-- sums in the order of their versions' texts, each version once
abbrev pub AreSums : List KeptSum → Type 0
AreSums sums = Ascend (map (λ kept. parts_text kept.release) sums)

-- the package has a sum
abbrev pub has_sums : KeptPackage → Bool
has_sums entry = not (length entry.sums == 0)

-- what each map is: packages ascend strictly by their identities, and the sums of each by the texts of their versions; none is without a sum
pub record IsTrust (packages : List KeptPackage) : Type 0 where
  pub ascending : AreAscending packages
  pub sums : All (λ entry. AreSums entry.sums) packages
  pub kept : All (λ entry. IsTrue (has_sums entry)) packages

-- the map of the packages in a file that have a sum
abbrev pub ReadsTrust : Result (List KeptPackage) ReadFault → Reading (List KeptPackage) → Type 0
ReadsTrust (Ok trust) reading = (file : List KeptPackage) × (reading ≡ Ok file) × IsPermutation (filter has_sums file) trust × IsTrust trust
ReadsTrust (Err fault) reading = Fails fault reading

-- ---- looking

-- the sum is that of the version with this text
abbrev pub is_version : Parts → KeptSum → Bool
is_version release kept = bytes_eq (parts_text kept.release) (parts_text release)

-- the first sum of this version
abbrev pub sum_in : Parts → List KeptSum → Option (List ℕ)
sum_in release [] = None
sum_in release (kept ∷ sums) = if is_version release kept then Some kept.sum else sum_in release sums

-- the sum that is kept for this version of this package
abbrev pub kept_in : List ℕ → Parts → List KeptPackage → Option (List ℕ)
kept_in identity release [] = None
kept_in identity release (entry ∷ entries) =
    if is_package identity entry then sum_in release entry.sums else kept_in identity release entries

-- what a sum comes to where this one is kept
abbrev pub met_by : Option (List ℕ) → List ℕ → Met
met_by None said = New
met_by (Some kept) said = if bytes_eq kept said then Known else Differs kept said

-- another sum is kept
abbrev pub differs : Option (List ℕ) → List ℕ → Bool
differs None said = false
differs (Some kept) said = not (bytes_eq kept said)

-- ---- adding

-- the sums with one for this version, in the order of the texts; where one is kept already, it stays
abbrev pub added_sum : Parts → List ℕ → List KeptSum → List KeptSum
added_sum release sum [] = record { release = release; sum = sum } ∷ []
added_sum release sum (kept ∷ sums) = match_ordering (slice_cmp nat_cmp (parts_text release) (parts_text kept.release))
    (record { release = release; sum = sum } ∷ kept ∷ sums)
    (kept ∷ sums)
    (kept ∷ added_sum release sum sums)

-- a package with one sum
abbrev pub package_with : List ℕ → Parts → List ℕ → KeptPackage
package_with identity release sum = record { identity = identity; sums = record { release = release; sum = sum } ∷ [] }

-- the packages with a sum for this version of this package, in the order of the identities
abbrev pub added : List ℕ → Parts → List ℕ → List KeptPackage → List KeptPackage
added identity release sum [] = package_with identity release sum ∷ []
added identity release sum (entry ∷ entries) = match_ordering (slice_cmp nat_cmp identity entry.identity)
    (package_with identity release sum ∷ entry ∷ entries)
    (record { identity = entry.identity; sums = added_sum release sum entry.sums } ∷ entries)
    (entry ∷ added identity release sum entries)

-- ---- what the types of the code keep

-- a version of the grammar and 32 bytes
abbrev pub IsKeptSum : KeptSum → Type 0
IsKeptSum kept = IsValid kept.release × (length kept.sum ≡ 32) × IsBytes kept.sum

-- an identity of the grammar, with such sums
abbrev pub IsKeptPackage : KeptPackage → Type 0
IsKeptPackage entry = IsIdentity entry.identity × All IsKeptSum entry.sums
