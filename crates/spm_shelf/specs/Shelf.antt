-- What a registry has: a file's packages in the order of their identities, each once, and its URLs in byte order.
use Rattle.std.specs.Prelude.{◌≡◌, ℕ, List, [], ◌∷◌, All, IsNone, IsSome, map, Option, Some, None, Result, Ok, Err, if◌then◌else◌}
use Rattle.std.specs.Cmp.Lexicographic.{slice_cmp}
use Rattle.std.specs.List.Sorted.{IsPermutation, IsStrictlySortedBy}
use Rattle.std.specs.Ordering.{nat_cmp}
use Rattle.spm_version.specs.Release.{parts_text}
use Rattle.spm_json.specs.Reading.{Fails, Reading}
use Rattle.spm_json.specs.declared.fault.ReadFault.{ReadFault}
use Rattle.spm_shelf.specs.File.{is_package}
use Rattle.spm_shelf.specs.declared.file.ShelfFile.{ShelfFile}
use Rattle.spm_shelf.specs.declared.file.ShelfPackage.{ShelfPackage}
use Rattle.spm_shelf.specs.declared.file.ShelfRelease.{ShelfRelease}
use Rattle.spm_shelf.specs.declared.file.ShelfUrl.{ShelfUrl}

-- strictly ascending by their bytes
abbrev pub Ascend : List (List ℕ) → Type 0
Ascend texts = IsStrictlySortedBy (slice_cmp nat_cmp) texts

-- packages in the order of their identities, each once
abbrev pub AreAscending : List ShelfPackage → Type 0
AreAscending packages = Ascend (map (λ entry. entry.identity) packages)

-- where it has no problem, its manifest and its archive are there
abbrev pub IsComplete : ShelfRelease → Type 0
IsComplete release = IsNone release.problem → IsSome release.manifest × IsSome release.archive

-- releases as a package of a shelf has them
pub record AreReleases (releases : List ShelfRelease) : Type 0 where
  pub ascending : Ascend (map (λ release. parts_text release.release) releases)
  pub complete : All IsComplete releases

-- URLs as a shelf has them
abbrev pub AreUrls : List ShelfUrl → Type 0
AreUrls urls = Ascend (map (λ entry. entry.url) urls)

-- what each shelf is: packages ascend strictly by their identities, the releases of each by the bytes of their texts, and URLs
-- by their bytes; each release without a problem has its manifest and its archive
pub record IsShelf (shelf : ShelfFile) : Type 0 where
  pub packages : AreAscending shelf.packages
  pub releases : All (λ entry. AreReleases entry.releases) shelf.packages
  pub urls : AreUrls shelf.urls

-- the packages of the file in the order of their identities; the URLs as they stand in it, which is in byte order
pub record IsShelfOf (file shelf : ShelfFile) : Type 0 where
  pub same : IsPermutation file.packages shelf.packages
  pub ascending : AreAscending shelf.packages
  pub urls : shelf.urls ≡ file.urls

abbrev pub ReadsShelf : Result ShelfFile ReadFault → Reading ShelfFile → Type 0
ReadsShelf (Ok shelf) reading = (file : ShelfFile) × (reading ≡ Ok file) × IsShelfOf file shelf
ReadsShelf (Err fault) reading = Fails fault reading

-- the first package with this identity
abbrev pub package_of : List ℕ → List ShelfPackage → Option ShelfPackage
package_of identity [] = None
package_of identity (entry ∷ entries) = if is_package identity entry then Some entry else package_of identity entries
