-- A shelf file: what a registry has. `{"packages":{IDENTITY:{VERSION:RELEASE}},"urls":{URL:[IDENTITY]}}`, where a
-- RELEASE has a problem, or a manifest and an archive, and may say a checksum.
use Rattle.std.specs.Str.{bytes_eq}
use Rattle.std.specs.Prelude.{ℕ, List, [], Bool, codes, Option, Some, None, Ok, if◌then◌else◌}
use Rattle.std.specs.List.{list_any}
use Rattle.std.specs.Result.{result_ok}
use Rattle.serde_json.specs.Data.{Data}
use Rattle.spm_digest.specs.Digest.{decode_of, sum_of}
use Rattle.spm_version.specs.declared.kind.Kind.TheVariants.{BadHex, Doubled}
use Rattle.spm_json.specs.Reading.{Reading, fault_here, or_fault, ◌>>=◌}
use Rattle.spm_json.specs.Shape.{object_of, text_of, whole_of}
use Rattle.spm_json.specs.Field.{field_of, needed_field_of, optional_field_of}
use Rattle.spm_json.specs.Sequence.{items_of, members_of}
use Rattle.spm_json.specs.Value.{identity_in, identity_reading, release_in}
use Rattle.spm_shelf.specs.declared.checksum.Checksum.{Checksum}
use Rattle.spm_shelf.specs.declared.file.ShelfFile.{ShelfFile}
use Rattle.spm_shelf.specs.declared.file.ShelfPackage.{ShelfPackage}
use Rattle.spm_shelf.specs.declared.file.ShelfRelease.{ShelfRelease}
use Rattle.spm_shelf.specs.declared.file.ShelfUrl.{ShelfUrl}

-- an archive: its bytes in hexadecimal
abbrev pub archive_reading : Data → Reading (List ℕ)
archive_reading d = text_of d >>= λ text. or_fault BadHex (result_ok (decode_of text))

-- 64 hexadecimal digits
abbrev pub checksum_reading : Data → Reading Checksum
checksum_reading d = text_of d >>= λ text. or_fault BadHex (sum_of text) >>= λ sum. Ok (record { sum = sum })

-- a member that has to be there where the release has no problem
abbrev pub unless_problem : {A : Type 0} → (Data → Reading A) → List ℕ → Option (List ℕ) → Data → Reading (Option A)
unless_problem reading key (Some problem) d = optional_field_of reading key d
unless_problem reading key None d = needed_field_of reading key d >>= λ x. Ok (Some x)

abbrev pub release_member : List ShelfRelease → List ℕ → Data → Reading ShelfRelease
release_member earlier key d = release_in key >>= λ release. object_of d >>= λ o.
    optional_field_of text_of (codes "problem") o >>= λ problem.
    unless_problem text_of (codes "manifest") problem o >>= λ manifest.
    unless_problem archive_reading (codes "archive") problem o >>= λ archive.
    optional_field_of checksum_reading (codes "checksum") o >>= λ checksum.
    Ok (record { release = release; problem = problem; manifest = manifest; archive = archive; checksum = checksum })

abbrev pub is_package : List ℕ → ShelfPackage → Bool
is_package identity entry = bytes_eq entry.identity identity

abbrev pub not_doubled : List ShelfPackage → List ℕ → Reading (List ℕ)
not_doubled earlier identity = if list_any (is_package identity) earlier then fault_here Doubled else Ok identity

abbrev pub package_member : List ShelfPackage → List ℕ → Data → Reading ShelfPackage
package_member earlier key d = identity_in key >>= λ read. not_doubled earlier read >>= λ identity.
    members_of release_member d >>= λ releases.
    Ok (record { identity = identity; releases = releases })

abbrev pub packages_reading : Data → Reading (List ShelfPackage)
packages_reading d = members_of package_member d

-- a list of identities of any length
abbrev pub url_member : List ShelfUrl → List ℕ → Data → Reading ShelfUrl
url_member earlier key d = items_of identity_reading d >>= λ identities.
    Ok (record { url = key; identities = identities })

abbrev pub urls_reading : Data → Reading (List ShelfUrl)
urls_reading d = members_of url_member d

abbrev pub urls_in : Option (List ShelfUrl) → List ShelfUrl
urls_in (Some urls) = urls
urls_in None = []

abbrev pub file_reading : Data → Reading ShelfFile
file_reading d = object_of d >>= λ o.
    field_of packages_reading (codes "packages") o >>= λ packages.
    optional_field_of urls_reading (codes "urls") o >>= λ urls.
    Ok (record { packages = packages; urls = urls_in urls })

-- what the bytes of a shelf file say, in its own order, or its first fault
abbrev pub shelf_of : List ℕ → Reading ShelfFile
shelf_of bytes = whole_of file_reading bytes
