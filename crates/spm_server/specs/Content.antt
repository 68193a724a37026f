-- What a shelf has behind a key: the media type and the body of its resource (SE-0292 and the registry's service specification).
-- Bodies are compact JSON with sorted keys, a manifest is the shelf's text, an archive its bytes.
use Rattle.std.specs.Str.{bytes_eq}
use Rattle.std.specs.Prelude.{ℕ, List, [], ◌∷◌, map, codes, Option, Some, None, option_and_then, option_map, if◌then◌else◌}
use Rattle.serde_json.specs.Data.{Data, array, item, member, no_items, no_members, object, string}
use Rattle.serde_json.specs.View.{items_of}
use Rattle.serde_json.specs.Written.{compact_text}
use Rattle.spm_digest.specs.Digest.{sha256}
use Rattle.spm_key.specs.Key.{release_path}
use Rattle.spm_key.specs.declared.key.Key.{Key}
use Rattle.spm_key.specs.declared.key.Key.TheVariants as key
use Rattle.spm_shelf.specs.Shelf.{package_of}
use Rattle.spm_shelf.specs.ShelfText.{hex_data}
use Rattle.spm_json.specs.Written.{object_with}
use Rattle.spm_shelf.specs.declared.file.ShelfFile.{ShelfFile}
use Rattle.spm_shelf.specs.declared.file.ShelfPackage.{ShelfPackage}
use Rattle.spm_shelf.specs.declared.file.ShelfRelease.{ShelfRelease}
use Rattle.spm_shelf.specs.declared.file.ShelfUrl.{ShelfUrl}
use Rattle.spm_shelf.specs.declared.checksum.Checksum.{Checksum}
use Rattle.spm_version.specs.Release.{Parts, parts_text}
use Rattle.spm_version.specs.ReleaseLaws.{release_eq}
use Rattle.spm_server.specs.Problem.{details_data}
use Rattle.spm_server.specs.declared.content.Content.{Content}
use Rattle.spm_server.specs.declared.media.Media.{Media}
use Rattle.spm_server.specs.declared.media.Media.TheVariants.{Json, Zip, ProblemJson}

abbrev pub media_text : Media → List ℕ
media_text Json = codes "application/json"
media_text Zip = codes "application/zip"
media_text ProblemJson = codes "application/problem+json"

abbrev pub json_content : Data → Content
json_content d = record { media = Json; body = compact_text d }

-- ---- a list of releases

abbrev pub place_data : List ℕ → Parts → Option (List ℕ) → Data
place_data identity release (Some problem) = object (member (codes "problem") (details_data 410 (codes "Gone") problem) no_members)
place_data identity release None = object (member (codes "url") (string (release_path identity release [])) no_members)

abbrev pub listed_pair : List ℕ → ShelfRelease → List ℕ × Data
listed_pair identity entry = (parts_text entry.release, place_data identity entry.release entry.problem)

-- each release by its path; one with a problem says that it is gone
abbrev pub list_data : ShelfPackage → Data
list_data entry = object (member (codes "releases") (object_with (map (listed_pair entry.identity) entry.releases)) no_members)

-- ---- a release

-- the checksum that the shelf says, or else the archive's own
abbrev pub checksum_for : Option Checksum → List ℕ → List ℕ
checksum_for (Some said) archive = said.sum
checksum_for None archive = sha256 archive

abbrev pub source_of : Data → Data
source_of checksum = object (member (codes "checksum") checksum (member (codes "name") (string (codes "source-archive"))
    (member (codes "type") (string (codes "application/zip")) no_members)))

abbrev pub metadata_of : Data → Data → Data → Data
metadata_of id source version = object (member (codes "id") id (member (codes "metadata") (object no_members)
    (member (codes "resources") (array (item source no_items)) (member (codes "version") version no_members))))

abbrev pub metadata_data : List ℕ → Parts → List ℕ → Data
metadata_data identity release sum = metadata_of (string identity) (source_of (hex_data sum)) (string (parts_text release))

abbrev pub metadata_content : List ℕ → ShelfRelease → Option Content
metadata_content identity entry =
    option_map (λ archive. json_content (metadata_data identity entry.release (checksum_for entry.checksum archive))) entry.archive

abbrev pub manifest_content : ShelfRelease → Option Content
manifest_content entry = option_map (λ text. record { media = Json; body = text }) entry.manifest

abbrev pub archive_content : ShelfRelease → Option Content
archive_content entry = option_map (λ bytes. record { media = Zip; body = bytes }) entry.archive

-- the first release of a package that is this one
abbrev pub release_in : Parts → List ShelfRelease → Option ShelfRelease
release_in release [] = None
release_in release (entry ∷ entries) = if release_eq entry.release release then Some entry else release_in release entries

-- a release with a problem has nothing but its place in the list
abbrev pub unless_problem : Option (List ℕ) → ShelfRelease → Option ShelfRelease
unless_problem (Some problem) entry = None
unless_problem None entry = Some entry

abbrev pub usable_release : Parts → ShelfPackage → Option ShelfRelease
usable_release release entry = option_and_then (λ found. unless_problem found.problem found) (release_in release entry.releases)

abbrev pub found_release : ShelfFile → List ℕ → Parts → Option ShelfRelease
found_release shelf identity release = option_and_then (usable_release release) (package_of identity shelf.packages)

-- ---- the identities of a URL

abbrev pub url_of : List ℕ → List ShelfUrl → Option ShelfUrl
url_of url [] = None
url_of url (entry ∷ entries) = if bytes_eq entry.url url then Some entry else url_of url entries

-- in the shelf's order
abbrev pub identifiers_data : ShelfUrl → Data
identifiers_data entry = object (member (codes "identifiers") (array (items_of (map string entry.identities))) no_members)

-- ---- all keys

-- A package without releases and a URL without identities are something on the shelf.
abbrev pub content_of : ShelfFile → Key → Option Content
content_of shelf (key.List identity) = option_map (λ entry. json_content (list_data entry)) (package_of identity shelf.packages)
content_of shelf (key.Manifest identity release) = option_and_then manifest_content (found_release shelf identity release)
content_of shelf (key.Release identity release) = option_and_then (metadata_content identity) (found_release shelf identity release)
content_of shelf (key.Archive identity release) = option_and_then archive_content (found_release shelf identity release)
content_of shelf (key.Identifiers url) = option_map (λ entry. json_content (identifiers_data entry)) (url_of url shelf.urls)
