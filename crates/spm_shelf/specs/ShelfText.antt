-- The text of a shelf's file: compact JSON with the keys of each object in byte order, and a line feed. `urls` is written though it
-- is empty; what a release doesn't have isn't written.
use Rattle.std.specs.Prelude.{ℕ, List, [], ◌∷◌, ◌++◌, map, codes, Option, Some, None, option_map}
use Rattle.serde_json.specs.Data.{Data, Members, array, member, no_members, object, string}
use Rattle.serde_json.specs.View.{items_of}
use Rattle.serde_json.specs.Written.{compact_text}
use Rattle.spm_digest.specs.Digest.{encode_lower}
use Rattle.spm_version.specs.Release.{parts_text}
use Rattle.spm_json.specs.Written.{object_with}
use Rattle.spm_shelf.specs.declared.file.ShelfFile.{ShelfFile}
use Rattle.spm_shelf.specs.declared.file.ShelfPackage.{ShelfPackage}
use Rattle.spm_shelf.specs.declared.file.ShelfRelease.{ShelfRelease}
use Rattle.spm_shelf.specs.declared.file.ShelfUrl.{ShelfUrl}
use Rattle.spm_shelf.specs.declared.checksum.Checksum.{Checksum}

-- a member that may be absent, before those with greater keys
abbrev pub with_member : List ℕ → Option Data → Members → Members
with_member key None later = later
with_member key (Some d) later = member key d later

abbrev pub hex_data : List ℕ → Data
hex_data bytes = string (encode_lower bytes)

abbrev pub checksum_data : Checksum → Data
checksum_data checksum = hex_data checksum.sum

abbrev pub release_data : ShelfRelease → Data
release_data release = object (with_member (codes "archive") (option_map hex_data release.archive)
    (with_member (codes "checksum") (option_map checksum_data release.checksum)
    (with_member (codes "manifest") (option_map string release.manifest)
    (with_member (codes "problem") (option_map string release.problem) no_members))))

abbrev pub release_pair : ShelfRelease → List ℕ × Data
release_pair release = (parts_text release.release, release_data release)

abbrev pub package_pair : ShelfPackage → List ℕ × Data
package_pair entry = (entry.identity, object_with (map release_pair entry.releases))

abbrev pub url_pair : ShelfUrl → List ℕ × Data
url_pair entry = (entry.url, array (items_of (map string entry.identities)))

abbrev pub shelf_data : ShelfFile → Data
shelf_data shelf = object (member (codes "packages") (object_with (map package_pair shelf.packages))
    (member (codes "urls") (object_with (map url_pair shelf.urls)) no_members))

abbrev pub shelf_text : ShelfFile → List ℕ
shelf_text shelf = compact_text (shelf_data shelf) ++ 10 ∷ []
