-- The data of a shelf have no float, so that their text is the compact one.
use Rattle.std.proofs.Common.{◌≡◌, ℕ, ◌||◌, false, List, map, Option, Some, None, option_map, refl}
use Rattle.std.specs.Prelude.{codes}
use Rattle.std.proofs.lemmas.Bool.{or_from}
use Rattle.serde_json.specs.Data.{Data, Members, no_members, string}
use Rattle.serde_json.specs.Written.{has_float, members_have_float}
use Rattle.spm_shelf.specs.ShelfText.{checksum_data, hex_data, package_pair, release_data, release_pair, shelf_data, url_pair, with_member}
use Rattle.spm_json.proofs.WrittenLemmas.{no_float_in_texts, no_float_put_all}
use Rattle.spm_json.specs.Written.{put_all}
use Rattle.spm_shelf.specs.declared.file.ShelfFile.{ShelfFile}
use Rattle.spm_shelf.specs.declared.file.ShelfPackage.{ShelfPackage}
use Rattle.spm_shelf.specs.declared.file.ShelfRelease.{ShelfRelease}
use Rattle.spm_shelf.specs.declared.file.ShelfUrl.{ShelfUrl}

-- ---- the parts of a shelf

-- a member that may be absent has no float
no_float_in_member : {X : Type 0} (as_data : X → Data) → ((x : X) → has_float (as_data x) ≡ false) → (key : List ℕ) (found : Option X) (later : Members)
    → members_have_float later ≡ false → members_have_float (with_member key (option_map as_data found) later) ≡ false
no_float_in_member as_data none key None later rest = rest
no_float_in_member as_data none key (Some x) later rest = or_from (has_float (as_data x)) (members_have_float later) (none x) rest

-- a release has none
no_float_in_release : (release : ShelfRelease) → has_float (release_data release) ≡ false
no_float_in_release release =
    no_float_in_member hex_data (λ bytes. refl) (codes "archive") release.archive _
    (no_float_in_member checksum_data (λ sum. refl) (codes "checksum") release.checksum _
    (no_float_in_member string (λ text. refl) (codes "manifest") release.manifest _
    (no_float_in_member string (λ text. refl) (codes "problem") release.problem no_members refl)))

-- a package has none
no_float_in_package : (entry : ShelfPackage) → has_float (package_pair entry).1 ≡ false
no_float_in_package entry = no_float_put_all release_pair no_float_in_release no_members entry.releases refl

-- a URL has none
no_float_in_url : (entry : ShelfUrl) → has_float (url_pair entry).1 ≡ false
no_float_in_url entry = no_float_in_texts entry.identities

-- a shelf has none
pub no_float_in_shelf : (shelf : ShelfFile) → has_float (shelf_data shelf) ≡ false
no_float_in_shelf shelf =
    let packages = no_float_put_all package_pair no_float_in_package no_members shelf.packages refl in
    let urls = no_float_put_all url_pair no_float_in_url no_members shelf.urls refl in
    or_from (members_have_float (put_all no_members (map package_pair shelf.packages))) (members_have_float (put_all no_members (map url_pair shelf.urls)) || false)
    packages (or_from (members_have_float (put_all no_members (map url_pair shelf.urls))) false urls refl)
