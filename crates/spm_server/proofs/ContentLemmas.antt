-- The bodies of resources have no float, so that their text is the compact one.
use Rattle.std.proofs.Common.{◌≡◌, ℕ, false, List, map, Option, Some, None, refl}
use Rattle.std.proofs.lemmas.Bool.{or_from}
use Rattle.serde_json.specs.Data.{no_members}
use Rattle.serde_json.specs.Written.{has_float, members_have_float}
use Rattle.spm_json.proofs.WrittenLemmas.{no_float_in_texts, no_float_put_all}
use Rattle.spm_json.specs.Written.{put_all}
use Rattle.spm_shelf.specs.declared.file.ShelfPackage.{ShelfPackage}
use Rattle.spm_shelf.specs.declared.file.ShelfRelease.{ShelfRelease}
use Rattle.spm_shelf.specs.declared.file.ShelfUrl.{ShelfUrl}
use Rattle.spm_server.specs.Content.{identifiers_data, list_data, listed_pair, place_data}
use Rattle.spm_version.specs.Release.{Parts}

-- the place of a release has none
no_float_in_place : (identity : List ℕ) (release : Parts) (problem : Option (List ℕ)) → has_float (place_data identity release problem) ≡ false
no_float_in_place identity release (Some problem) = refl
no_float_in_place identity release None = refl

-- nor has a list
pub no_float_in_list : (entry : ShelfPackage) → has_float (list_data entry) ≡ false
no_float_in_list entry =
    or_from (members_have_float (put_all no_members (map (listed_pair entry.identity) entry.releases))) false
    (no_float_put_all (listed_pair entry.identity) (λ (release : ShelfRelease). no_float_in_place entry.identity release.release release.problem) no_members entry.releases refl) refl

-- nor have identities
pub no_float_in_identifiers : (entry : ShelfUrl) → has_float (identifiers_data entry) ≡ false
no_float_in_identifiers entry = or_from _ false (no_float_in_texts entry.identities) refl
