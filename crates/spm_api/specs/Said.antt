-- What the reply of a key says to a resolution: of a list its usable releases, of a look-up the package of a URL, of a manifest its
-- contents. A catalogue, as a solver sees it, is read through these functions alone.
use Rattle.std.specs.Prelude.{◌≡◌, ℕ, ◌==◌, List, [], ◌∷◌, length, codes, nat_lt, Option, Some, None, option_map, Result, Ok, Err, if◌then◌else◌}
use Rattle.std.specs.FinMap as map
use Rattle.std.specs.Ordering.{is_le}
use Rattle.spm_ident.specs.Identity.{identity_of}
use Rattle.spm_ident.specs.declared.identity.IdentFault.{IdentFault}
use Rattle.spm_json.specs.Reading.{Reading}
use Rattle.spm_key.specs.Catalogue.{Catalogue}
use Rattle.spm_key.specs.declared.key.Key.{Key}
use Rattle.spm_key.specs.declared.key.Key.TheVariants as key
use Rattle.spm_key.specs.declared.reply.Reply.{Reply}
use Rattle.spm_manifest.specs.Profile.{manifest_of}
use Rattle.spm_manifest.specs.declared.dump.Contents.{Contents}
use Rattle.spm_version.specs.Release.{Parts}
use Rattle.spm_version.specs.ReleaseLaws.{release_cmp}
use Rattle.spm_version.specs.declared.kind.Kind.TheVariants.{NotJson}
use Rattle.spm_api.specs.Bodies.{all_some, identifiers_of, lesser, releases_of}
use Rattle.spm_api.specs.Guess.{bytes_in}
use Rattle.spm_api.specs.Refused.{Refusal, garbled, reply_refusal, says, too_long, unreadable}
use Rattle.spm_api.specs.declared.replies.ReplyFault.{ReplyFault}
use Rattle.spm_api.specs.declared.replies.ReplyFault.TheVariants as fault
use Rattle.spm_api.specs.declared.replies.Said.{Said}
use Rattle.spm_api.specs.declared.replies.Said.TheVariants.{FaultyManifest, Manifest, NoManifest, Nothing, Package, Releases, TooMany}

-- ---- a list in ascending order, and the least of some identities

abbrev pub put_release : Parts → List Parts → List Parts
put_release release [] = release ∷ []
put_release release (other ∷ others) = if is_le (release_cmp release other) then release ∷ other ∷ others else other ∷ put_release release others

-- the releases from the least to the greatest
abbrev pub ascending : List Parts → List Parts
ascending [] = []
ascending (release ∷ releases) = put_release release (ascending releases)

abbrev pub with_identity : Result (List ℕ) IdentFault → Option (List ℕ) → Option (List ℕ)
with_identity (Ok identity) least = Some (lesser identity least)
with_identity (Err refusal) least = least

-- the least of the texts that are identities, in the order of their bytes
abbrev pub least_identity : List (List ℕ) → Option (List ℕ)
least_identity [] = None
least_identity (text ∷ texts) = with_identity (identity_of text) (least_identity texts)

-- ---- what a body says

abbrev pub releases_said : List Parts → Said
releases_said usable = if nat_lt 4096 (length usable) then TooMany else Releases (ascending usable)

abbrev pub list_said : Reading (List (Option Parts)) → Said
list_said (Ok listed) = releases_said (all_some listed)
list_said (Err first) = Releases []

abbrev pub package_said : Reading (List (List ℕ)) → Said
package_said (Ok texts) = Package (least_identity texts)
package_said (Err first) = Package None

abbrev pub manifest_said : Reading Contents → Said
manifest_said (Ok contents) = Manifest contents
manifest_said (Err first) = FaultyManifest first.place first.kind

-- with the status 200: a manifest whose bytes aren't kept is no JSON
abbrev pub present : Key → Option (List ℕ) → Said
present (key.List identity) None = Releases []
present (key.List identity) (Some bytes) = list_said (releases_of bytes)
present (key.Manifest identity release) None = FaultyManifest (codes "/") NotJson
present (key.Manifest identity release) (Some bytes) = manifest_said (manifest_of bytes)
present (key.Release identity release) bytes = Nothing
present (key.Archive identity release) bytes = Nothing
present (key.Identifiers url) None = Package None
present (key.Identifiers url) (Some bytes) = package_said (identifiers_of bytes)

-- with the status 404 or 410: a package without a list has no releases, and a URL without identities no package
abbrev pub absent : Key → Said
absent (key.List identity) = Releases []
absent (key.Manifest identity release) = NoManifest
absent (key.Release identity release) = Nothing
absent (key.Archive identity release) = Nothing
absent (key.Identifiers url) = Package None

-- ---- what a reply says

-- what a reply says that isn't refused
abbrev pub said_of : Key → Reply → Said
said_of asked reply = if reply.status == 200 then present asked (bytes_in reply.body) else absent asked

abbrev pub unless_refused : Option Refusal → Said → Result Said Refusal
unless_refused (Some refusal) said = Err refusal
unless_refused None said = Ok said

-- what the reply of a key says, or why it is refused
abbrev pub reply_said : Key → Reply → Result Said Refusal
reply_said asked reply = unless_refused (reply_refusal asked reply) (said_of asked reply)

-- what a catalogue says of a key, if it has a reply of it
abbrev pub said_in : Catalogue → Key → Option (Result Said Refusal)
said_in catalogue asked = option_map (reply_said asked) (map.get catalogue asked)

-- the answer of `said`: want of memory is free
abbrev pub Says : Result Said ReplyFault → Result Said Refusal → Type 0
Says (Ok said) found = found ≡ Ok said
Says (Err fault.Garbled) found = found ≡ Err garbled
Says (Err fault.TooLong) found = found ≡ Err too_long
Says (Err fault.Unreadable) found = found ≡ Err unreadable
Says (Err (fault.Says status detail)) found = found ≡ Err (says status detail)
Says (Err fault.Memory) found = Unit {0}
