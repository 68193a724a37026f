-- What a shelf says of a key, in the shelf's parts; and what the book of a shelf says, once the reply to the request for a key is read.
use Rattle.std.specs.Prelude.{◌≡◌, ℕ, ◌≤◌, ◌&&◌, List, [], ◌∷◌, length, All, Bool, not, IsUtf8, Option, Some, None, IfSome, is_some, option_and_then, option_map, Ok, if◌then◌else◌}
use Rattle.spm_api.specs.Bodies.{checksum_of}
use Rattle.spm_api.specs.Endpoint.{IsReply, limit_for, request_for}
use Rattle.spm_api.specs.Said.{least_identity, manifest_said, releases_said, reply_said}
use Rattle.spm_api.specs.declared.base.Base.{Base}
use Rattle.spm_api.specs.declared.replies.Said.{Said}
use Rattle.spm_api.specs.declared.replies.Said.TheVariants.{NoManifest, Package, Releases}
use Rattle.spm_digest.specs.Digest.{IsBytes, sha256}
use Rattle.spm_key.specs.declared.key.Key.{Key}
use Rattle.spm_key.specs.declared.key.Key.TheVariants as key
use Rattle.spm_key.specs.declared.reply.Body.TheVariants.{Sum, Whole}
use Rattle.spm_key.specs.declared.reply.Reply.{Reply}
use Rattle.spm_manifest.specs.Profile.{manifest_of}
use Rattle.spm_outside.specs.Book.{Pages, response_of}
use Rattle.spm_shelf.specs.Shelf.{package_of}
use Rattle.spm_shelf.specs.declared.file.ShelfFile.{ShelfFile}
use Rattle.spm_shelf.specs.declared.file.ShelfPackage.{ShelfPackage}
use Rattle.spm_shelf.specs.declared.file.ShelfRelease.{ShelfRelease}
use Rattle.spm_version.specs.Release.{IsValid, Parts, ends_in_zip, parts_text}
use Rattle.spm_server.specs.Content.{checksum_for, content_of, found_release, url_of}
use Rattle.spm_server.specs.Pages.{AnswersAskable}
use Rattle.spm_server.specs.RoundTrip.{IsAskable, IsPlainBase}

-- ---- the parts of a shelf

-- the text of a manifest; none where the shelf hasn't the release, or that has a problem
abbrev pub manifest_on : ShelfFile → List ℕ → Parts → Option (List ℕ)
manifest_on shelf identity release = option_and_then (λ entry. entry.manifest) (found_release shelf identity release)

-- the bytes of an archive
abbrev pub archive_on : ShelfFile → List ℕ → Parts → Option (List ℕ)
archive_on shelf identity release = option_and_then (λ entry. entry.archive) (found_release shelf identity release)

abbrev pub sum_for : ShelfRelease → Option (List ℕ)
sum_for entry = option_map (checksum_for entry.checksum) entry.archive

-- the checksum that the shelf names, or else the archive's sum
abbrev pub checksum_on : ShelfFile → List ℕ → Parts → Option (List ℕ)
checksum_on shelf identity release = option_and_then sum_for (found_release shelf identity release)

-- ---- a manifest, a release and an archive

abbrev pub manifest_there : Option (List ℕ) → Said
manifest_there None = NoManifest
manifest_there (Some text) = manifest_said (manifest_of text)

-- the body of the reply is read as this checksum
abbrev pub HasChecksum : Option (List ℕ) → Reply → Type 0
HasChecksum None reply = reply.status ≡ 404
HasChecksum (Some sum) reply = (body : List ℕ) × (reply ≡ record { status = 200; body = Whole body }) × (checksum_of body ≡ Some (Some sum))

-- the sum and the length of these bytes are kept
abbrev pub KeepsArchive : Option (List ℕ) → Reply → Type 0
KeepsArchive None reply = reply.status ≡ 404
KeepsArchive (Some bytes) reply = reply ≡ record { status = 200; body = Sum (sha256 bytes) (length bytes) }

-- ---- a list

-- without a problem, and with a text that doesn't end in `.zip`
abbrev pub is_usable : ShelfRelease → Bool
is_usable entry = not (is_some entry.problem) && not (ends_in_zip (parts_text entry.release))

-- the usable releases of a package
abbrev pub usable_in : List ShelfRelease → List Parts
usable_in [] = []
usable_in (entry ∷ entries) = if is_usable entry then entry.release ∷ usable_in entries else usable_in entries

-- those in ascending order, or that they are too many; none where there is no package
abbrev pub list_there : Option ShelfPackage → Said
list_there None = Releases []
list_there (Some entry) = releases_said (usable_in entry.releases)

-- ---- the identities of a URL

-- the least of the identities that the shelf has for a URL
abbrev pub identity_on : ShelfFile → List ℕ → Option (List ℕ)
identity_on shelf url = option_and_then (λ entry. least_identity entry.identities) (url_of url shelf.urls)

-- ---- the book

-- the reply to the request for a key by the book of this shelf, for a plain base, a request that fits and a body within its limit
pub record IsBookReply (shelf : ShelfFile) (base : Base) (pages : Pages) (asked : Key) (reply : Reply) : Type 0 where
  pub plain : IsPlainBase base
  pub book : AnswersAskable shelf base pages
  pub askable : IsAskable base asked
  pub fits : IfSome (content_of shelf asked) (λ content. length content.body ≤ limit_for asked)
  pub is : IsReply asked (response_of pages base.to (request_for base asked)) reply

-- 32 bytes
abbrev pub IsSum : List ℕ → Type 0
IsSum sum = (length sum ≡ 32) × IsBytes sum

-- a version; a text where there is a problem, and a sum where there is a checksum
pub record IsTypedRelease (entry : ShelfRelease) : Type 0 where
  pub version : IsValid entry.release
  pub problem : IfSome entry.problem IsUtf8
  pub checksum : IfSome entry.checksum (λ checksum. IsSum checksum.sum)

-- what the types of the parts of a shelf say: its releases are versions, its problems and the identities of its URLs are texts, and the
-- checksums that it names are sums
pub record IsTyped (shelf : ShelfFile) : Type 0 where
  pub releases : All (λ entry. All IsTypedRelease entry.releases) shelf.packages
  pub identities : All (λ entry. All IsUtf8 entry.identities) shelf.urls

-- what is said of each key by the reply to the request for it
abbrev pub IsShelved : ShelfFile → Key → Reply → Type 0
IsShelved shelf (key.List identity) reply = reply_said (key.List identity) reply ≡ Ok (list_there (package_of identity shelf.packages))
IsShelved shelf (key.Manifest identity release) reply =
    reply_said (key.Manifest identity release) reply ≡ Ok (manifest_there (manifest_on shelf identity release))
IsShelved shelf (key.Release identity release) reply = HasChecksum (checksum_on shelf identity release) reply
IsShelved shelf (key.Archive identity release) reply = KeepsArchive (archive_on shelf identity release) reply
IsShelved shelf (key.Identifiers url) reply = reply_said (key.Identifiers url) reply ≡ Ok (Package (identity_on shelf url))
