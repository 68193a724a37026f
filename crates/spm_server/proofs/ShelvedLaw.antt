-- What the book of a shelf says of a key is what the shelf says of it.
use Rattle.std.proofs.Common.{◌≡◌, ℕ, List, [], ◌∷◌, Option, Some, None, IfSome, IsUtf8, Ok, refl, sym, ap, ◌∙◌, subst, inl, inr}
use Rattle.std.specs.Prelude.{option_and_then, option_map}
use Rattle.std.specs.List.{All}
use Rattle.std.specs.Str.{bytes_eq}
use Rattle.std.proofs.lemmas.Bool.{cases_Bool}
use Rattle.std.proofs.lemmas.List.Elements.{All-head, All-tail}
use Rattle.serde_json.specs.Written.{compact_text}
use Rattle.spm_api.specs.Bodies.{all_some, identifiers_of, releases_of}
use Rattle.spm_api.specs.Endpoint.{IsReply}
use Rattle.spm_api.specs.Said.{least_identity, releases_said, reply_said}
use Rattle.spm_api.specs.declared.base.Base.{Base}
use Rattle.spm_api.specs.declared.replies.Said.TheVariants.{Package}
use Rattle.spm_ident.specs.Identity.{IsIdentity}
use Rattle.spm_key.specs.declared.key.Key.{Key}
use Rattle.spm_key.specs.declared.key.Key.TheVariants as key
use Rattle.spm_key.specs.declared.reply.Reply.{Reply}
use Rattle.spm_outside.specs.Book.{Pages}
use Rattle.spm_shelf.specs.Shelf.{AreReleases, IsShelf, package_of}
use Rattle.spm_shelf.specs.declared.checksum.Checksum.{Checksum}
use Rattle.spm_shelf.specs.declared.file.ShelfFile.{ShelfFile}
use Rattle.spm_shelf.specs.declared.file.ShelfPackage.{ShelfPackage}
use Rattle.spm_shelf.specs.declared.file.ShelfRelease.{ShelfRelease}
use Rattle.spm_shelf.specs.declared.file.ShelfUrl.{ShelfUrl}
use Rattle.spm_version.proofs.ReleaseLemmas.{same_release}
use Rattle.spm_version.specs.Release.{Parts, parts_text}
use Rattle.spm_version.specs.ReleaseLaws.{release_eq}
use Rattle.spm_server.specs.Content.{archive_content, checksum_for, content_of, found_release, identifiers_data, json_content, list_data, manifest_content, metadata_content, release_in, unless_problem, url_of, usable_release}
use Rattle.spm_server.specs.RoundTrip.{reply_for}
use Rattle.spm_server.specs.Shelved.{HasChecksum, IsBookReply, IsShelved, IsSum, IsTyped, IsTypedRelease, KeepsArchive, archive_on, checksum_on, list_there, manifest_there, sum_for, usable_in}
use Rattle.spm_server.specs.declared.content.Content.{Content}
use Rattle.spm_server.proofs.Paths.{identity_is_text, version_is_text}
use Rattle.spm_server.proofs.RoundTripLaw.{comes_back}
use Rattle.spm_server.proofs.ShelvedBodies.{checksum_back, identifiers_back}
use Rattle.spm_server.proofs.ShelvedLists.{package_so, usable_back}
use Rattle.spm_server.proofs.Sums.{sha256_is_sum}

-- the reply is the one with the shelf's contents
pub book_reply : (shelf : ShelfFile) (base : Base) (pages : Pages) (asked : Key) (reply : Reply) → IsBookReply shelf base pages asked reply
    → reply ≡ reply_for asked (content_of shelf asked)
book_reply shelf base pages asked reply is =
    let answer = is.book asked is.askable in
    (comes_back shelf base asked is.plain is.askable is.fits).alone answer.0 reply answer.1 (subst (λ (response : List ℕ). IsReply asked response reply) answer.2 is.is)

-- ---- manifests

-- by the text of the manifest
by_text : (identity : List ℕ) (release : Parts) (text : Option (List ℕ)) (content : Option Content)
    → content ≡ manifest_content (record { release = release; problem = None; manifest = text; archive = None; checksum = None })
    → reply_said (key.Manifest identity release) (reply_for (key.Manifest identity release) content) ≡ Ok (manifest_there text)
by_text identity release None content same = rw same refl
by_text identity release (Some text) content same = rw same refl

-- by the release that is found
by_found : (identity : List ℕ) (release : Parts) (found : Option ShelfRelease)
    → reply_said (key.Manifest identity release) (reply_for (key.Manifest identity release) (option_and_then manifest_content found))
    ≡ Ok (manifest_there (option_and_then (λ entry. entry.manifest) found))
by_found identity release None = refl
by_found identity release (Some entry) = by_text identity release entry.manifest (manifest_content entry) refl

-- ---- archives

-- by the bytes of the archive
by_bytes : (identity : List ℕ) (release : Parts) (bytes : Option (List ℕ)) (content : Option Content)
    → content ≡ archive_content (record { release = release; problem = None; manifest = None; archive = bytes; checksum = None })
    → KeepsArchive bytes (reply_for (key.Archive identity release) content)
by_bytes identity release None content same = rw same refl
by_bytes identity release (Some bytes) content same = rw same refl

-- by the release that is found
kept_found : (identity : List ℕ) (release : Parts) (found : Option ShelfRelease)
    → KeepsArchive (option_and_then (λ entry. entry.archive) found) (reply_for (key.Archive identity release) (option_and_then archive_content found))
kept_found identity release None = refl
kept_found identity release (Some entry) = by_bytes identity release entry.archive (archive_content entry) refl

-- ---- releases

-- what a release is that is found: the one that is asked for, with what its types say
abbrev IsFound : Parts → ShelfRelease → Type 0
IsFound release entry = (entry.release ≡ release) × IsTypedRelease entry

-- among the releases of a package
found_in : (release : Parts) (entries : List ShelfRelease) → All IsTypedRelease entries → IfSome (release_in release entries) (IsFound release)
found_in release [] all = tt
found_in release (entry ∷ entries) all = elim (cases_Bool (release_eq entry.release release)) [
  | inl same ↦ rw same (same_release entry.release release same, All-head IsTypedRelease entry entries all)
  | inr other ↦ rw other (found_in release entries (All-tail IsTypedRelease entry entries all))
]

-- unless it has a problem
found_so : (release : Parts) (found : Option ShelfRelease) → IfSome found (IsFound release)
    → IfSome (option_and_then (λ found. unless_problem found.problem found) found) (IsFound release)
found_so release None is = tt
found_so release (Some entry) is = by_problem entry.problem
  where
    by_problem : (problem : Option (List ℕ)) → IfSome (unless_problem problem entry) (IsFound release)
    by_problem None = is
    by_problem (Some problem) = tt

-- in a package that is there
found_there : (release : Parts) (found : Option ShelfPackage) → IfSome found (λ entry. All IsTypedRelease entry.releases)
    → IfSome (option_and_then (usable_release release) found) (IsFound release)
found_there release None all = tt
found_there release (Some entry) all = found_so release (release_in release entry.releases) (found_in release entry.releases all)

-- the checksum that is said is a sum
said_sum : (checksum : Option Checksum) (archive : List ℕ) → IfSome checksum (λ checksum. IsSum checksum.sum) → IsSum (checksum_for checksum archive)
said_sum None archive is = sha256_is_sum archive
said_sum (Some checksum) archive is = is

-- by the archive
by_archive : (identity : List ℕ) (asked : Parts) (entry : ShelfRelease) (archive : Option (List ℕ)) → IsUtf8 identity → IsUtf8 (parts_text entry.release)
    → IfSome entry.checksum (λ checksum. IsSum checksum.sum)
    → HasChecksum (option_map (checksum_for entry.checksum) archive) (reply_for (key.Release identity asked)
    (metadata_content identity (record entry { archive = archive })))
by_archive identity asked entry None name version sum = refl
by_archive identity asked entry (Some archive) name version sum =
    (_, refl, checksum_back identity entry.release (checksum_for entry.checksum archive) name version (said_sum entry.checksum archive sum))

-- by the release that is found
checksum_found : (identity : List ℕ) (asked : Parts) (found : Option ShelfRelease) → IsUtf8 identity → IsUtf8 (parts_text asked) → IfSome found (IsFound asked)
    → HasChecksum (option_and_then sum_for found) (reply_for (key.Release identity asked) (option_and_then (metadata_content identity) found))
checksum_found identity asked None name version is = refl
checksum_found identity asked (Some entry) name version is =
    by_archive identity asked entry entry.archive name (subst (λ (release : Parts). IsUtf8 (parts_text release)) (sym is.0) version) is.1.checksum

-- ---- identities

-- a body that is read says its least identity
package_there : (url : List ℕ) (body : List ℕ) (texts : List (List ℕ)) → identifiers_of body ≡ Ok texts
    → reply_said (key.Identifiers url) (reply_for (key.Identifiers url) (Some (record { media = (json_content (identifiers_data (record { url = url; identities = texts }))).media; body = body })))
    ≡ Ok (Package (least_identity texts))
package_there url body texts read = rw read refl

-- what holds of all URLs holds of the one that is found
url_so : (P : ShelfUrl → Type 0) (url : List ℕ) (entries : List ShelfUrl) → All P entries → IfSome (url_of url entries) P
url_so P url [] all = tt
url_so P url (entry ∷ entries) all = elim (cases_Bool (bytes_eq entry.url url)) [
  | inl is ↦ rw is (All-head P entry entries all)
  | inr not ↦ rw not (url_so P url entries (All-tail P entry entries all))
]

-- by the entry of the URL
by_entry : (url : List ℕ) (entry : Option ShelfUrl) → IfSome entry (λ entry. All IsUtf8 entry.identities)
    → reply_said (key.Identifiers url) (reply_for (key.Identifiers url) (option_map (λ entry. json_content (identifiers_data entry)) entry))
    ≡ Ok (Package (option_and_then (λ entry. least_identity entry.identities) entry))
by_entry url None texts = refl
by_entry url (Some entry) texts = package_there url (compact_text (identifiers_data entry)) entry.identities (identifiers_back entry texts)

-- ---- lists

-- a list that is read says its usable releases
list_read : (identity body : List ℕ) (content : Content) (listed : List (Option Parts)) (usable : List Parts) → content.body ≡ body
    → releases_of body ≡ Ok listed → all_some listed ≡ usable
    → reply_said (key.List identity) (reply_for (key.List identity) (Some content)) ≡ Ok (releases_said usable)
list_read identity body content listed usable same read some = rw (same, read, some) refl

-- by the package
by_package : (identity : List ℕ) (found : Option ShelfPackage) → IsIdentity identity
    → IfSome found (λ entry. (entry.identity ≡ identity) × AreReleases entry.releases) → IfSome found (λ entry. All IsTypedRelease entry.releases)
    → reply_said (key.List identity) (reply_for (key.List identity) (option_map (λ entry. json_content (list_data entry)) found)) ≡ Ok (list_there found)
by_package identity None is releases typed = refl
by_package identity (Some entry) is releases typed =
    let back = usable_back entry identity releases.0 is releases.1 typed in
    list_read identity (compact_text (list_data entry)) (json_content (list_data entry)) back.0 (usable_in entry.releases) refl back.1 back.2

-- ---- the whole

-- the releases of the package that is found are typed
typed_there : (shelf : ShelfFile) (identity : List ℕ) → IsTyped shelf → IfSome (package_of identity shelf.packages) (λ entry. All IsTypedRelease entry.releases)
typed_there shelf identity typed = both (package_of identity shelf.packages) (package_so (λ entry. All IsTypedRelease entry.releases) identity shelf.packages typed.releases)
  where
    both : (found : Option ShelfPackage) → IfSome found (λ entry. (entry.identity ≡ identity) × All IsTypedRelease entry.releases)
        → IfSome found (λ entry. All IsTypedRelease entry.releases)
    both None is = tt
    both (Some entry) is = is.1

-- each key's reply says what the shelf does
pub book_says : (shelf : ShelfFile) (base : Base) (pages : Pages) (asked : Key) (reply : Reply) → IsShelf shelf → IsTyped shelf
    → IsBookReply shelf base pages asked reply → IsShelved shelf asked reply
book_says shelf base pages (key.List identity) reply of typed is =
    ap (reply_said (key.List identity)) (book_reply shelf base pages (key.List identity) reply is)
    ∙ by_package identity (package_of identity shelf.packages) is.askable.key
    (package_so (λ entry. AreReleases entry.releases) identity shelf.packages of.releases) (typed_there shelf identity typed)
book_says shelf base pages (key.Manifest identity release) reply of typed is =
    ap (reply_said (key.Manifest identity release)) (book_reply shelf base pages (key.Manifest identity release) reply is)
    ∙ by_found identity release (found_release shelf identity release)
book_says shelf base pages (key.Release identity release) reply of typed is =
    subst (HasChecksum (checksum_on shelf identity release)) (sym (book_reply shelf base pages (key.Release identity release) reply is))
    (checksum_found identity release (found_release shelf identity release) (identity_is_text identity is.askable.key.0) (version_is_text release is.askable.key.1)
    (found_there release (package_of identity shelf.packages) (typed_there shelf identity typed)))
book_says shelf base pages (key.Archive identity release) reply of typed is =
    subst (KeepsArchive (archive_on shelf identity release)) (sym (book_reply shelf base pages (key.Archive identity release) reply is))
    (kept_found identity release (found_release shelf identity release))
book_says shelf base pages (key.Identifiers url) reply of typed is =
    ap (reply_said (key.Identifiers url)) (book_reply shelf base pages (key.Identifiers url) reply is) ∙ by_entry url (url_of url shelf.urls)
    (url_so (λ entry. All IsUtf8 entry.identities) url shelf.urls typed.identities)
