-- The bodies of a registry's replies (SE-0292 and the registry's service specification; problems by RFC 7807), read as far as a
-- resolution needs them.
use Rattle.std.specs.Str.{bytes_eq}
use Rattle.std.specs.Prelude.{◌≡◌, ◌≢◌, ℕ, ◌&&◌, List, [], ◌∷◌, All, codes, Bool, false, Option, Some, None, option_and_then, Ok, Err, if◌then◌else◌}
use Rattle.std.specs.Cmp.Lexicographic.{slice_cmp}
use Rattle.std.specs.List.{Contains}
use Rattle.std.specs.Ordering.{is_lt, nat_cmp}
use Rattle.serde_json.specs.Data.{Data}
use Rattle.serde_json.specs.Find.{as_str, get}
use Rattle.spm_digest.specs.Digest.{sum_of}
use Rattle.spm_ident.specs.Identity.{identity_of}
use Rattle.spm_json.specs.Field.{field_of}
use Rattle.spm_json.specs.Reading.{Reading, ◌>>=◌}
use Rattle.spm_json.specs.Sequence.{items_of, members_of}
use Rattle.spm_json.specs.Shape.{document_of, object_of, text_of, whole_of}
use Rattle.spm_version.specs.Release.{Parts, ends_in_zip, release_of}

-- the member of an object, read so
abbrev pub member_reading : {A : Type 0} → (Data → Reading A) → List ℕ → Data → Reading A
member_reading reading key d = object_of d >>= λ o. field_of reading key o

-- ---- a list of releases

abbrev pub unless_problem : Option Data → Option Parts → Option Parts
unless_problem (Some problem) release = None
unless_problem None release = release

-- the release of a member: none where the key is no version or ends in `.zip`, or the member has the key `problem`
abbrev pub usable_release : List ℕ → Data → Option Parts
usable_release key d =
    if ends_in_zip key then None else unless_problem (get (codes "problem") d) (release_of key)

-- each member is an object
abbrev pub listed_reading : List (Option Parts) → List ℕ → Data → Reading (Option Parts)
listed_reading earlier key d = object_of d >>= λ o. Ok (usable_release key o)

abbrev pub list_reading : Data → Reading (List (Option Parts))
list_reading = member_reading (members_of listed_reading) (codes "releases")

-- those that are there
abbrev pub all_some : {A : Type 0} → List (Option A) → List A
all_some [] = []
all_some (Some x ∷ others) = x ∷ all_some others
all_some (None ∷ others) = all_some others

-- ---- a release: the checksum of its source archive

pub record Resource : Type 0 where
  pub is_archive : Bool
  -- the sum of 64 hexadecimal digits, if there is one
  pub checksum : Option (List ℕ)

abbrev pub is_text : List ℕ → Option (List ℕ) → Bool
is_text wanted (Some text) = bytes_eq text wanted
is_text wanted None = false

-- the text of a member
abbrev pub text_at : List ℕ → Data → Option (List ℕ)
text_at key d = option_and_then as_str (get key d)

abbrev pub resource_in : Data → Resource
resource_in d = record {
  is_archive = is_text (codes "source-archive") (text_at (codes "name") d) && is_text (codes "application/zip") (text_at (codes "type") d);
  checksum = option_and_then sum_of (text_at (codes "checksum") d);
}

abbrev pub resource_reading : Data → Reading Resource
resource_reading d = object_of d >>= λ o. Ok (resource_in o)

abbrev pub resources_reading : Data → Reading (List Resource)
resources_reading = member_reading (items_of resource_reading) (codes "resources")

abbrev pub or_later : Resource → Option (Option (List ℕ)) → Option (Option (List ℕ))
or_later resource later = if resource.is_archive then option_and_then (λ sum. Some (Some sum)) resource.checksum else later

-- the checksum of the first source archive; nothing where there is none; unreadable where it has no checksum
abbrev pub archive_checksum : List Resource → Option (Option (List ℕ))
archive_checksum [] = Some None
archive_checksum (resource ∷ resources) = or_later resource (archive_checksum resources)

abbrev pub checksum_in : Reading (List Resource) → Option (Option (List ℕ))
checksum_in (Ok resources) = archive_checksum resources
checksum_in (Err fault) = None

-- ---- the identities of a URL

abbrev pub identifiers_reading : Data → Reading (List (List ℕ))
identifiers_reading = member_reading (items_of text_of) (codes "identifiers")

-- the lesser of an identity and the least so far
abbrev pub lesser : List ℕ → Option (List ℕ) → List ℕ
lesser identity None = identity
lesser identity (Some other) = if is_lt (slice_cmp nat_cmp other identity) then other else identity

-- the least of the texts that are identities: one of them, and none is below it
pub record IsLeast (texts : List (List ℕ)) (least : List ℕ) : Type 0 where
  pub named : (text : List ℕ) × Contains texts text × (identity_of text ≡ Ok least)
  pub lowest : All (λ text. (other : List ℕ) → identity_of text ≡ Ok other → is_lt (slice_cmp nat_cmp other least) ≡ false) texts

-- nothing where none of the texts is an identity
abbrev pub IsLeastIdentity : List (List ℕ) → Option (List ℕ) → Type 0
IsLeastIdentity texts (Some least) = IsLeast texts least
IsLeastIdentity texts None = All (λ text. (identity : List ℕ) → identity_of text ≢ Ok identity) texts

-- ---- the bodies

-- the usable releases that a body lists, in the byte order of their texts
abbrev pub releases_of : List ℕ → Reading (List (Option Parts))
releases_of body = whole_of list_reading body

abbrev pub checksum_of : List ℕ → Option (Option (List ℕ))
checksum_of body = checksum_in (whole_of resources_reading body)

-- the texts that a body names as identities
abbrev pub identifiers_of : List ℕ → Reading (List (List ℕ))
identifiers_of body = whole_of identifiers_reading body

abbrev pub detail_in : Reading Data → Option (List ℕ)
detail_in (Ok d) = text_at (codes "detail") d
detail_in (Err fault) = None

-- what a problem says
abbrev pub problem_of : List ℕ → Option (List ℕ)
problem_of body = detail_in (document_of body)
