-- Keys that a resolution will likely ask for next, once it has a manifest or a list.
use Rattle.std.specs.Prelude.{◌≡◌, ℕ, ◌==◌, List, [], ◌∷◌, length, All, Bool, true, false, nat_lt, Option, Some, None, Ok, Err, if◌then◌else◌}
use Rattle.std.specs.List.{flat_map, IsAmong}
use Rattle.std.specs.Ordering.{is_le}
use Rattle.spm_json.specs.Reading.{Reading}
use Rattle.spm_key.specs.declared.key.Key.{Key}
use Rattle.spm_key.specs.declared.key.Key.TheVariants as key
use Rattle.spm_key.specs.declared.reply.Body.{Body}
use Rattle.spm_key.specs.declared.reply.Body.TheVariants.{Whole, Sum, Garbled, TooLong}
use Rattle.spm_key.specs.declared.reply.Reply.{Reply}
use Rattle.spm_manifest.specs.Profile.{manifest_of}
use Rattle.spm_manifest.specs.declared.dump.Contents.{Contents}
use Rattle.spm_manifest.specs.declared.need.Need.{Need}
use Rattle.spm_manifest.specs.declared.need.Target.{Target}
use Rattle.spm_manifest.specs.declared.need.Target.TheVariants.{Registry, Url, Local}
use Rattle.spm_version.specs.Release.{Parts, is_prerelease}
use Rattle.spm_version.specs.ReleaseLaws.{release_cmp}
use Rattle.spm_version.specs.declared.requirement.Requirement.{Requirement}
use Rattle.spm_version.specs.declared.requirement.Requirement.TheVariants.{Exact, Range, Branch, Revision, Path}
use Rattle.spm_api.specs.Bodies.{all_some, releases_of}

-- ---- of a manifest

-- only a version or a range of versions is looked up in a registry
abbrev pub is_looked_up : Requirement → Bool
is_looked_up (Exact exact) = true
is_looked_up (Range low high) = true
is_looked_up (Branch name) = false
is_looked_up (Revision name) = false
is_looked_up Path = false

abbrev pub target_keys : Target → List Key
target_keys (Registry identity) = key.List identity ∷ []
target_keys (Url url) = key.Identifiers url ∷ []
target_keys (Local name) = []

abbrev pub need_keys : Need → List Key
need_keys need = if is_looked_up need.requirement then target_keys need.target else []

-- for each need that is looked up, in order, the list of its package or the identifiers of its URL
abbrev pub keys_of : List Need → List Key
keys_of needs = flat_map need_keys needs

abbrev pub manifest_keys : Reading Contents → List Key
manifest_keys (Ok contents) = keys_of contents.needs
manifest_keys (Err fault) = []

-- ---- of a list

-- the greatest of the releases that are no pre-releases
pub record IsNewest (usable : List Parts) (newest : Parts) : Type 0 where
  pub listed : IsAmong usable newest
  pub stable : is_prerelease newest ≡ false
  pub greatest : All (λ other. is_prerelease other ≡ false → is_le (release_cmp other newest) ≡ true) usable

abbrev pub NewestStable : List Parts → Option Parts → Type 0
NewestStable usable (Some newest) = IsNewest usable newest
NewestStable usable None = All (λ release. is_prerelease release ≡ true) usable

abbrev pub newest_keys : List ℕ → Option Parts → List Key
newest_keys identity (Some newest) = key.Manifest identity newest ∷ []
newest_keys identity None = []

-- the manifest of the newest release that is no pre-release, if there is one; nothing of a list that is too long
abbrev pub AreListKeys : Bool → List ℕ → List Parts → List Key → Type 0
AreListKeys true identity usable keys = keys ≡ []
AreListKeys false identity usable keys =
    (newest : Option Parts) × NewestStable usable newest × (keys ≡ newest_keys identity newest)

abbrev pub GuessesOfList : List ℕ → Reading (List (Option Parts)) → List Key → Type 0
GuessesOfList identity (Ok listed) keys = AreListKeys (nat_lt 4096 (length (all_some listed))) identity (all_some listed) keys
GuessesOfList identity (Err fault) keys = keys ≡ []

-- ---- of a reply

-- the bytes of a reply that is there
abbrev pub bytes_in : Body → Option (List ℕ)
bytes_in (Whole bytes) = Some bytes
bytes_in (Sum sum length) = None
bytes_in Garbled = None
bytes_in TooLong = None

abbrev pub content_of : Reply → Option (List ℕ)
content_of reply = if reply.status == 200 then bytes_in reply.body else None

abbrev pub GuessesOfContent : Key → Option (List ℕ) → List Key → Type 0
GuessesOfContent asked None keys = keys ≡ []
GuessesOfContent (key.List identity) (Some bytes) keys = GuessesOfList identity (releases_of bytes) keys
GuessesOfContent (key.Manifest identity release) (Some bytes) keys = keys ≡ manifest_keys (manifest_of bytes)
GuessesOfContent (key.Release identity release) (Some bytes) keys = keys ≡ []
GuessesOfContent (key.Archive identity release) (Some bytes) keys = keys ≡ []
GuessesOfContent (key.Identifiers url) (Some bytes) keys = keys ≡ []

-- the keys that a readable manifest or list with the status 200 makes likely; none of all else
abbrev pub Guesses : Key → Reply → List Key → Type 0
Guesses asked reply keys = GuessesOfContent asked (content_of reply) keys
