-- What is kept of the replies that were given, and what they say of each key.
use Rattle.std.specs.Str.{bytes_eq}
use Rattle.std.specs.Prelude.{ℕ, ◌&&◌, Bool, List, [], ◌∷◌, Option, Some, None, option_map, if◌then◌else◌}
use Rattle.std.specs.List.{list_any}
use Rattle.pub_trail.specs.Turn.{or_some, when_true}
use Rattle.spm_api.specs.declared.replies.Said.{Said}
use Rattle.spm_api.specs.declared.replies.Said.TheVariants.{Package, Releases, TooMany}
use Rattle.spm_key.specs.KeyLaws.{key_eq}
use Rattle.spm_key.specs.declared.key.Key.{Key}
use Rattle.spm_key.specs.declared.key.Key.TheVariants as key
use Rattle.spm_version.specs.Release.{Parts}
use Rattle.spm_version.specs.ReleaseLaws.{release_eq}
use Rattle.pub_plain.specs.Answers.{Answers}
use Rattle.pub_plain.specs.declared.told.GivenManifest.{GivenManifest}

pub record Given : Type 0 where
  -- the usable releases of packages
  pub lists : List (List ℕ × List Parts)
  -- the packages whose lists are too long
  pub long : List (List ℕ)
  -- the packages of URLs, where the registry knows one
  pub urls : List (List ℕ × Option (List ℕ))
  pub manifests : List GivenManifest

-- the list of a package, the package of a URL, and what a manifest says: the first that is given for it
abbrev pub list_given : List (List ℕ × List Parts) → List ℕ → Option (List Parts)
list_given [] identity = None
list_given (one ∷ others) identity = if bytes_eq one.0 identity then Some one.1 else list_given others identity

abbrev pub package_given : List (List ℕ × Option (List ℕ)) → List ℕ → Option (Option (List ℕ))
package_given [] url = None
package_given (one ∷ others) url = if bytes_eq one.0 url then Some one.1 else package_given others url

abbrev pub is_of : List ℕ → Parts → GivenManifest → Bool
is_of identity release one = bytes_eq one.identity identity && release_eq one.release release

abbrev pub manifest_given : List GivenManifest → List ℕ → Parts → Option Said
manifest_given [] identity release = None
manifest_given (one ∷ others) identity release = if is_of identity release one then Some one.said else manifest_given others identity release

-- what is said of each key
abbrev pub answers_in : Given → Answers
answers_in given (key.List identity) =
    or_some (option_map Releases (list_given given.lists identity)) (when_true (list_any (bytes_eq identity) given.long) TooMany)
answers_in given (key.Manifest identity release) = manifest_given given.manifests identity release
answers_in given (key.Release identity release) = None
answers_in given (key.Archive identity release) = None
answers_in given (key.Identifiers url) = option_map Package (package_given given.urls url)

-- the same, with what is said of one key more
abbrev pub with_said : Key → Said → Answers → Answers
with_said given said answers = λ asked. if key_eq given asked then Some said else answers asked
