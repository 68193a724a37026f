-- What is said of the keys of a registry, as a solver sees it: total functions, with nothing where nothing is said.
use Rattle.std.specs.Prelude.{◌≡◌, ◌≤◌, ℕ, List, [], length, Option, Some, None, Result, Ok, Err}
use Rattle.spm_key.specs.Catalogue as replies
use Rattle.spm_key.specs.declared.key.Key.{Key}
use Rattle.spm_key.specs.declared.key.Key.TheVariants as key
use Rattle.spm_api.specs.Refused.{Refusal}
use Rattle.spm_api.specs.Said.{said_in}
use Rattle.spm_api.specs.declared.replies.Said.{Said}
use Rattle.spm_api.specs.declared.replies.Said.TheVariants as said
use Rattle.spm_version.specs.Release.{Parts}
use Rattle.pub_facts.specs.Catalogue.{Catalogue, Found, Gone, Faulty, Lookups, Read}

-- what the reply of each key says, if it is given
abbrev pub Answers : Type 0
Answers = Key → Option Said

-- the usable releases of a list
abbrev pub releases_in : Option Said → List Parts
releases_in (Some (said.Releases releases)) = releases
releases_in (Some other) = []
releases_in None = []

-- the package of a look-up
abbrev pub package_in : Option Said → Option (List ℕ)
package_in (Some (said.Package identity)) = identity
package_in (Some other) = None
package_in None = None

-- what is found of a manifest
abbrev pub found_in : Option Said → Found
found_in (Some (said.Manifest contents)) = Read contents
found_in (Some (said.FaultyManifest place kind)) = Faulty place kind
found_in (Some other) = Gone
found_in None = Gone

abbrev pub lookups_by : Answers → Lookups
lookups_by answers = record {
  list = λ identity. releases_in (answers (key.List identity));
  package_at = λ url. package_in (answers (key.Identifiers url));
}

abbrev pub catalogue_by : Answers → Catalogue
catalogue_by answers = record {
  lookups = lookups_by answers;
  found = λ identity release. found_in (answers (key.Manifest identity release));
}

-- what is said of a key is said of it by the other answers too
abbrev pub Carries : Answers → Answers → Type 0
Carries answers more = (asked : Key) (said : Said) → answers asked ≡ Some said → more asked ≡ Some said

-- no list that is given has more than 4,096 releases
abbrev pub AreShort : Answers → Type 0
AreShort answers = (identity : List ℕ) (list : List Parts) → answers (key.List identity) ≡ Some (said.Releases list) → length list ≤ 4096

-- ---- of replies

abbrev pub unless_refused : Option (Result Said Refusal) → Option Said
unless_refused (Some (Ok said)) = Some said
unless_refused (Some (Err refusal)) = None
unless_refused None = None

-- what the replies of a catalogue say, but for those that are refused
abbrev pub answers_of : replies.Catalogue → Answers
answers_of catalogue = λ asked. unless_refused (said_in catalogue asked)
