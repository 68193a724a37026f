-- What a solver knows when it loads a node.
use Rattle.std.specs.Str.{bytes_eq}
use Rattle.std.specs.Prelude.{◌≡◌, ◌≤◌, ℕ, List, [], ◌∷◌, length, All, Option, Some, None, if◌then◌else◌}
use Rattle.spm_version.specs.Release.{Parts}
use Rattle.pub_facts.specs.Catalogue.{Lookups, Owner, release_at}
use Rattle.pub_facts.specs.Facts.{Load}
use Rattle.pub_facts.specs.declared.known.Known.{Known}

-- the list of a package: the first that is given for it
abbrev pub list_in : List (List ℕ × List Parts) → List ℕ → List Parts
list_in [] identity = []
list_in (one ∷ others) identity = if bytes_eq one.0 identity then one.1 else list_in others identity

-- the package of a URL: the first that is given for it
abbrev pub package_in : List (List ℕ × Option (List ℕ)) → List ℕ → Option (List ℕ)
package_in [] url = None
package_in (one ∷ others) url = if bytes_eq one.0 url then one.1 else package_in others url

abbrev pub lookups_of : Known → Lookups
lookups_of known = record { list = list_in known.lists; package_at = package_in known.urls }

-- at most 4,096 nodes, and lists of at most 4,096 releases
pub record IsWithinLimits (known : Known) : Type 0 where
  pub nodes : length known.nodes ≤ 4096
  pub lists : All (λ (one : List ℕ × List Parts). length one.1 ≤ 4096) known.lists

-- the root and its traits are loaded at the choice 1, a package and its traits at one of its releases
abbrev pub IsThere : Lookups → Owner → ℕ → Type 0
IsThere l None choice = choice ≡ 1
IsThere l (Some identity) choice = (release : Parts) × (release_at (l.list identity) choice ≡ Some release)

abbrev pub IsInRange : Lookups → Load → Type 0
IsInRange l load = IsThere l load.owner load.choice
