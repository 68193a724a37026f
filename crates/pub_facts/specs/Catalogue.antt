-- What a job and the replies of a registry say, as a solver sees it.
use Rattle.std.specs.Str.{bytes_eq}
use Rattle.std.specs.Prelude.{ℕ, zero, suc, ◌==◌, ◌&&◌, ◌||◌, List, [], Bool, true, false, nat_lt, slice_get, Option, Some, None, if◌then◌else◌}
use Rattle.std.specs.List.{list_any}
use Rattle.spm_manifest.specs.declared.dump.Contents.{Contents}
use Rattle.spm_manifest.specs.declared.need.Guard.{Guard}
use Rattle.spm_manifest.specs.declared.need.Guard.TheVariants.{Always, Any}
use Rattle.spm_manifest.specs.declared.need.Need.{Need}
use Rattle.spm_manifest.specs.declared.need.Target.{Target}
use Rattle.spm_manifest.specs.declared.need.Target.TheVariants.{Registry, Url, Local}
use Rattle.spm_trait.specs.declared.traits.TraitEntry.{TraitEntry}
use Rattle.spm_version.specs.Release.{Parts}
use Rattle.spm_version.specs.declared.kind.Kind.{Kind}
use Rattle.spm_version.specs.declared.requirement.Requirement.{Requirement}
use Rattle.spm_version.specs.declared.requirement.Requirement.TheVariants.{Exact, Range, Branch, Revision, Path}
use Rattle.spm_version.specs.declared.tools_version.ToolsVersion.{ToolsVersion}

-- what lists and lookups say
pub record Lookups : Type 0 where
  -- the usable releases of a package, ascending; none where its list isn't answered
  pub list : List ℕ → List Parts
  -- the package of a URL, where the registry knows one
  pub package_at : List ℕ → Option (List ℕ)

-- what the answer for a manifest is
pub data Found : Type 0 where
  -- there is none (404 or 410), or it isn't answered
  Gone : Found
  -- its first fault stands at this place
  Faulty : List ℕ → Kind → Found
  Read : Contents → Found

pub record Catalogue : Type 0 where
  pub lookups : Lookups
  -- of a package at a version
  pub found : List ℕ → Parts → Found

pub record Job : Type 0 where
  pub root : Contents
  -- the traits of the root that the words ask
  pub asked : List (List ℕ)
  -- the running tools version
  pub tools : ToolsVersion

-- the root, where there is none, or a package
abbrev pub Owner : Type 0
Owner = Option (List ℕ)

-- the first version of the tools is greater
abbrev pub is_above : ToolsVersion → ToolsVersion → Bool
is_above first second = nat_lt second.major first.major || (second.major == first.major
    && (nat_lt second.minor first.minor || (second.minor == first.minor && nat_lt second.patch first.patch)))

-- the contents that can be used: those that were read and don't need greater tools
abbrev pub contents_of : ToolsVersion → Found → Option Contents
contents_of tools Gone = None
contents_of tools (Faulty place kind) = None
contents_of tools (Read contents) = if is_above contents.tools tools then None else Some contents

-- the contents of the root, and of a package at a version
abbrev pub contents_at : Job → Catalogue → Owner → Option Parts → Option Contents
contents_at job c None version = Some job.root
contents_at job c (Some identity) None = None
contents_at job c (Some identity) (Some release) = contents_of job.tools (c.found identity release)

abbrev pub needs_in : Option Contents → List Need
needs_in None = []
needs_in (Some contents) = contents.needs

abbrev pub entries_in : Option Contents → List TraitEntry
entries_in None = []
entries_in (Some contents) = contents.traits.entries

-- choice 0 of a package is none; then come the releases of its list
abbrev pub release_at : List Parts → ℕ → Option Parts
release_at list zero = None
release_at list (suc k) = slice_get list k

-- the version that a choice of an owner is
abbrev pub version_in : Lookups → Owner → ℕ → Option Parts
version_in l None choice = None
version_in l (Some identity) choice = release_at (l.list identity) choice

-- the package that a dependency is on, where it is known
abbrev pub package_of_target : Lookups → Target → Option (List ℕ)
package_of_target l (Registry identity) = Some identity
package_of_target l (Url url) = l.package_at url
package_of_target l (Local path) = None

abbrev pub if_versioned : Requirement → Option (List ℕ) → Option (List ℕ)
if_versioned (Exact release) target = target
if_versioned (Range low high) target = target
if_versioned (Branch name) target = None
if_versioned (Revision name) target = None
if_versioned Path target = None

-- the package of a need for a range or for one version, where it is known
abbrev pub target_of : Lookups → Need → Option (List ℕ)
target_of l need = if_versioned need.requirement (package_of_target l need.target)

abbrev pub is_always : Guard → Bool
is_always Always = true
is_always (Any names) = false

-- the guard names the trait
abbrev pub is_guarded_by : List ℕ → Guard → Bool
is_guarded_by name Always = false
is_guarded_by name (Any names) = list_any (bytes_eq name) names
