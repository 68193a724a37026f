-- The dependencies of a manifest: the first key that is there of `registry`, `sourceControl` and `fileSystem` decides.
use Rattle.std.specs.Prelude.{ℕ, List, [], ◌∷◌, codes, Option, Some, None, Ok}
use Rattle.serde_json.specs.Data.{Data}
use Rattle.serde_json.specs.Find.{as_str, get}
use Rattle.spm_version.specs.declared.kind.Kind.TheVariants.{Missing}
use Rattle.spm_version.specs.declared.requirement.Requirement.TheVariants.{Path}
use Rattle.spm_json.specs.Field.{field_of, optional_field_of}
use Rattle.spm_json.specs.Reading.{Reading, fault_here, within, ◌>>=◌}
use Rattle.spm_json.specs.Sequence.{limited_items_of, sole_of}
use Rattle.spm_json.specs.Shape.{object_of, text_of}
use Rattle.spm_json.specs.Value.{identity_reading, trait_reading}
use Rattle.spm_manifest.specs.Requirement.{registry_requirement, source_requirement}
use Rattle.spm_manifest.specs.Traits.{condition_reading}
use Rattle.spm_manifest.specs.declared.dependency.Dependency.{Dependency}
use Rattle.spm_manifest.specs.declared.dependency.FolderDependency.{FolderDependency}
use Rattle.spm_manifest.specs.declared.dependency.Location.{Location}
use Rattle.spm_manifest.specs.declared.dependency.RegistryDependency.{RegistryDependency}
use Rattle.spm_manifest.specs.declared.dependency.Remote.{Remote}
use Rattle.spm_manifest.specs.declared.dependency.SourceDependency.{SourceDependency}
use Rattle.spm_manifest.specs.declared.need.Ask.{Ask}
use Rattle.spm_manifest.specs.declared.need.Target.{Target}
use Rattle.spm_manifest.specs.declared.need.Target.TheVariants.{Registry, Url, Local}
use Rattle.spm_manifest.specs.declared.traits.Condition.{Condition}

-- ---- the traits that are asked of a dependency

abbrev pub under_of : Option Condition → List (List ℕ)
under_of (Some condition) = condition.traits
under_of None = []

-- `{"name":NAME,"condition":CONDITION}`
abbrev pub ask_reading : Data → Reading Ask
ask_reading d = object_of d >>= λ o.
    field_of trait_reading (codes "name") o >>= λ name.
    optional_field_of condition_reading (codes "condition") o >>= λ condition.
    Ok (record { name = name; under = under_of condition })

abbrev pub max_asks : ℕ
max_asks = 300

abbrev pub asks_reading : Data → Reading (List Ask)
asks_reading d = limited_items_of ask_reading max_asks d

-- without a list the traits by default are asked
abbrev pub ask_default : Ask
ask_default = record { name = codes "default"; under = [] }

abbrev pub asked_of : Option (List Ask) → List Ask
asked_of (Some asks) = asks
asked_of None = ask_default ∷ []

abbrev pub asked_reading : Data → Reading (List Ask)
asked_reading o = optional_field_of asks_reading (codes "traits") o >>= λ asks. Ok (asked_of asks)

-- ---- a package of the registry

abbrev pub registry_dependency : Data → Reading RegistryDependency
registry_dependency d = object_of d >>= λ o.
    field_of identity_reading (codes "identity") o >>= λ identity.
    field_of registry_requirement (codes "requirement") o >>= λ requirement.
    asked_reading o >>= λ asked.
    Ok (record { dependency = record { identity = identity; target = Registry identity; requirement = requirement.requirement; asked = asked } })

-- ---- a repository, or a folder that stands for one

-- a text, or an object with the text `urlString`
abbrev pub remote_in : Option (List ℕ) → Data → Reading Remote
remote_in (Some url) d = Ok (record { url = url })
remote_in None d = object_of d >>= λ o. field_of text_of (codes "urlString") o >>= λ url. Ok (record { url = url })

abbrev pub remote_reading : Data → Reading Remote
remote_reading d = remote_in (as_str d) d

abbrev pub by_local : Option Data → Reading Location
by_local (Some d) = within (codes "local") (sole_of text_of d) >>= λ path. Ok (record { target = Local path })
by_local None = fault_here Missing

abbrev pub by_remote : Option Data → Data → Reading Location
by_remote (Some d) o = within (codes "remote") (sole_of remote_reading d) >>= λ remote. Ok (record { target = Url remote.url })
by_remote None o = by_local (get (codes "local") o)

-- `{"remote":[REMOTE]}`, or else `{"local":[PATH]}`
abbrev pub location_reading : Data → Reading Location
location_reading d = object_of d >>= λ o. by_remote (get (codes "remote") o) o

-- a folder, of which nothing further is read
abbrev pub folder : List ℕ → Target → Dependency
folder identity target = record { identity = identity; target = target; requirement = Path; asked = ask_default ∷ [] }

abbrev pub repository : List ℕ → Target → Data → Reading Dependency
repository identity target o =
    field_of source_requirement (codes "requirement") o >>= λ requirement.
    asked_reading o >>= λ asked.
    Ok (record { identity = identity; target = target; requirement = requirement.requirement; asked = asked })

abbrev pub at_location : List ℕ → Target → Data → Reading Dependency
at_location identity (Registry other) o = repository identity (Registry other) o
at_location identity (Url url) o = repository identity (Url url) o
at_location identity (Local path) o = Ok (folder identity (Local path))

abbrev pub source_dependency : Data → Reading SourceDependency
source_dependency d = object_of d >>= λ o.
    field_of text_of (codes "identity") o >>= λ identity.
    field_of location_reading (codes "location") o >>= λ location.
    at_location identity location.target o >>= λ dependency.
    Ok (record { dependency = dependency })

abbrev pub folder_dependency : Data → Reading FolderDependency
folder_dependency d = object_of d >>= λ o.
    field_of text_of (codes "identity") o >>= λ identity.
    field_of text_of (codes "path") o >>= λ path.
    Ok (record { dependency = folder identity (Local path) })

-- ---- which of them it is

abbrev pub by_folder : Option Data → Reading Dependency
by_folder (Some d) = within (codes "fileSystem") (sole_of folder_dependency d) >>= λ found. Ok found.dependency
by_folder None = fault_here Missing

abbrev pub by_source : Option Data → Data → Reading Dependency
by_source (Some d) o = within (codes "sourceControl") (sole_of source_dependency d) >>= λ found. Ok found.dependency
by_source None o = by_folder (get (codes "fileSystem") o)

abbrev pub by_registry : Option Data → Data → Reading Dependency
by_registry (Some d) o = within (codes "registry") (sole_of registry_dependency d) >>= λ found. Ok found.dependency
by_registry None o = by_source (get (codes "sourceControl") o) o

abbrev pub dependency_reading : Data → Reading Dependency
dependency_reading d = object_of d >>= λ o. by_registry (get (codes "registry") o) o

-- at most 512 of them
abbrev pub max_dependencies : ℕ
max_dependencies = 512

abbrev pub dependencies_reading : Data → Reading (List Dependency)
dependencies_reading d = limited_items_of dependency_reading max_dependencies d
