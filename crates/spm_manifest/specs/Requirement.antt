-- What a dependency requires: the first key that is there of `range`, `exact`, `branch` and `revision` decides, also
-- where it is null.
use Rattle.std.specs.Prelude.{codes, Option, Some, None, Ok}
use Rattle.serde_json.specs.Data.{Data}
use Rattle.serde_json.specs.Find.{get}
use Rattle.spm_version.specs.declared.kind.Kind.TheVariants.{Missing, WrongKind}
use Rattle.spm_version.specs.declared.requirement.Requirement.{Requirement}
use Rattle.spm_version.specs.declared.requirement.Requirement.TheVariants.{Exact, Range, Branch, Revision}
use Rattle.spm_json.specs.Field.{field_of}
use Rattle.spm_json.specs.Reading.{Reading, fault_here, within, ◌>>=◌}
use Rattle.spm_json.specs.Sequence.{sole_of}
use Rattle.spm_json.specs.Shape.{object_of, text_of}
use Rattle.spm_json.specs.Value.{release_reading}
use Rattle.spm_manifest.specs.declared.requirement.Bounds.{Bounds}
use Rattle.spm_manifest.specs.declared.requirement.RegistryRequirement.{RegistryRequirement}
use Rattle.spm_manifest.specs.declared.requirement.SourceRequirement.{SourceRequirement}

-- `{"lowerBound":VERSION,"upperBound":VERSION}`
abbrev pub bounds_reading : Data → Reading Bounds
bounds_reading d = object_of d >>= λ o.
    field_of release_reading (codes "lowerBound") o >>= λ lower.
    field_of release_reading (codes "upperBound") o >>= λ upper.
    Ok (record { lower = lower; upper = upper })

-- `{"range":[BOUNDS]}`
abbrev pub range_reading : Data → Reading Requirement
range_reading d = within (codes "range") (sole_of bounds_reading d) >>= λ bounds. Ok (Range bounds.lower bounds.upper)

-- `{"exact":[VERSION]}`
abbrev pub exact_reading : Data → Reading Requirement
exact_reading d = within (codes "exact") (sole_of release_reading d) >>= λ release. Ok (Exact release)

-- `{"branch":[NAME]}`
abbrev pub branch_reading : Data → Reading Requirement
branch_reading d = within (codes "branch") (sole_of text_of d) >>= λ name. Ok (Branch name)

-- `{"revision":[NAME]}`
abbrev pub revision_reading : Data → Reading Requirement
revision_reading d = within (codes "revision") (sole_of text_of d) >>= λ name. Ok (Revision name)

-- the versions that are required: a range, an exact one, or neither
abbrev pub by_exact : Option Data → Reading (Option Requirement)
by_exact (Some d) = exact_reading d >>= λ requirement. Ok (Some requirement)
by_exact None = Ok None

abbrev pub by_range : Option Data → Data → Reading (Option Requirement)
by_range (Some d) o = range_reading d >>= λ requirement. Ok (Some requirement)
by_range None o = by_exact (get (codes "exact") o)

abbrev pub versions_reading : Data → Reading (Option Requirement)
versions_reading o = by_range (get (codes "range") o) o

-- what else a package of the registry may not require: a branch and a revision are of the wrong kind
abbrev pub no_revision : Option Data → Reading Requirement
no_revision (Some d) = within (codes "revision") (fault_here WrongKind)
no_revision None = fault_here Missing

abbrev pub no_branch : Option Data → Data → Reading Requirement
no_branch (Some d) o = within (codes "branch") (fault_here WrongKind)
no_branch None o = no_revision (get (codes "revision") o)

abbrev pub or_no_branch : Data → Option Requirement → Reading Requirement
or_no_branch o (Some requirement) = Ok requirement
or_no_branch o None = no_branch (get (codes "branch") o) o

abbrev pub registry_requirement : Data → Reading RegistryRequirement
registry_requirement d = object_of d >>= λ o. versions_reading o >>= or_no_branch o >>= λ requirement.
    Ok (record { requirement = requirement })

-- what else a repository may be required at
abbrev pub by_revision : Option Data → Reading Requirement
by_revision (Some d) = revision_reading d
by_revision None = fault_here Missing

abbrev pub by_branch : Option Data → Data → Reading Requirement
by_branch (Some d) o = branch_reading d
by_branch None o = by_revision (get (codes "revision") o)

abbrev pub or_branch : Data → Option Requirement → Reading Requirement
or_branch o (Some requirement) = Ok requirement
or_branch o None = by_branch (get (codes "branch") o) o

abbrev pub source_requirement : Data → Reading SourceRequirement
source_requirement d = object_of d >>= λ o. versions_reading o >>= or_branch o >>= λ requirement.
    Ok (record { requirement = requirement })
