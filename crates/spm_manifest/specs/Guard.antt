-- The guard of a dependency (this profile's rule): where it has a use, and all of its uses have a condition, the
-- traits of these conditions; else none. It is defined over the whole list of uses of all targets.
use Rattle.std.specs.Str.{bytes_eq}
use Rattle.std.specs.Prelude.{ℕ, ◌||◌, List, [], ◌∷◌, length, Bool, true, false, nat_lt, Option, Some, None, if◌then◌else◌}
use Rattle.std.specs.List.{filter, flat_map, list_all, list_any}
use Rattle.std.specs.Str.{str_eq_ignore_ascii_case}
use Rattle.spm_manifest.specs.declared.dependency.Dependency.{Dependency}
use Rattle.spm_manifest.specs.declared.need.Guard.{Guard}
use Rattle.spm_manifest.specs.declared.need.Guard.TheVariants.{Always, Any}
use Rattle.spm_manifest.specs.declared.need.Need.{Need}
use Rattle.spm_manifest.specs.declared.uses.Named.{Named}
use Rattle.spm_manifest.specs.declared.uses.Named.TheVariants.{Everything, Name, Package}
use Rattle.spm_manifest.specs.declared.uses.OptionalUse.{OptionalUse}
use Rattle.spm_manifest.specs.declared.uses.Use.{Use}
use Rattle.spm_manifest.specs.declared.uses.UsingTarget.{UsingTarget}

-- the dependency's identity is this name, without regard to ASCII case
abbrev pub is_named : List ℕ → Dependency → Bool
is_named name dependency = str_eq_ignore_ascii_case dependency.identity name

-- a name of one dependency at least counts for those; one of none counts for every dependency
abbrev pub counts_by_name : List Dependency → List ℕ → Dependency → Bool
counts_by_name all name dependency = if list_any (is_named name) all then is_named name dependency else true

abbrev pub is_that_name : List ℕ → Option (List ℕ) → Bool
is_that_name name (Some other) = bytes_eq other name
is_that_name name None = false

-- a target of this manifest has this name
abbrev pub is_target : List UsingTarget → List ℕ → Bool
is_target targets name = list_any (λ target. is_that_name name target.name) targets

-- whether what is named is the dependency: a name of a target of this manifest is no dependency
abbrev pub counts_for : List UsingTarget → List Dependency → Dependency → Named → Bool
counts_for targets all dependency (Package name) = counts_by_name all name dependency
counts_for targets all dependency (Name name) = if is_target targets name then false else counts_by_name all name dependency
counts_for targets all dependency Everything = true

abbrev pub some_uses : List OptionalUse → List Use
some_uses [] = []
some_uses (optional ∷ uses) = some_and optional.found (some_uses uses)
  where
    some_and : Option Use → List Use → List Use
    some_and (Some found) others = found ∷ others
    some_and None others = others

abbrev pub all_uses : List UsingTarget → List Use
all_uses targets = flat_map (λ target. some_uses target.uses) targets

-- the uses of a dependency, in order of appearance
abbrev pub uses_of : List UsingTarget → List Dependency → Dependency → List Use
uses_of targets all dependency = filter (λ found. counts_for targets all dependency found.named) (all_uses targets)

-- the names in order of appearance, without repeats
abbrev pub distinct_after : (List ℕ → Bool) → List (List ℕ) → List (List ℕ)
distinct_after is_seen [] = []
distinct_after is_seen (name ∷ names) =
    if is_seen name then distinct_after is_seen names else name ∷ distinct_after (λ other. bytes_eq name other || is_seen other) names

abbrev pub distinct : List (List ℕ) → List (List ℕ)
distinct names = distinct_after (λ name. false) names

abbrev pub has_condition : Use → Bool
has_condition found = nat_lt 0 (length found.condition)

abbrev pub guard_by : List Use → Guard
guard_by [] = Always
guard_by (first ∷ others) = if list_all has_condition (first ∷ others)
    then Any (distinct (flat_map (λ found. found.condition) (first ∷ others))) else Always

abbrev pub guard_of : List UsingTarget → List Dependency → Dependency → Guard
guard_of targets all dependency = guard_by (uses_of targets all dependency)

-- the need that a dependency is
abbrev pub need_of : List UsingTarget → List Dependency → Dependency → Need
need_of targets all dependency = record {
  target = dependency.target;
  requirement = dependency.requirement;
  guard = guard_of targets all dependency;
  asked = dependency.asked;
}
