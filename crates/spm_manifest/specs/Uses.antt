-- The uses of dependencies by targets. A use is of a package, of a name, or of every dependency, and may have a
-- condition.
use Rattle.std.specs.Prelude.{ℕ, List, [], length, codes, nat_lt, Option, Some, None, Ok, if◌then◌else◌, slice_get}
use Rattle.std.specs.Option.{option_and_then}
use Rattle.serde_json.specs.Data.{Data}
use Rattle.serde_json.specs.Find.{as_str, get}
use Rattle.spm_version.specs.declared.kind.Kind.TheVariants.{WrongKind}
use Rattle.spm_json.specs.Field.{optional_field_of, unless_null}
use Rattle.spm_json.specs.Reading.{Reading, at_index, fault_here, within, ◌>>=◌}
use Rattle.spm_json.specs.Sequence.{items_of}
use Rattle.spm_json.specs.Shape.{list_of, object_of, text_of}
use Rattle.spm_manifest.specs.Traits.{condition_reading, or_nothing}
use Rattle.spm_manifest.specs.declared.traits.Condition.{Condition}
use Rattle.spm_manifest.specs.declared.uses.Named.{Named}
use Rattle.spm_manifest.specs.declared.uses.Named.TheVariants.{Everything, Name, Package}
use Rattle.spm_manifest.specs.declared.uses.OptionalUse.{OptionalUse}
use Rattle.spm_manifest.specs.declared.uses.Use.{Use}
use Rattle.spm_manifest.specs.declared.uses.UsingTarget.{UsingTarget}

-- an item of a list, where it is there and not null: absent items at the end count as null
abbrev pub item_at : ℕ → List Data → Option Data
item_at index ds = option_and_then unless_null (slice_get ds index)

-- a text that has to be there
abbrev pub text_in : Option Data → Reading (List ℕ)
text_in (Some d) = text_of d
text_in None = fault_here WrongKind

-- a package's name, or null for every dependency
abbrev pub package_in : Option Data → Reading Named
package_in (Some d) = text_of d >>= λ name. Ok (Package name)
package_in None = Ok Everything

-- a condition, or null for none
abbrev pub condition_in : Option Data → Reading Condition
condition_in (Some d) = condition_reading d
condition_in None = Ok (record { traits = [] })

-- `[name, package or null, aliases, condition]`
abbrev pub product_in : List Data → Reading Use
product_in ds = if nat_lt 4 (length ds) then fault_here WrongKind else
    (at_index 0 (text_in (item_at 0 ds)) >>= λ name.
    at_index 1 (package_in (item_at 1 ds)) >>= λ named.
    at_index 3 (condition_in (item_at 3 ds)) >>= λ condition.
    Ok (record { named = named; condition = condition.traits }))

abbrev pub product_reading : Data → Reading Use
product_reading d = list_of d >>= product_in

-- `[name, condition]`
abbrev pub name_in : List Data → Reading Use
name_in ds = if nat_lt 2 (length ds) then fault_here WrongKind else
    (at_index 0 (text_in (item_at 0 ds)) >>= λ name.
    at_index 1 (condition_in (item_at 1 ds)) >>= λ condition.
    Ok (record { named = Name name; condition = condition.traits }))

abbrev pub name_reading : Data → Reading Use
name_reading d = list_of d >>= name_in

-- a use of a target of this manifest is none; what is none of these is a use of every dependency without condition
abbrev pub by_target : Option Data → Reading OptionalUse
by_target (Some d) = Ok (record { found = None })
by_target None = Ok (record { found = Some (record { named = Everything; condition = [] }) })

abbrev pub by_name : Option Data → Data → Reading OptionalUse
by_name (Some d) o = within (codes "byName") (name_reading d) >>= λ found. Ok (record { found = Some found })
by_name None o = by_target (get (codes "target") o)

abbrev pub by_product : Option Data → Data → Reading OptionalUse
by_product (Some d) o = within (codes "product") (product_reading d) >>= λ found. Ok (record { found = Some found })
by_product None o = by_name (get (codes "byName") o) o

-- the first key that is there of `product`, `byName` and `target` decides
abbrev pub use_reading : Data → Reading OptionalUse
use_reading d = object_of d >>= λ o. by_product (get (codes "product") o) o

-- a target: its name, where it has a text under that key, and its uses
abbrev pub target_reading : Data → Reading UsingTarget
target_reading d = object_of d >>= λ o.
    optional_field_of (items_of use_reading) (codes "dependencies") o >>= λ uses.
    Ok (record { name = option_and_then as_str (get (codes "name") o); uses = or_nothing uses })
