-- The traits that a manifest declares, and the conditions that name traits.
use Rattle.std.specs.Str.{bytes_eq}
use Rattle.std.specs.Prelude.{ℕ, List, [], ◌∷◌, ◌++◌, length, Bool, codes, Option, Some, None, Ok, if◌then◌else◌}
use Rattle.std.specs.List.{list_any}
use Rattle.serde_json.specs.Data.{Data}
use Rattle.spm_version.specs.declared.kind.Kind.TheVariants.{Doubled}
use Rattle.spm_json.specs.Field.{field_of, optional_field_of}
use Rattle.spm_json.specs.Reading.{Reading, at_index, fault_here, ◌>>=◌}
use Rattle.spm_json.specs.Sequence.{items_of}
use Rattle.spm_json.specs.Shape.{limited_list_of, object_of}
use Rattle.spm_json.specs.Value.{trait_reading}
use Rattle.spm_trait.specs.declared.traits.TraitEntry.{TraitEntry}
use Rattle.spm_manifest.specs.declared.traits.Condition.{Condition}
use Rattle.spm_manifest.specs.declared.traits.Declared.{Declared}

abbrev pub or_nothing : {A : Type 0} → Option (List A) → List A
or_nothing (Some items) = items
or_nothing None = []

-- a name that wasn't declared before
abbrev pub new_name : (List ℕ → Bool) → List ℕ → Reading (List ℕ)
new_name is_declared name = if is_declared name then fault_here Doubled else Ok name

abbrev pub new_trait_reading : (List ℕ → Bool) → Data → Reading (List ℕ)
new_trait_reading is_declared d = trait_reading d >>= new_name is_declared

-- `{"name":NAME,"enabledTraits":[NAME]}`
abbrev pub entry_reading : (List ℕ → Bool) → Data → Reading TraitEntry
entry_reading is_declared d = object_of d >>= λ o.
    field_of (new_trait_reading is_declared) (codes "name") o >>= λ name.
    optional_field_of (items_of trait_reading) (codes "enabledTraits") o >>= λ enables.
    Ok (record { name = name; enables = or_nothing enables })

-- an entry of this name
abbrev pub has_entry : List TraitEntry → List ℕ → Bool
has_entry entries name = list_any (λ entry. bytes_eq entry.name name) entries

-- the entries behind those before them
abbrev pub entries_after : List TraitEntry → List Data → Reading (List TraitEntry)
entries_after earlier [] = Ok earlier
entries_after earlier (d ∷ ds) =
    at_index (length earlier) (entry_reading (has_entry earlier) d) >>= λ entry. entries_after (earlier ++ entry ∷ []) ds

-- at most 300 traits, with distinct names
abbrev pub max_traits : ℕ
max_traits = 300

abbrev pub entries_reading : Data → Reading (List TraitEntry)
entries_reading d = limited_list_of max_traits d >>= λ ds. entries_after [] ds

abbrev pub declared_reading : Data → Reading Declared
declared_reading d = entries_reading d >>= λ entries. Ok (record { traits = record { entries = entries } })

-- the traits of a condition; none is no condition
abbrev pub condition_reading : Data → Reading Condition
condition_reading d = object_of d >>= λ o.
    optional_field_of (items_of trait_reading) (codes "traits") o >>= λ names. Ok (record { traits = or_nothing names })
