-- The members of an object. `null` counts as absent only where a member is optional.
use Rattle.std.specs.Prelude.{ℕ, List, Option, Some, None, Ok, Err}
use Rattle.serde_json.specs.Data.{Data, null, boolean, number, string, array, object}
use Rattle.serde_json.specs.Find.{get}
use Rattle.spm_version.specs.declared.kind.Kind.TheVariants.{Missing}
use Rattle.spm_json.specs.Reading.{Reading, fault_here, within}

-- an optional member's value, if it is there
abbrev pub unless_null : Data → Option Data
unless_null null = None
unless_null (boolean b) = Some (boolean b)
unless_null (number n) = Some (number n)
unless_null (string s) = Some (string s)
unless_null (array ds) = Some (array ds)
unless_null (object ms) = Some (object ms)

abbrev pub present : Option Data → Option Data
present (Some d) = unless_null d
present None = None

-- the member `key`, unless it is absent or null
abbrev pub optional_member : List ℕ → Data → Option Data
optional_member key d = present (get key d)

abbrev pub required_in : {A : Type 0} → (Data → Reading A) → Option Data → Reading A
required_in reading (Some d) = reading d
required_in reading None = fault_here Missing

-- the member `key`, read so. Where it is absent it is missing at its own place.
abbrev pub field_of : {A : Type 0} → (Data → Reading A) → List ℕ → Data → Reading A
field_of reading key d = within key (required_in reading (get key d))

abbrev pub some_reading : {A : Type 0} → Reading A → Reading (Option A)
some_reading (Ok x) = Ok (Some x)
some_reading (Err fault) = Err fault

abbrev pub optional_in : {A : Type 0} → (Data → Reading A) → Option Data → Reading (Option A)
optional_in reading (Some d) = some_reading (reading d)
optional_in reading None = Ok None

-- the optional member `key`, read so where it is there
abbrev pub optional_field_of : {A : Type 0} → (Data → Reading A) → List ℕ → Data → Reading (Option A)
optional_field_of reading key d = within key (optional_in reading (optional_member key d))

-- a member that is optional in the format and needed here: where it is absent or null it is missing
abbrev pub needed_field_of : {A : Type 0} → (Data → Reading A) → List ℕ → Data → Reading A
needed_field_of reading key d = within key (required_in reading (optional_member key d))
