-- Reading a lock file of version 3: the origin's sum, and the pins on packages of the registry. A pin of another kind
-- is read over: it gives no preference.
use Rattle.std.specs.Str.{bytes_eq}
use Rattle.std.specs.Prelude.{◌≡◌, ℕ, ◌+◌, List, [], ◌∷◌, ◌++◌, Bool, codes, Option, Some, None, Ok, option_to_list, if◌then◌else◌}
use Rattle.std.specs.Cmp.Lexicographic.{slice_cmp}
use Rattle.std.specs.List.{list_any}
use Rattle.std.specs.Ordering.{nat_cmp}
use Rattle.std.specs.declared.cmp.Ordering.TheVariants.{Less}
use Rattle.serde_json.specs.Data.{Data}
use Rattle.spm_ident.specs.Identity.{IsIdentity}
use Rattle.spm_version.specs.Release.{IsValid, Parts}
use Rattle.spm_version.specs.declared.kind.Kind.TheVariants.{Doubled}
use Rattle.spm_json.specs.Field.{field_of, optional_field_of}
use Rattle.spm_json.specs.Reading.{Reading, at_index, fault_here, within, ◌>>=◌}
use Rattle.spm_json.specs.Shape.{list_of, object_of, text_of, whole_of}
use Rattle.spm_json.specs.Value.{identity_in, release_reading, version_field}
use Rattle.spm_resolved.specs.declared.reading.Resolved.{Resolved}

abbrev pub Pin : Type 0
Pin = List ℕ × Parts

-- the identity has a pin
abbrev pub has_pin : List Pin → List ℕ → Bool
has_pin pins identity = list_any (λ pin. bytes_eq pin.0 identity) pins

-- an identity without one of these names
abbrev pub new_identity : (List ℕ → Bool) → List ℕ → Reading (List ℕ)
new_identity is_doubled identity = if is_doubled identity then fault_here Doubled else Ok identity

-- a pin of the registry: its identity, which wasn't there before, and then its version
abbrev pub registry_pin : (List ℕ → Bool) → List ℕ → Data → Reading (Option Pin)
registry_pin is_doubled text state =
    within (codes "identity") (identity_in text >>= new_identity is_doubled) >>= λ identity.
    within (codes "state") (field_of release_reading (codes "version") state) >>= λ release.
    Ok (Some (identity, release))

-- a pin: its identity, kind and location are texts and its state is an object, whatever its kind
abbrev pub pin_reading : (List ℕ → Bool) → Data → Reading (Option Pin)
pin_reading is_doubled d = object_of d >>= λ o.
    field_of text_of (codes "identity") o >>= λ identity.
    field_of text_of (codes "kind") o >>= λ kind.
    field_of text_of (codes "location") o >>= λ location.
    field_of object_of (codes "state") o >>= λ state.
    if bytes_eq kind (codes "registry") then registry_pin is_doubled identity state else Ok None

-- the pins of the items from this place on, behind those before them
abbrev pub pins_from : ℕ → List Pin → List Data → Reading (List Pin)
pins_from place earlier [] = Ok earlier
pins_from place earlier (d ∷ ds) =
    at_index place (pin_reading (has_pin earlier) d) >>= λ pin. pins_from (place + 1) (earlier ++ option_to_list pin) ds

abbrev pub pins_reading : Data → Reading (List Pin)
pins_reading d = list_of d >>= λ ds. pins_from 0 [] ds

abbrev pub resolved_reading : Data → Reading Resolved
resolved_reading d = object_of d >>= λ o.
    version_field 3 o >>= λ _.
    optional_field_of text_of (codes "originHash") o >>= λ origin.
    field_of pins_reading (codes "pins") o >>= λ pins.
    Ok (record { origin = origin; pins = pins })

-- what the bytes of a lock file say, or the first fault in the reading order
abbrev pub resolved_of : List ℕ → Reading Resolved
resolved_of bytes = whole_of resolved_reading bytes

-- pins as they are written: identities of the grammar, strictly ascending, with versions of the grammar
abbrev pub ArePins : List Pin → Type 0
ArePins [] = Unit {0}
ArePins (pin ∷ []) = IsIdentity pin.0 × IsValid pin.1
ArePins (pin ∷ next ∷ pins) =
    IsIdentity pin.0 × IsValid pin.1 × (slice_cmp nat_cmp pin.0 next.0 ≡ Less) × ArePins (next ∷ pins)
