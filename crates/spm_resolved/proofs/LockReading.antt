-- What a lock file's data are read as.
use Rattle.std.specs.Str.{bytes_eq}
use Rattle.std.proofs.Common.{◌≡◌, ℕ, ◌+◌, Bool, false, List, [], ◌∷◌, ◌++◌, Some, Ok, option_to_list, if◌then◌else◌, refl, sym, ap, ◌∙◌, append_assoc, append-nil}
use Rattle.std.specs.Prelude.{codes}
use Rattle.std.specs.Cmp.Lexicographic.{nat_list_cmp_total, slice_cmp, texts_ties}
use Rattle.std.specs.Ordering.{is_eq, nat_cmp}
use Rattle.std.specs.Result.{result_ok}
use Rattle.std.specs.declared.cmp.Ordering.TheVariants.{Less}
use Rattle.std.proofs.lemmas.Bool.{or_from}
use Rattle.serde_json.specs.Data.{Data, member, no_members, object, string}
use Rattle.spm_ident.specs.Identity.{IsIdentity}
use Rattle.spm_version.proofs.ReleaseLemmas.{release_of-Spells}
use Rattle.spm_version.specs.Release.{IsValid, parts_text}
use Rattle.spm_version.specs.declared.kind.Kind.TheVariants.{BadIdentity, BadVersion, Doubled}
use Rattle.spm_json.specs.Field.{field_of}
use Rattle.spm_json.specs.Reading.{at_index, fault_here, or_fault, within, ◌>>=◌}
use Rattle.spm_json.specs.Shape.{item_list}
use Rattle.spm_json.specs.Value.{release_reading}
use Rattle.spm_digest.specs.Digest.{encode_lower}
use Rattle.spm_resolved.specs.Reading.{ArePins, Pin, has_pin, new_identity, pin_reading, pins_from, resolved_reading}
use Rattle.spm_resolved.proofs.LockData.{lock_data, pin_data, pins_data}

-- ---- identities that ascend

-- the pins' identities are below this one
abbrev AreBelow : List Pin → List ℕ → Type 0
AreBelow [] identity = Unit {0}
AreBelow (pin ∷ pins) identity = (slice_cmp nat_cmp pin.0 identity ≡ Less) × AreBelow pins identity

-- an identity above all pins has none
has_pin-below : (pins : List Pin) (identity : List ℕ) → AreBelow pins identity → has_pin pins identity ≡ false
has_pin-below [] identity below = refl
has_pin-below (pin ∷ pins) identity below =
    or_from (bytes_eq pin.0 identity) (has_pin pins identity) (texts_ties pin.0 identity ∙ ap is_eq below.0)
    (has_pin-below pins identity below.1)

-- the pins before the next one are below it
AreBelow-next : (pins : List Pin) (pin : Pin) (next : List ℕ) → AreBelow pins pin.0 → slice_cmp nat_cmp pin.0 next ≡ Less
    → AreBelow (pins ++ pin ∷ []) next
AreBelow-next [] pin next below step = (step, tt)
AreBelow-next (first ∷ pins) pin next below step =
    (nat_list_cmp_total.trans first.0 pin.0 next below.0 step, AreBelow-next pins pin next below.1 step)

-- ---- one pin

-- the data of a pin's state
abbrev state_data : Pin → Data
state_data pin = object (member (codes "version") (string (parts_text pin.1)) no_members)

-- a pin's data are read as the pin
pin_reading-pin_data : (has : List ℕ → Bool) (pin : Pin) → IsIdentity pin.0 → IsValid pin.1 → has pin.0 ≡ false
    → pin_reading has (pin_data pin) ≡ Ok (Some pin)
pin_reading-pin_data has pin identity valid new =
    ap (λ read. within (codes "identity") (or_fault BadIdentity (result_ok read) >>= new_identity has) >>= λ i.
    within (codes "state") (field_of release_reading (codes "version") (state_data pin)) >>= λ release. Ok (Some (i, release))) identity
    ∙ ap (λ (met : Bool). within (codes "identity") (if met then fault_here Doubled else Ok pin.0) >>= λ i.
    within (codes "state") (field_of release_reading (codes "version") (state_data pin)) >>= λ release. Ok (Some (i, release))) new
    ∙ ap (λ read. within (codes "state") (within (codes "version") (or_fault BadVersion read)) >>= λ release. Ok (Some (pin.0, release)))
    (release_of-Spells (parts_text pin.1) pin.1 (valid, refl))

-- the data of a pin before others
pins_from-one : (place : ℕ) (earlier : List Pin) (pin : Pin) (ds : List Data) → IsIdentity pin.0 → IsValid pin.1
    → AreBelow earlier pin.0 → pins_from place earlier (pin_data pin ∷ ds) ≡ pins_from (place + 1) (earlier ++ pin ∷ []) ds
pins_from-one place earlier pin ds identity valid below =
    ap (λ read. at_index place read >>= λ p. pins_from (place + 1) (earlier ++ option_to_list p) ds)
    (pin_reading-pin_data (has_pin earlier) pin identity valid (has_pin-below earlier pin.0 below))

-- ---- all pins

-- the pins so far are below the next one
abbrev AreBelowFirst : List Pin → List Pin → Type 0
AreBelowFirst earlier [] = Unit {0}
AreBelowFirst earlier (pin ∷ pins) = AreBelow earlier pin.0

-- pins' data are read as the pins
pins_from-pins_data : (place : ℕ) (earlier pins : List Pin) → ArePins pins → AreBelowFirst earlier pins
    → pins_from place earlier (item_list (pins_data pins)) ≡ Ok (earlier ++ pins)
pins_from-pins_data place earlier [] are below = ap Ok (sym (append-nil earlier))
pins_from-pins_data place earlier (pin ∷ []) are below = pins_from-one place earlier pin [] are.0 are.1 below
pins_from-pins_data place earlier (pin ∷ next ∷ pins) are below =
    pins_from-one place earlier pin (item_list (pins_data (next ∷ pins))) are.0 are.1 below
    ∙ pins_from-pins_data (place + 1) (earlier ++ pin ∷ []) (next ∷ pins) are.3 (AreBelow-next earlier pin next.0 below are.2)
    ∙ ap Ok (append_assoc earlier (pin ∷ []) (next ∷ pins))

-- a file's data are read as its origin and pins
pub resolved_reading-lock_data : (origin : List ℕ) (pins : List Pin) → ArePins pins
    → resolved_reading (lock_data origin pins) ≡ Ok (record { origin = Some (encode_lower origin); pins = pins })
resolved_reading-lock_data origin pins are =
    ap (λ read. within (codes "pins") read >>= λ found. Ok (record { origin = Some (encode_lower origin); pins = found }))
    (pins_from-pins_data 0 [] pins are (first pins))
  where
    first : (all : List Pin) → AreBelowFirst [] all
    first [] = tt
    first (pin ∷ others) = tt
