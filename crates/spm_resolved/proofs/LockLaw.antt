-- What is written as a lock file is read back.
use Rattle.std.proofs.Common.{◌≡◌, ℕ, nat_lt, Bool, true, List, [], ◌∷◌, ◌++◌, Some, Ok, if◌then◌else◌, refl, ap, ◌∙◌}
use Rattle.std.specs.Prelude.{codes}
use Rattle.std.specs.List.{list_all}
use Rattle.std.specs.Str.{IsAscii}
use Rattle.std.proofs.lemmas.Bool.{and_parts, ltb-true}
use Rattle.std.proofs.lemmas.Str.{IsAscii-append, IsUtf8-from_ascii, is_utf8-from_IsUtf8}
use Rattle.std.proofs.lemmas.Str.Ascii.{IsAscii-cons, IsAscii-nil}
use Rattle.serde_json.specs.Read.{read}
use Rattle.spm_digest.specs.Digest.{IsBytes, encode_lower}
use Rattle.spm_version.specs.Release.{parts_text}
use Rattle.spm_version.specs.declared.kind.Kind.TheVariants.{NotJson}
use Rattle.spm_json.specs.Reading.{fault_here, in_document, or_fault, ◌>>=◌}
use Rattle.spm_resolved.specs.Reading.{ArePins, Pin, resolved_of, resolved_reading}
use Rattle.spm_resolved.specs.Resolved.{more_pins_text, pin_text, pins_text, resolved_text}
use Rattle.spm_resolved.proofs.Tame.{IsAscii-from_tame, IsTame}
use Rattle.spm_resolved.proofs.TameParts.{IsTame-hex, IsTame-identity, IsTame-version}
use Rattle.spm_resolved.proofs.LockTokens.{AreTame}
use Rattle.spm_resolved.proofs.LockData.{read-resolved_text}
use Rattle.spm_resolved.proofs.LockReading.{resolved_reading-lock_data}

-- pins of the grammar are tame
AreTame-from_pins : (pins : List Pin) → ArePins pins → AreTame pins
AreTame-from_pins [] are = tt
AreTame-from_pins (pin ∷ []) are = (IsTame-identity pin.0 are.0, IsTame-version pin.1 are.1, tt)
AreTame-from_pins (pin ∷ next ∷ pins) are =
    (IsTame-identity pin.0 are.0, IsTame-version pin.1 are.1, AreTame-from_pins (next ∷ pins) are.3)

-- ---- the text is ASCII

-- bytes below 128 are ASCII
IsAscii-from_test : (text : List ℕ) → list_all (λ byte. nat_lt byte 128) text ≡ true → IsAscii text
IsAscii-from_test [] h = IsAscii-nil
IsAscii-from_test (byte ∷ text) h =
    let both = and_parts (nat_lt byte 128) (list_all (λ b. nat_lt b 128) text) h in
    IsAscii-cons byte text (ltb-true byte 128 both.0) (IsAscii-from_test text both.1)

-- a pin's lines are ASCII
IsAscii-pin_text : (pin : Pin) → IsTame pin.0 → IsTame (parts_text pin.1) → IsAscii (pin_text pin)
IsAscii-pin_text pin identity version =
    IsAscii-append (codes "    {\n      \"identity\" : \"") _ (IsAscii-from_test (codes "    {\n      \"identity\" : \"") refl)
    (IsAscii-append pin.0 _ (IsAscii-from_tame pin.0 identity)
    (IsAscii-append (codes "\",\n      \"kind\" : \"registry\",\n      \"location\" : \"\",\n      \"state\" : {\n        \"version\" : \"") _
    (IsAscii-from_test (codes "\",\n      \"kind\" : \"registry\",\n      \"location\" : \"\",\n      \"state\" : {\n        \"version\" : \"") refl)
    (IsAscii-append (parts_text pin.1) _ (IsAscii-from_tame (parts_text pin.1) version)
    (IsAscii-from_test (codes "\"\n      }\n    }") refl))))

-- so are those of the pins behind the first
IsAscii-more_pins_text : (pins : List Pin) → AreTame pins → IsAscii (more_pins_text pins)
IsAscii-more_pins_text [] tame = IsAscii-nil
IsAscii-more_pins_text (pin ∷ pins) tame =
    IsAscii-append (codes ",\n") (pin_text pin ++ more_pins_text pins) (IsAscii-from_test (codes ",\n") refl)
    (IsAscii-append (pin_text pin) (more_pins_text pins) (IsAscii-pin_text pin tame.0 tame.1) (IsAscii-more_pins_text pins tame.2))

-- so are those of all pins
IsAscii-pins_text : (pins : List Pin) → AreTame pins → IsAscii (pins_text pins)
IsAscii-pins_text [] tame = IsAscii-nil
IsAscii-pins_text (pin ∷ pins) tame =
    IsAscii-append (pin_text pin) _ (IsAscii-pin_text pin tame.0 tame.1) (IsAscii-more_pins_text pins tame.2)

-- so is a file
IsAscii-resolved_text : (origin : List ℕ) (pins : List Pin) → IsTame (encode_lower origin) → AreTame pins
    → IsAscii (resolved_text origin pins)
IsAscii-resolved_text origin pins sum tame =
    IsAscii-append (codes "{\n  \"originHash\" : \"") _ (IsAscii-from_test (codes "{\n  \"originHash\" : \"") refl)
    (IsAscii-append (encode_lower origin) _ (IsAscii-from_tame (encode_lower origin) sum)
    (IsAscii-append (codes "\",\n  \"pins\" : [\n") _ (IsAscii-from_test (codes "\",\n  \"pins\" : [\n") refl)
    (IsAscii-append (pins_text pins) _ (IsAscii-pins_text pins tame)
    (IsAscii-from_test (codes "\n  ],\n  \"version\" : 3\n}\n") refl))))

-- ---- the law

-- what is written is read back
pub resolved_of-resolved_text : (origin : List ℕ) (pins : List Pin) → IsBytes origin → ArePins pins
    → resolved_of (resolved_text origin pins) ≡ Ok (record { origin = Some (encode_lower origin); pins = pins })
resolved_of-resolved_text origin pins bytes are =
    let sum = IsTame-hex origin bytes in
    let tame = AreTame-from_pins pins are in
    let text = resolved_text origin pins in
    let utf8 = is_utf8-from_IsUtf8 text (IsUtf8-from_ascii text (IsAscii-resolved_text origin pins sum tame)) in
    ap (λ (passes : Bool). in_document ((if passes then or_fault NotJson (read text) else fault_here NotJson) >>= resolved_reading)) utf8
    ∙ ap (λ found. in_document (or_fault NotJson found >>= resolved_reading)) (read-resolved_text origin pins sum tame)
    ∙ ap in_document (resolved_reading-lock_data origin pins are)
