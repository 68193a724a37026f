-- The text of a Package.resolved of version 3 (as SwiftPM writes it): the sum of the manifest's bytes, and
-- the pins in the order of their identities.
use Rattle.std.specs.Prelude.{ℕ, List, [], ◌∷◌, ◌++◌, codes}
use Rattle.spm_version.specs.Release.{Parts, parts_text}
use Rattle.spm_digest.specs.Digest.{encode_lower}

-- the lines of one pin
abbrev pub pin_text : List ℕ × Parts → List ℕ
pin_text pin = codes "    {\n      \"identity\" : \"" ++ (pin.0 ++ (codes "\",\n      \"kind\" : \"registry\",\n      \"location\" : \"\",\n      \"state\" : {\n        \"version\" : \""
    ++ (parts_text pin.1 ++ codes "\"\n      }\n    }")))

-- the pins behind the first, each with the comma before it
abbrev pub more_pins_text : List (List ℕ × Parts) → List ℕ
more_pins_text [] = []
more_pins_text (pin ∷ pins) = codes ",\n" ++ (pin_text pin ++ more_pins_text pins)

-- the pins; an empty list has an empty line
abbrev pub pins_text : List (List ℕ × Parts) → List ℕ
pins_text [] = []
pins_text (pin ∷ pins) = pin_text pin ++ more_pins_text pins

-- the whole file, with one line feed at its end
abbrev pub resolved_text : List ℕ → List (List ℕ × Parts) → List ℕ
resolved_text origin pins = codes "{\n  \"originHash\" : \"" ++ (encode_lower origin ++ (codes "\",\n  \"pins\" : [\n"
    ++ (pins_text pins ++ codes "\n  ],\n  \"version\" : 3\n}\n")))
