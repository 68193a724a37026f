-- The data that a lock file's text is.
use Rattle.std.proofs.Common.{◌≡◌, ℕ, ◌≤◌, List, [], ◌∷◌, Some, option_map, option_and_then, refl, sym, ap, ◌∙◌, append-nil, arith}
use Rattle.std.specs.Prelude.{codes}
use Rattle.json.specs.Json as json
use Rattle.json.specs.Tree.{depth, items_depth, json_tokens}
use Rattle.json.proofs.Printed.Trees.{value-json_tokens}
use Rattle.serde_json.specs.Data.{Data, Items, item, member, no_items, no_members, number, object, array, put, string, unsigned}
use Rattle.serde_json.specs.Read.{max_depth, of_items, of_json, of_members, read}
use Rattle.serde_json.proofs.OnLiterals.{serde_json_on_literals}
use Rattle.spm_digest.specs.Digest.{encode_lower}
use Rattle.spm_version.specs.Release.{parts_text}
use Rattle.spm_resolved.specs.Reading.{Pin}
use Rattle.spm_resolved.specs.Resolved.{resolved_text}
use Rattle.spm_resolved.proofs.Tame.{IsTame}
use Rattle.spm_resolved.proofs.LockTokens.{AreTame, lock_json, pin_json, pins_json, tokens-resolved_text}

-- the data of a pin
abbrev pub pin_data : Pin → Data
pin_data pin = object (member (codes "identity") (string pin.0) (member (codes "kind") (string (codes "registry"))
    (member (codes "location") (string []) (member (codes "state")
    (object (member (codes "version") (string (parts_text pin.1)) no_members)) no_members))))

-- those of pins
abbrev pub pins_data : List Pin → Items
pins_data [] = no_items
pins_data (pin ∷ pins) = item (pin_data pin) (pins_data pins)

-- those of a file
abbrev pub lock_data : List ℕ → List Pin → Data
lock_data origin pins = object (member (codes "originHash") (string (encode_lower origin)) (member (codes "pins") (array (pins_data pins))
    (member (codes "version") (number (unsigned 3)) no_members)))

-- ---- from the grammar's value

-- the JSON of a pin is its data
of_json-pin_json : (pin : Pin) → of_json (pin_json pin) ≡ Some (pin_data pin)
of_json-pin_json pin = refl

-- so is that of pins
of_items-pins_json : (pins : List Pin) → of_items (pins_json pins) ≡ Some (pins_data pins)
of_items-pins_json [] = refl
of_items-pins_json (pin ∷ pins) =
    ap (λ read. option_and_then (λ d. option_map (item d) (of_items (pins_json pins))) read) (of_json-pin_json pin)
    ∙ ap (option_map (item (pin_data pin))) (of_items-pins_json pins)

-- the members behind the origin's
version-read : (origin : List ℕ) (items : Items)
    → of_members (json.member (codes "version") (json.number (codes "3")) json.no_members)
    (put (codes "pins") (array items) (member (codes "originHash") (string origin) no_members))
    ≡ Some (member (codes "originHash") (string origin) (member (codes "pins") (array items)
    (member (codes "version") (number (unsigned 3)) no_members)))
unfolding serde_json_on_literals
version-read origin items = refl

-- so is that of a file
of_json-lock_json : (origin : List ℕ) (pins : List Pin) → of_json (lock_json origin pins) ≡ Some (lock_data origin pins)
of_json-lock_json origin pins =
    ap (λ read. option_map object (option_and_then (λ d. of_members (json.member (codes "version") (json.number (codes "3")) json.no_members)
    (put (codes "pins") d (member (codes "originHash") (string (encode_lower origin)) no_members))) (option_map array read)))
    (of_items-pins_json pins)
    ∙ ap (option_map object) (version-read (encode_lower origin) (pins_data pins))

-- ---- from the tokens

-- pins nest two levels
items_depth-pins_json : (pins : List Pin) → items_depth (pins_json pins) ≤ 2
items_depth-pins_json [] = omega arith
items_depth-pins_json (pin ∷ pins) = let rest = items_depth-pins_json pins in omega arith

-- a file nests no deeper than a reader goes
depth-lock_json : (origin : List ℕ) (pins : List Pin) → depth (lock_json origin pins) ≤ max_depth
depth-lock_json origin pins = omega (arith, items_depth-pins_json pins)

-- a file's JSON is read as its data
value-lock_json : (origin : List ℕ) (pins : List Pin)
    → json.value max_depth (json_tokens (lock_json origin pins)) ≡ Some (lock_json origin pins, [])
value-lock_json origin pins =
    ap (json.value max_depth) (sym (append-nil (json_tokens (lock_json origin pins))))
    ∙ value-json_tokens (lock_json origin pins) max_depth [] (depth-lock_json origin pins)

-- a file's text is read as its data
pub read-resolved_text : (origin : List ℕ) (pins : List Pin) → IsTame (encode_lower origin) → AreTame pins
    → read (resolved_text origin pins) ≡ Some (lock_data origin pins)
read-resolved_text origin pins sum tame =
    ap (λ ts. option_and_then of_json (option_and_then (λ p. json.if_last p.0 p.1) (json.value max_depth ts)))
    (tokens-resolved_text origin pins sum tame)
    ∙ ap (λ found. option_and_then of_json (option_and_then (λ p. json.if_last p.0 p.1) found)) (value-lock_json origin pins)
    ∙ of_json-lock_json origin pins
