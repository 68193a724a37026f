-- The tokens of a lock file's text are those of its value.
use Rattle.std.proofs.Common.{◌≡◌, ℕ, List, [], ◌∷◌, ◌++◌, refl, ap, ap₂, ◌∙◌, append_assoc}
use Rattle.std.specs.Prelude.{codes}
use Rattle.json.specs.Token.{Token}
use Rattle.json.specs.Text.{content}
use Rattle.json.specs.Word.{after_number, word}
use Rattle.json.specs.Lex.{Lexeme, token, comma, colon, between, lex, fresh, after_value, after_comma, punctuate, string_token, tokens}
use Rattle.json.specs.Json.{Json, string, number, array, object, Items, no_items, item, no_members, member}
use Rattle.json.specs.Tree.{items_tokens, json_tokens}
use Rattle.spm_resolved.specs.Reading.{Pin}
use Rattle.spm_resolved.specs.Resolved.{more_pins_text, pin_text, pins_text, resolved_text}
use Rattle.spm_digest.specs.Digest.{encode_lower}
use Rattle.spm_version.specs.Release.{parts_text}
use Rattle.spm_resolved.proofs.Tame.{IsTame, content-tame, lex-tame}

-- ---- the value of a lock file

-- the JSON of a pin
abbrev pub pin_json : Pin → Json
pin_json pin = object (member (codes "identity") (string pin.0) (member (codes "kind") (string (codes "registry"))
    (member (codes "location") (string []) (member (codes "state")
    (object (member (codes "version") (string (parts_text pin.1)) no_members)) no_members))))

-- that of pins
abbrev pub pins_json : List Pin → Items
pins_json [] = no_items
pins_json (pin ∷ pins) = item (pin_json pin) (pins_json pins)

-- that of a file
abbrev pub lock_json : List ℕ → List Pin → Json
lock_json origin pins = object (member (codes "originHash") (string (encode_lower origin)) (member (codes "pins") (array (pins_json pins))
    (member (codes "version") (number (codes "3")) no_members)))

-- the texts in it stand for themselves
abbrev pub AreTame : List Pin → Type 0
AreTame [] = Unit {0}
AreTame (pin ∷ pins) = IsTame pin.0 × IsTame (parts_text pin.1) × AreTame pins

-- ---- the pieces of a pin, each up to the quote behind a text

-- the lexemes of an identity
lex-identity : (text rest : List ℕ) → IsTame text
    → lex between (codes "    {\n      \"identity\" : \"" ++ (text ++ 34 ∷ rest))
    ≡ token Token.begin_object ∷ token (Token.string (codes "identity")) ∷ colon ∷ token (Token.string text) ∷ lex between rest
unfolding lex content
lex-identity text rest tame =
    ap₂ (λ found more. token Token.begin_object ∷ token (Token.string (codes "identity")) ∷ colon ∷ token (string_token found) ∷ more)
    (content-tame text rest tame) (lex-tame text rest tame)

-- those of a version
lex-version : (text rest : List ℕ) → IsTame text
    → lex between (codes ",\n      \"kind\" : \"registry\",\n      \"location\" : \"\",\n      \"state\" : {\n        \"version\" : \"" ++ (text ++ 34 ∷ rest))
    ≡ comma ∷ token (Token.string (codes "kind")) ∷ colon ∷ token (Token.string (codes "registry")) ∷ comma
    ∷ token (Token.string (codes "location")) ∷ colon ∷ token (Token.string []) ∷ comma ∷ token (Token.string (codes "state")) ∷ colon
    ∷ token Token.begin_object ∷ token (Token.string (codes "version")) ∷ colon ∷ token (Token.string text) ∷ lex between rest
unfolding lex content
lex-version text rest tame =
    ap₂ (λ found more. comma ∷ token (Token.string (codes "kind")) ∷ colon ∷ token (Token.string (codes "registry")) ∷ comma
    ∷ token (Token.string (codes "location")) ∷ colon ∷ token (Token.string []) ∷ comma ∷ token (Token.string (codes "state")) ∷ colon
    ∷ token Token.begin_object ∷ token (Token.string (codes "version")) ∷ colon ∷ token (string_token found) ∷ more)
    (content-tame text rest tame) (lex-tame text rest tame)

-- those at the end of a pin
lex-pin_end : (rest : List ℕ)
    → lex between (codes "\n      }\n    }" ++ rest) ≡ token Token.end_object ∷ token Token.end_object ∷ lex between rest
unfolding lex
lex-pin_end rest = refl

-- ---- one pin

-- the lexemes of a pin
abbrev pin_lexemes : Pin → List Lexeme → List Lexeme
pin_lexemes pin rest =
    token Token.begin_object ∷ token (Token.string (codes "identity")) ∷ colon ∷ token (Token.string pin.0)
    ∷ comma ∷ token (Token.string (codes "kind")) ∷ colon ∷ token (Token.string (codes "registry")) ∷ comma
    ∷ token (Token.string (codes "location")) ∷ colon ∷ token (Token.string []) ∷ comma ∷ token (Token.string (codes "state")) ∷ colon
    ∷ token Token.begin_object ∷ token (Token.string (codes "version")) ∷ colon ∷ token (Token.string (parts_text pin.1))
    ∷ token Token.end_object ∷ token Token.end_object ∷ rest

-- five pieces before the rest
regroup : (a b c d e rest : List ℕ) → (a ++ (b ++ (c ++ (d ++ e)))) ++ rest ≡ a ++ (b ++ (c ++ (d ++ (e ++ rest))))
regroup a b c d e rest = simp append_assoc

-- the lexemes of a pin
lex-pin : (pin : Pin) (rest : List ℕ) → IsTame pin.0 → IsTame (parts_text pin.1)
    → lex between (pin_text pin ++ rest) ≡ pin_lexemes pin (lex between rest)
lex-pin pin rest identity version =
    ap (lex between) (regroup (codes "    {\n      \"identity\" : \"") pin.0
    (codes "\",\n      \"kind\" : \"registry\",\n      \"location\" : \"\",\n      \"state\" : {\n        \"version\" : \"")
    (parts_text pin.1) (codes "\"\n      }\n    }") rest)
    ∙ lex-identity pin.0 _ identity
    ∙ ap (λ more. token Token.begin_object ∷ token (Token.string (codes "identity")) ∷ colon ∷ token (Token.string pin.0) ∷ more)
    (lex-version (parts_text pin.1) (codes "\n      }\n    }" ++ rest) version)
    ∙ ap (λ more. token Token.begin_object ∷ token (Token.string (codes "identity")) ∷ colon ∷ token (Token.string pin.0)
    ∷ comma ∷ token (Token.string (codes "kind")) ∷ colon ∷ token (Token.string (codes "registry")) ∷ comma
    ∷ token (Token.string (codes "location")) ∷ colon ∷ token (Token.string []) ∷ comma ∷ token (Token.string (codes "state")) ∷ colon
    ∷ token Token.begin_object ∷ token (Token.string (codes "version")) ∷ colon ∷ token (Token.string (parts_text pin.1)) ∷ more)
    (lex-pin_end rest)

-- a pin stands behind an opening bracket, or behind a comma
punctuate-pin_lexemes : (pin : Pin) (rest : List Lexeme)
    → (punctuate fresh (pin_lexemes pin rest) ≡ json_tokens (pin_json pin) ++ punctuate after_value rest)
    × (punctuate after_comma (pin_lexemes pin rest) ≡ json_tokens (pin_json pin) ++ punctuate after_value rest)
unfolding punctuate
punctuate-pin_lexemes pin rest = (refl, refl)

-- ---- the list of pins, in front of what closes it

-- those of a comma
comma-lexed : (text rest : List ℕ)
    → punctuate after_value (lex between ((codes ",\n" ++ text) ++ rest)) ≡ punctuate after_comma (lex between (text ++ rest))
unfolding lex punctuate
comma-lexed text rest = refl

-- the tokens of the pins behind the first
tokens-more_pins_text : (pins : List Pin) (rest : List ℕ) (after : List Token) → AreTame pins
    → punctuate after_value (lex between rest) ≡ Token.end_array ∷ after
    → punctuate after_value (lex between (more_pins_text pins ++ rest)) ≡ items_tokens (pins_json pins) ++ after
tokens-more_pins_text [] rest after tame closed = closed
tokens-more_pins_text (pin ∷ pins) rest after tame closed =
    comma-lexed (pin_text pin ++ more_pins_text pins) rest
    ∙ ap (λ text. punctuate after_comma (lex between text)) (append_assoc (pin_text pin) (more_pins_text pins) rest)
    ∙ ap (punctuate after_comma) (lex-pin pin (more_pins_text pins ++ rest) tame.0 tame.1)
    ∙ (punctuate-pin_lexemes pin (lex between (more_pins_text pins ++ rest))).1
    ∙ ap (λ more. json_tokens (pin_json pin) ++ more) (tokens-more_pins_text pins rest after tame.2 closed)

-- those of all pins
tokens-pins_text : (pins : List Pin) (rest : List ℕ) (after : List Token) → AreTame pins
    → punctuate fresh (lex between rest) ≡ Token.end_array ∷ after
    → punctuate after_value (lex between rest) ≡ Token.end_array ∷ after
    → punctuate fresh (lex between (pins_text pins ++ rest)) ≡ items_tokens (pins_json pins) ++ after
tokens-pins_text [] rest after tame empty closed = empty
tokens-pins_text (pin ∷ pins) rest after tame empty closed =
    ap (λ text. punctuate fresh (lex between text)) (append_assoc (pin_text pin) (more_pins_text pins) rest)
    ∙ ap (punctuate fresh) (lex-pin pin (more_pins_text pins ++ rest) tame.0 tame.1)
    ∙ (punctuate-pin_lexemes pin (lex between (more_pins_text pins ++ rest))).0
    ∙ ap (λ more. json_tokens (pin_json pin) ++ more) (tokens-more_pins_text pins rest after tame.2 closed)

-- ---- the whole file

-- the end of a lock file
abbrev closing : List ℕ
closing = codes "\n  ],\n  \"version\" : 3\n}\n"

-- and its tokens
abbrev closing_tokens : List Token
closing_tokens = Token.key (codes "version") ∷ Token.number (codes "3") ∷ Token.end_object ∷ []

-- those at the end of a file
tokens-closing : (punctuate fresh (lex between closing) ≡ Token.end_array ∷ closing_tokens)
    × (punctuate after_value (lex between closing) ≡ Token.end_array ∷ closing_tokens)
unfolding lex content word after_number punctuate
tokens-closing = (refl, refl)

-- the lexemes of an origin
lex-origin : (text rest : List ℕ) → IsTame text
    → lex between (codes "{\n  \"originHash\" : \"" ++ (text ++ 34 ∷ rest))
    ≡ token Token.begin_object ∷ token (Token.string (codes "originHash")) ∷ colon ∷ token (Token.string text) ∷ lex between rest
unfolding lex content
lex-origin text rest tame =
    ap₂ (λ found more. token Token.begin_object ∷ token (Token.string (codes "originHash")) ∷ colon ∷ token (string_token found) ∷ more)
    (content-tame text rest tame) (lex-tame text rest tame)

-- the tokens at the start of a file
tokens-opening : (text rest : List ℕ)
    → punctuate fresh (token Token.begin_object ∷ token (Token.string (codes "originHash")) ∷ colon ∷ token (Token.string text)
    ∷ lex between (codes ",\n  \"pins\" : [\n" ++ rest))
    ≡ Token.begin_object ∷ Token.key (codes "originHash") ∷ Token.string text ∷ Token.key (codes "pins") ∷ Token.begin_array
    ∷ punctuate fresh (lex between rest)
unfolding lex content punctuate
tokens-opening text rest = refl

-- those of a file
pub tokens-resolved_text : (origin : List ℕ) (pins : List Pin) → IsTame (encode_lower origin) → AreTame pins
    → tokens (resolved_text origin pins) ≡ json_tokens (lock_json origin pins)
tokens-resolved_text origin pins sum tame =
    ap (punctuate fresh) (lex-origin (encode_lower origin) (codes ",\n  \"pins\" : [\n" ++ (pins_text pins ++ closing)) sum)
    ∙ tokens-opening (encode_lower origin) (pins_text pins ++ closing)
    ∙ ap (λ more. Token.begin_object ∷ Token.key (codes "originHash") ∷ Token.string (encode_lower origin) ∷ Token.key (codes "pins")
    ∷ Token.begin_array ∷ more)
    (tokens-pins_text pins closing closing_tokens tame tokens-closing.0 tokens-closing.1)
