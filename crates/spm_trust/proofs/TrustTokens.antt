-- The tokens of a fingerprint file's text are those of its value.
use Rattle.std.proofs.Common.{◌≡◌, ℕ, Bool, false, List, [], ◌∷◌, ◌++◌, refl, sym, ap, ap₂, ◌∙◌, append_assoc}
use Rattle.std.specs.Prelude.{codes}
use Rattle.json.specs.Token.{Token}
use Rattle.json.specs.Text.{content}
use Rattle.json.specs.Word.{after_number, word}
use Rattle.json.specs.Lex.{Lexeme, token, colon, between, lex, fresh, after_value, after_comma, begins_colon, place_token, punctuate, string_token, tokens}
use Rattle.json.specs.Json.{Json, string, number, object, Members, no_members, member}
use Rattle.json.specs.Tree.{json_tokens, members_tokens}
use Rattle.spm_digest.specs.Digest.{encode_lower}
use Rattle.spm_version.specs.Release.{parts_text}
use Rattle.spm_resolved.proofs.Tame.{IsTame, content-tame, lex-tame}
use Rattle.spm_trust.specs.TrustText.{behind_commas, between_commas, package_text, sum_text, trust_text}
use Rattle.spm_trust.specs.declared.file.KeptPackage.{KeptPackage}
use Rattle.spm_trust.specs.declared.file.KeptSum.{KeptSum}

-- ---- the value of a fingerprint file

-- members with these keys and values
abbrev pub json_by : {X : Type 0} → (X → List ℕ) → (X → Json) → List X → Members
json_by key value [] = no_members
json_by key value (x ∷ xs) = member (key x) (value x) (json_by key value xs)

-- a version's text
abbrev pub version_text : KeptSum → List ℕ
version_text kept = parts_text kept.release

-- the JSON of a sum
abbrev pub sum_json : KeptSum → Json
sum_json kept = string (encode_lower kept.sum)

-- that of the sums of a package
abbrev pub sums_json : List KeptSum → Members
sums_json sums = json_by version_text sum_json sums

-- a package's text
abbrev pub identity_text : KeptPackage → List ℕ
identity_text entry = entry.identity

-- the JSON of a package
abbrev pub package_json : KeptPackage → Json
package_json entry = object (sums_json entry.sums)

-- that of packages
abbrev pub packages_json : List KeptPackage → Members
packages_json packages = json_by identity_text package_json packages

-- that of a file
abbrev pub trust_json : List KeptPackage → Json
trust_json packages = object (member (codes "fingerprints") (object (packages_json packages))
    (member (codes "version") (number (codes "1")) no_members))

-- the texts of the sums stand for themselves
abbrev pub AreTameSums : List KeptSum → Type 0
AreTameSums [] = Unit {0}
AreTameSums (kept ∷ sums) = IsTame (parts_text kept.release) × IsTame (encode_lower kept.sum) × AreTameSums sums

-- so do those of packages
abbrev pub AreTame : List KeptPackage → Type 0
AreTame [] = Unit {0}
AreTame (entry ∷ entries) = IsTame entry.identity × AreTameSums entry.sums × AreTame entries

-- ---- the pieces

-- a text between quotes
lex-quoted : (text rest : List ℕ) → IsTame text → lex between (34 ∷ (text ++ 34 ∷ rest)) ≡ token (Token.string text) ∷ lex between rest
unfolding lex content
lex-quoted text rest tame = ap₂ (λ found more. token (string_token found) ∷ more) (content-tame text rest tame) (lex-tame text rest tame)

-- a colon
lex-colon : (rest : List ℕ) → lex between (58 ∷ rest) ≡ colon ∷ lex between rest
unfolding lex
lex-colon rest = refl

-- a colon and an opening brace
lex-opening : (rest : List ℕ) → lex between (58 ∷ 123 ∷ rest) ≡ colon ∷ token Token.begin_object ∷ lex between rest
unfolding lex
lex-opening rest = refl

-- five pieces before the rest
regroup : (a b c d e rest : List ℕ) → (a ++ (b ++ (c ++ (d ++ e)))) ++ rest ≡ a ++ (b ++ (c ++ (d ++ (e ++ rest))))
regroup a b c d e rest = simp append_assoc

-- a comma before a piece
comma-lexed : (text rest : List ℕ)
    → punctuate after_value (lex between ((codes "," ++ text) ++ rest)) ≡ punctuate after_comma (lex between (text ++ rest))
unfolding lex punctuate
comma-lexed text rest = refl

-- a closing brace, behind an opening one or behind a value
close-lexed : (rest : List ℕ)
    → (punctuate fresh (lex between (125 ∷ rest)) ≡ Token.end_object ∷ punctuate after_value (lex between rest))
    × (punctuate after_value (lex between (125 ∷ rest)) ≡ Token.end_object ∷ punctuate after_value (lex between rest))
unfolding lex punctuate
close-lexed rest = (refl, refl)

-- ---- the sums of a package, with the brace that closes them

-- the lexemes of a sum
lex-sum : (kept : KeptSum) (rest : List ℕ) → IsTame (parts_text kept.release) → IsTame (encode_lower kept.sum)
    → lex between (sum_text kept ++ rest)
    ≡ token (Token.string (parts_text kept.release)) ∷ colon ∷ token (Token.string (encode_lower kept.sum)) ∷ lex between rest
lex-sum kept rest version hex =
    ap (lex between) (regroup (codes "\"") (parts_text kept.release) (codes "\":\"") (encode_lower kept.sum) (codes "\"") rest)
    ∙ lex-quoted (parts_text kept.release) (58 ∷ 34 ∷ (encode_lower kept.sum ++ 34 ∷ rest)) version
    ∙ ap (λ more. token (Token.string (parts_text kept.release)) ∷ more)
    (lex-colon (34 ∷ (encode_lower kept.sum ++ 34 ∷ rest)) ∙ ap (λ more. colon ∷ more) (lex-quoted (encode_lower kept.sum) rest hex))

-- a sum stands behind an opening brace, or behind a comma
punctuate-sum : (version hex : List ℕ) (rest : List Lexeme) → begins_colon rest ≡ false
    → (punctuate fresh (token (Token.string version) ∷ colon ∷ token (Token.string hex) ∷ rest) ≡ Token.key version ∷ Token.string hex ∷ punctuate after_value rest)
    × (punctuate after_comma (token (Token.string version) ∷ colon ∷ token (Token.string hex) ∷ rest) ≡ Token.key version ∷ Token.string hex ∷ punctuate after_value rest)
unfolding punctuate
punctuate-sum version hex rest none =
    let value = ap (λ (before_colon : Bool). Token.key version ∷ place_token fresh (Token.string hex) before_colon (λ next. punctuate next rest)) none in
    (value, value)

-- no colon stands behind a sum
no_colon : (sums : List KeptSum) (rest : List ℕ) → begins_colon (lex between (behind_commas sum_text sums ++ 125 ∷ rest)) ≡ false
unfolding lex
no_colon [] rest = refl
no_colon (kept ∷ sums) rest = refl

-- the tokens of the sums behind the first
tokens-more_sums : (sums : List KeptSum) (rest : List ℕ) → AreTameSums sums
    → punctuate after_value (lex between (behind_commas sum_text sums ++ 125 ∷ rest)) ≡ members_tokens (sums_json sums) ++ punctuate after_value (lex between rest)
tokens-more_sums [] rest tame = (close-lexed rest).1
tokens-more_sums (kept ∷ sums) rest tame =
    comma-lexed (sum_text kept ++ behind_commas sum_text sums) (125 ∷ rest)
    ∙ ap (λ text. punctuate after_comma (lex between text)) (append_assoc (sum_text kept) (behind_commas sum_text sums) (125 ∷ rest))
    ∙ ap (punctuate after_comma) (lex-sum kept (behind_commas sum_text sums ++ 125 ∷ rest) tame.0 tame.1)
    ∙ (punctuate-sum (parts_text kept.release) (encode_lower kept.sum) (lex between (behind_commas sum_text sums ++ 125 ∷ rest)) (no_colon sums rest)).1
    ∙ ap (λ more. Token.key (parts_text kept.release) ∷ Token.string (encode_lower kept.sum) ∷ more) (tokens-more_sums sums rest tame.2)

-- those of all sums
tokens-sums : (sums : List KeptSum) (rest : List ℕ) → AreTameSums sums
    → punctuate fresh (lex between (between_commas sum_text sums ++ 125 ∷ rest)) ≡ members_tokens (sums_json sums) ++ punctuate after_value (lex between rest)
tokens-sums [] rest tame = (close-lexed rest).0
tokens-sums (kept ∷ sums) rest tame =
    ap (λ text. punctuate fresh (lex between text)) (append_assoc (sum_text kept) (behind_commas sum_text sums) (125 ∷ rest))
    ∙ ap (punctuate fresh) (lex-sum kept (behind_commas sum_text sums ++ 125 ∷ rest) tame.0 tame.1)
    ∙ (punctuate-sum (parts_text kept.release) (encode_lower kept.sum) (lex between (behind_commas sum_text sums ++ 125 ∷ rest)) (no_colon sums rest)).0
    ∙ ap (λ more. Token.key (parts_text kept.release) ∷ Token.string (encode_lower kept.sum) ∷ more) (tokens-more_sums sums rest tame.2)

-- ---- the packages, with the brace that closes them

-- the lexemes of a package
lex-package : (entry : KeptPackage) (rest : List ℕ) → IsTame entry.identity
    → lex between (package_text entry ++ rest)
    ≡ token (Token.string entry.identity) ∷ colon ∷ token Token.begin_object ∷ lex between (between_commas sum_text entry.sums ++ 125 ∷ rest)
lex-package entry rest tame =
    ap (lex between) (regroup (codes "\"") entry.identity (codes "\":{") (between_commas sum_text entry.sums) (codes "}") rest)
    ∙ lex-quoted entry.identity (58 ∷ 123 ∷ (between_commas sum_text entry.sums ++ 125 ∷ rest)) tame
    ∙ ap (λ more. token (Token.string entry.identity) ∷ more) (lex-opening (between_commas sum_text entry.sums ++ 125 ∷ rest))

-- a package stands behind an opening brace, or behind a comma
punctuate-package : (identity : List ℕ) (rest : List Lexeme)
    → (punctuate fresh (token (Token.string identity) ∷ colon ∷ token Token.begin_object ∷ rest) ≡ Token.key identity ∷ Token.begin_object ∷ punctuate fresh rest)
    × (punctuate after_comma (token (Token.string identity) ∷ colon ∷ token Token.begin_object ∷ rest) ≡ Token.key identity ∷ Token.begin_object ∷ punctuate fresh rest)
unfolding punctuate
punctuate-package identity rest = (refl, refl)

-- the tokens of the packages behind the first
tokens-more_packages : (entries : List KeptPackage) (rest : List ℕ) → AreTame entries
    → punctuate after_value (lex between (behind_commas package_text entries ++ 125 ∷ rest)) ≡ members_tokens (packages_json entries) ++ punctuate after_value (lex between rest)
tokens-more_packages [] rest tame = (close-lexed rest).1
tokens-more_packages (entry ∷ entries) rest tame =
    let later = behind_commas package_text entries ++ 125 ∷ rest in
    comma-lexed (package_text entry ++ behind_commas package_text entries) (125 ∷ rest)
    ∙ ap (λ text. punctuate after_comma (lex between text)) (append_assoc (package_text entry) (behind_commas package_text entries) (125 ∷ rest))
    ∙ ap (punctuate after_comma) (lex-package entry later tame.0)
    ∙ (punctuate-package entry.identity (lex between (between_commas sum_text entry.sums ++ 125 ∷ later))).1
    ∙ ap (λ more. Token.key entry.identity ∷ Token.begin_object ∷ more)
    (tokens-sums entry.sums later tame.1 ∙ ap (λ more. members_tokens (sums_json entry.sums) ++ more) (tokens-more_packages entries rest tame.2)
    ∙ sym (append_assoc (members_tokens (sums_json entry.sums)) (members_tokens (packages_json entries)) (punctuate after_value (lex between rest))))

-- those of all packages
tokens-packages : (entries : List KeptPackage) (rest : List ℕ) → AreTame entries
    → punctuate fresh (lex between (between_commas package_text entries ++ 125 ∷ rest)) ≡ members_tokens (packages_json entries) ++ punctuate after_value (lex between rest)
tokens-packages [] rest tame = (close-lexed rest).0
tokens-packages (entry ∷ entries) rest tame =
    let later = behind_commas package_text entries ++ 125 ∷ rest in
    ap (λ text. punctuate fresh (lex between text)) (append_assoc (package_text entry) (behind_commas package_text entries) (125 ∷ rest))
    ∙ ap (punctuate fresh) (lex-package entry later tame.0)
    ∙ (punctuate-package entry.identity (lex between (between_commas sum_text entry.sums ++ 125 ∷ later))).0
    ∙ ap (λ more. Token.key entry.identity ∷ Token.begin_object ∷ more)
    (tokens-sums entry.sums later tame.1 ∙ ap (λ more. members_tokens (sums_json entry.sums) ++ more) (tokens-more_packages entries rest tame.2)
    ∙ sym (append_assoc (members_tokens (sums_json entry.sums)) (members_tokens (packages_json entries)) (punctuate after_value (lex between rest))))

-- ---- the whole file

-- the tokens at the start of a file
tokens-start : (rest : List ℕ) → tokens (codes "{\"fingerprints\":{" ++ rest)
    ≡ Token.begin_object ∷ Token.key (codes "fingerprints") ∷ Token.begin_object ∷ punctuate fresh (lex between rest)
unfolding lex content punctuate
tokens-start rest = refl

-- those at its end
tokens-end : punctuate after_value (lex between (codes ",\"version\":1}\n")) ≡ Token.key (codes "version") ∷ Token.number (codes "1") ∷ Token.end_object ∷ []
unfolding lex content word after_number punctuate
tokens-end = refl

-- those of a file
pub tokens-trust_text : (packages : List KeptPackage) → AreTame packages → tokens (trust_text packages) ≡ json_tokens (trust_json packages)
tokens-trust_text packages tame =
    tokens-start (between_commas package_text packages ++ codes "},\"version\":1}\n")
    ∙ ap (λ more. Token.begin_object ∷ Token.key (codes "fingerprints") ∷ Token.begin_object ∷ more)
    (tokens-packages packages (codes ",\"version\":1}\n") tame ∙ ap (λ more. members_tokens (packages_json packages) ++ more) tokens-end)
