-- The lower case of an identity's text is an identity's text.
use Rattle.std.proofs.Common.{◌≡◌, ℕ, ◌+◌, Bool, true, not, ◌&&◌, List, [], ◌∷◌, length, take, drop, map, nat_le, Result, Ok, Err, if◌then◌else◌, refl, ap, ◌∙◌, arith}
use Rattle.std.specs.Char.{is_ascii_alphanumeric, to_ascii_lowercase}
use Rattle.std.specs.List.{list_any, position_or_len, before_first, after_first, take-map, drop-map}
use Rattle.std.specs.Str.{str_to_ascii_lowercase}
use Rattle.std.proofs.lemmas.Bool.Decides.{nat_tests}
use Rattle.std.proofs.lemmas.List.{length-map}
use Rattle.std.proofs.lemmas.Str.Ascii.{lowercase-lowercase}
use Rattle.spm_ident.specs.Identity.{is_dot, is_hyphen, is_hyphen_or_underscore, is_joined, is_scope, is_name, scope_of, name_of, IsIdentity}
use Rattle.spm_ident.specs.declared.identity.IdentFault.{IdentFault}
use Rattle.spm_ident.specs.declared.identity.IdentFault.TheVariants.{Dot, Scope, Name}
use Rattle.spm_ident.proofs.Scan.{is_joined-map}

-- what the tests of one byte answer in lower case
is_dot-lowercase : (b : ℕ) → is_dot (to_ascii_lowercase b) ≡ is_dot b
is_dot-lowercase b = grind (arith, nat_tests)

-- lower case keeps hyphens
is_hyphen-lowercase : (b : ℕ) → is_hyphen (to_ascii_lowercase b) ≡ is_hyphen b
is_hyphen-lowercase b = grind (arith, nat_tests)

-- it keeps hyphens and underscores
is_hyphen_or_underscore-lowercase : (b : ℕ) → is_hyphen_or_underscore (to_ascii_lowercase b) ≡ is_hyphen_or_underscore b
is_hyphen_or_underscore-lowercase b = grind (arith, nat_tests)

-- it keeps letters and digits
is_ascii_alphanumeric-lowercase : (b : ℕ) → is_ascii_alphanumeric (to_ascii_lowercase b) ≡ is_ascii_alphanumeric b
is_ascii_alphanumeric-lowercase b = grind (arith, nat_tests)

-- the first place that passes, and whether there is one
position_or_len-map : (p : ℕ → Bool) (f : ℕ → ℕ) → ((b : ℕ) → p (f b) ≡ p b) → (text : List ℕ) → position_or_len p (map f text) ≡ position_or_len p text
position_or_len-map p f same [] = refl
position_or_len-map p f same (b ∷ bs) = rw (same b, position_or_len-map p f same bs)

-- a map that keeps the test keeps whether some byte passes
list_any-map : (p : ℕ → Bool) (f : ℕ → ℕ) → ((b : ℕ) → p (f b) ≡ p b) → (text : List ℕ) → list_any p (map f text) ≡ list_any p text
list_any-map p f same [] = refl
list_any-map p f same (b ∷ bs) = rw (same b, list_any-map p f same bs)

-- and what stands before the first that does
before_first-map : (p : ℕ → Bool) (f : ℕ → ℕ) → ((b : ℕ) → p (f b) ≡ p b) → (text : List ℕ) → before_first p (map f text) ≡ map f (before_first p text)
before_first-map p f same text =
    ap (λ n. take n (map f text)) (position_or_len-map p f same text) ∙ take-map f (position_or_len p text) text

-- and what stands behind it
after_first-map : (p : ℕ → Bool) (f : ℕ → ℕ) → ((b : ℕ) → p (f b) ≡ p b) → (text : List ℕ) → after_first p (map f text) ≡ map f (after_first p text)
after_first-map p f same text =
    ap (λ n. drop (n + 1) (map f text)) (position_or_len-map p f same text) ∙ drop-map f (position_or_len p text + 1) text

-- a part of at most so many bytes
part-lowercase : (p : ℕ → Bool) (most : ℕ) → ((b : ℕ) → p (to_ascii_lowercase b) ≡ p b) → (text : List ℕ) → (nat_le (length (map to_ascii_lowercase text)) most && is_joined p (map to_ascii_lowercase text)) ≡ (nat_le (length text) most && is_joined p text)
part-lowercase p most same text =
    rw (length-map text to_ascii_lowercase, is_joined-map p to_ascii_lowercase same is_ascii_alphanumeric-lowercase text)

-- lower case keeps scopes
is_scope-lowercase : (text : List ℕ) → is_scope (scope_of (str_to_ascii_lowercase text)) ≡ is_scope (scope_of text)
is_scope-lowercase text =
    ap is_scope (before_first-map is_dot to_ascii_lowercase is_dot-lowercase text) ∙ part-lowercase is_hyphen 39 is_hyphen-lowercase (scope_of text)

-- it keeps names
is_name-lowercase : (text : List ℕ) → is_name (name_of (str_to_ascii_lowercase text)) ≡ is_name (name_of text)
is_name-lowercase text =
    ap is_name (after_first-map is_dot to_ascii_lowercase is_dot-lowercase text) ∙ part-lowercase is_hyphen_or_underscore 100 is_hyphen_or_underscore-lowercase (name_of text)

-- in lower case it changes nothing
lowercase_twice : (text : List ℕ) → map to_ascii_lowercase (map to_ascii_lowercase text) ≡ map to_ascii_lowercase text
lowercase_twice [] = refl
lowercase_twice (b ∷ bs) = rw (lowercase-lowercase b, lowercase_twice bs)

-- where no test refuses, the text in lower case is the answer
passes : (dot scope name : Bool) (lowered : Result (List ℕ) IdentFault) → dot ≡ true → scope ≡ true → name ≡ true → (if not dot then Err Dot else if not scope then Err Scope else if not name then Err Name else lowered) ≡ lowered
passes dot scope name lowered d s n = rw (d, s, n)

-- a text that passes each test is an identity in lower case
pub lowercase_identity : (text : List ℕ) → list_any is_dot text ≡ true → is_scope (scope_of text) ≡ true → is_name (name_of text) ≡ true → IsIdentity (str_to_ascii_lowercase text)
lowercase_identity text dot scope name =
    let low = str_to_ascii_lowercase text in
    let twice : Result (List ℕ) IdentFault = Ok (str_to_ascii_lowercase low) in
    passes (list_any is_dot low) (is_scope (scope_of low)) (is_name (name_of low)) twice
    (list_any-map is_dot to_ascii_lowercase is_dot-lowercase text ∙ dot)
    (is_scope-lowercase text ∙ scope)
    (is_name-lowercase text ∙ name)
    ∙ ap Ok (lowercase_twice text)
